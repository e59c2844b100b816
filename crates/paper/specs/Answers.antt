-- Document 02, 2026-13: the complete answers of the four calls, for every input: what the contracts cite. `out` is a
-- lent list as it comes, `new` as it is left. Assumes nothing.
use Rattle.std.specs.Prelude.{◌≡◌, List, ℕ}
use Rattle.frame.specs.Answers.{Answer, Lent, Listed}
use Rattle.words.specs.Words.{degree_of}
use Rattle.words.specs.Family.{no_code}
use Rattle.words.specs.declared.TriangleCode.{TriangleCode}
use Rattle.words.specs.declared.CornerName.{CornerName}
use Rattle.words.specs.Family.{CodeAnswer}
use Rattle.corners.specs.Answers.{count_answer, no_name, no_count}
use Rattle.corners.specs.Answers.{NameAnswer}
use Rattle.corners.specs.Answers.{CountAnswer}
use Rattle.notation.specs.Same.{SameDomain, SameVertex}
use Rattle.paper.specs.Refusals.{refuse_from_domain, refuse_from_vertex, refuse_to_domain, refuse_to_vertex}

-- ---- to our words

pub record FromDomain (xs : List ℕ) (r : CodeAnswer) : Type 0 where
  pub number : r.refusal ≡ 0
  pub same : SameDomain (degree_of r.code.0) xs r.code

abbrev pub FromDomainAnswer : List ℕ → CodeAnswer → Type 0
FromDomainAnswer xs r = Answer (refuse_from_domain xs) (FromDomain xs) no_code r

pub record FromVertex (xs : List ℕ) (r : NameAnswer) : Type 0 where
  pub number : r.refusal ≡ 0
  pub same : SameVertex (degree_of r.name.0) xs r.name

abbrev pub FromVertexAnswer : List ℕ → NameAnswer → Type 0
FromVertexAnswer xs r = Answer (refuse_from_vertex xs) (FromVertex xs) no_name r

-- ---- to the paper: the digits over the front of a lent list, and how many they are

abbrev pub ToDomainAnswer : TriangleCode → List ℕ → CountAnswer → List ℕ → Type 0
ToDomainAnswer t out r new =
    Lent (refuse_to_domain t out) (Listed (λ xs. SameDomain (degree_of t.0) xs t) (count_answer 0) out) no_count out r new

abbrev pub ToVertexAnswer : CornerName → List ℕ → CountAnswer → List ℕ → Type 0
ToVertexAnswer q out r new =
    Lent (refuse_to_vertex q out) (Listed (λ xs. SameVertex (degree_of q.0) xs q) (count_answer 0) out) no_count out r new
