-- Document 02, 2026-13: what is promised of the translator, sentence by sentence. Assumes nothing.
use Rattle.std.specs.Prelude.{◌≡◌, List, [], ◌∷◌, ◌++◌, reverse, ℕ, suc, ◌≤◌, length, take}
use Rattle.frame.specs.Answers.{over}
use Rattle.frame.specs.Promises.{Keeps, KeepsLent}
use Rattle.words.specs.Words.{side, path, word_of}
use Rattle.words.specs.Family.{code_of, code_answer, no_code}
use Rattle.words.specs.declared.TriangleCode.{TriangleCode}
use Rattle.words.specs.declared.CornerName.{CornerName}
use Rattle.words.specs.Family.{CodeAnswer}
use Rattle.net.specs.Sides.{OneToThree, after}
use Rattle.net.specs.Division.{pick_corner, kept, middle}
use Rattle.net.specs.Corners.{corner, named}
use Rattle.corners.specs.Answers.{count_answer, name_answer, no_name, no_count}
use Rattle.corners.specs.Answers.{NameAnswer}
use Rattle.corners.specs.Answers.{CountAnswer}
use Rattle.notation.specs.Domains.{at, domain, c1, c2, c3}
use Rattle.notation.specs.Vertices.{base_pair, pair_by, point}
use Rattle.paper.specs.Refusals.{refuse_from_domain, refuse_from_vertex, refuse_to_domain, refuse_to_vertex}
use Rattle.paper.specs.Refusals.{domain_places, vertex_places}
use Rattle.paper.specs.Answers.{FromDomainAnswer, FromVertexAnswer, ToDomainAnswer, ToVertexAnswer}

-- Demand 1, of these calls: exactly one answer for every input, a refusal by its number, with zeros, and with the lent
-- list as it came.
pub record OneAnswer : Type 0 where
  pub from_domain : (xs : List ℕ) → Keeps (refuse_from_domain xs) (FromDomainAnswer xs) (λ r. r.refusal) no_code
  pub from_vertex : (xs : List ℕ) → Keeps (refuse_from_vertex xs) (FromVertexAnswer xs) (λ r. r.refusal) no_name
  pub to_domain : (t : TriangleCode) (out : List ℕ)
      → KeepsLent (refuse_to_domain t out) (ToDomainAnswer t out) (λ r. r.refusal) no_count out
  pub to_vertex : (q : CornerName) (out : List ℕ)
      → KeepsLent (refuse_to_vertex q out) (ToVertexAnswer q out) (λ r. r.refusal) no_count out

-- "There and back gives the same code": from the paper's, and from ours
pub record ThereAndBack : Type 0 where
  pub domain : (xs out new : List ℕ) (r : CodeAnswer) (c : CountAnswer) → FromDomainAnswer xs r → r.refusal ≡ 0
      → domain_places ≤ length out → ToDomainAnswer r.code out c new
      → (c ≡ count_answer 0 (length xs)) × (new ≡ over xs out)
  pub code : (t : TriangleCode) (out new : List ℕ) (c : CountAnswer) (r : CodeAnswer) → ToDomainAnswer t out c new
      → c.refusal ≡ 0 → FromDomainAnswer (take c.count new) r → r ≡ code_answer 0 t
  pub vertex : (xs out new : List ℕ) (r : NameAnswer) (c : CountAnswer) → FromVertexAnswer xs r → r.refusal ≡ 0
      → vertex_places ≤ length out → ToVertexAnswer r.name out c new
      → (c ≡ count_answer 0 (length xs)) × (new ≡ over xs out)
  pub name : (q : CornerName) (out new : List ℕ) (c : CountAnswer) (r : NameAnswer) → ToVertexAnswer q out c new
      → c.refusal ≡ 0 → FromVertexAnswer (take c.count new) r → r ≡ name_answer 0 q

-- "and translated corners have the same weights": each of the three of a triangle, and the one that a name names
pub record SameWeights : Type 0 where
  pub from_domain : (xs : List ℕ) (r : CodeAnswer) → FromDomainAnswer xs r → r.refusal ≡ 0
      → (i : ℕ) → OneToThree i → pick_corner i (domain xs) ≡ corner r.code i
  pub to_domain : (t : TriangleCode) (out new : List ℕ) (c : CountAnswer) → ToDomainAnswer t out c new
      → c.refusal ≡ 0 → (i : ℕ) → OneToThree i → pick_corner i (domain (take c.count new)) ≡ corner t i
  pub from_vertex : (xs : List ℕ) (r : NameAnswer) → FromVertexAnswer xs r → r.refusal ≡ 0 → point xs ≡ named r.name
  pub to_vertex : (q : CornerName) (out new : List ℕ) (c : CountAnswer) → ToVertexAnswer q out c new
      → c.refusal ≡ 0 → point (take c.count new) ≡ named q

-- "with its own corner order in formulae (16) to (19) and (24) to (27)": as they are printed these are document 01's,
-- and so a triangle has the same digits in both notations
pub record SameDigits : Type 0 where
  pub domain : (a p q : ℕ) (rs : List ℕ) (r : CodeAnswer) → FromDomainAnswer (a ∷ p ∷ q ∷ rs) r → r.refusal ≡ 0
      → r.code ≡ code_of (word_of (side a p q) (length rs) (path (reverse rs)))

-- "The paper's text decides its form": what it prints besides of the vertices that are not polar. The code T is the
-- list suc a ∷ p ∷ ss, and Ts the same with s after it.
pub record AsPrinted : Type 0 where
  -- (35) V2(Σ(0)) = V3(Σ(1)) = V(T), V3(Σ(0)) = V2(Σ(1))
  pub base : (a p : ℕ) (ss : List ℕ) → (pair_by ss (base_pair (suc a) p)).first.a3 ≡ point (suc a ∷ p ∷ ss)
  pub other : (a p : ℕ) (ss : List ℕ)
      → (pair_by ss (base_pair (suc a) p)).zeroth.a3 ≡ (pair_by ss (base_pair (suc a) p)).first.a2
  -- (36) V(T0) = V(T), V(T1) = C1(Σ(0)) = C1(Σ(1))
  pub direction0 : (a p : ℕ) (ss : List ℕ)
      → point (suc a ∷ p ∷ (ss ++ (0 ∷ []))) ≡ kept (point (suc a ∷ p ∷ ss))
  pub direction1 : (a p : ℕ) (ss : List ℕ)
      → point (suc a ∷ p ∷ (ss ++ (1 ∷ []))) ≡ c1 (pair_by ss (base_pair (suc a) p)).zeroth
  pub direction1too : (a p : ℕ) (ss : List ℕ)
      → point (suc a ∷ p ∷ (ss ++ (1 ∷ []))) ≡ c1 (pair_by ss (base_pair (suc a) p)).first
  -- (37) V(T2) = C2(Σ(1)), V(T3) = C3(Σ(0))
  pub direction2 : (a p : ℕ) (ss : List ℕ)
      → point (suc a ∷ p ∷ (ss ++ (2 ∷ []))) ≡ c2 (pair_by ss (base_pair (suc a) p)).first
  pub direction3 : (a p : ℕ) (ss : List ℕ)
      → point (suc a ∷ p ∷ (ss ++ (3 ∷ []))) ≡ c3 (pair_by ss (base_pair (suc a) p)).zeroth
  -- (63) V(a01) = C(V(a0), V(a+0))        (64) V(a02) = C(V(a0), V(a1))        (65) V(a03) = C(V(a0), V(00))
  pub v01 : (a : ℕ) → point (suc a ∷ 0 ∷ 1 ∷ []) ≡ middle (at (suc a) 0) (at (after (suc a)) 0)
  pub v02 : (a : ℕ) → point (suc a ∷ 0 ∷ 2 ∷ []) ≡ middle (at (suc a) 0) (at (suc a) 1)
  pub v03 : (a : ℕ) → point (suc a ∷ 0 ∷ 3 ∷ []) ≡ middle (at (suc a) 0) (at 0 0)
  -- (66) V(a11) = C(V(a1), V(a+1))        (67) V(a12) = C(V(a1), V(01))        (68) V(a13) = C(V(a1), V(a+0))
  pub v11 : (a : ℕ) → point (suc a ∷ 1 ∷ 1 ∷ []) ≡ middle (at (suc a) 1) (at (after (suc a)) 1)
  pub v12 : (a : ℕ) → point (suc a ∷ 1 ∷ 2 ∷ []) ≡ middle (at (suc a) 1) (at 0 1)
  pub v13 : (a : ℕ) → point (suc a ∷ 1 ∷ 3 ∷ []) ≡ middle (at (suc a) 1) (at (after (suc a)) 0)
