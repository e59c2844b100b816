-- Document 02, 2026-14: the complete answer of the two calls for marks, for every input: what their contracts cite.
-- Assumes nothing.
use Rattle.std.specs.Prelude.{◌≡◌, List, ℕ, ℤ, Result}
use Rattle.frame.specs.declared.Refusal.{Refusal}
use Rattle.frame.specs.Refusals.{told}
use Rattle.frame.specs.Answers.{Answer}
use Rattle.words.specs.declared.TriangleCode.{TriangleCode}
use Rattle.corners.specs.Refusals.{refuse_numbered}
use Rattle.tables.specs.Tables.{said, number_at}
use Rattle.tables.specs.Refusals.{refuse_get}
use Rattle.tables.specs.Answers.{place_for, told_placed}
use Rattle.tables.specs.declared.TableRefusal.{TableRefusal}
use Rattle.marks.specs.declared.Mark.{Mark}
use Rattle.marks.specs.declared.Mark.TheVariants.{Nothing}
use Rattle.marks.specs.Marks.{IsMark, IsEdgeMark}

-- A mark; or a refusal's number, beside 23 the least bad place, and the mark nothing.
pub record MarkAnswer : Type 0 where
  pub refusal : ℕ
  pub place : ℕ
  pub mark : Mark

abbrev pub mark_answer : (refusal place : ℕ) → Mark → MarkAnswer
mark_answer f p m = record { refusal = f; place = p; mark = m }

-- An answer that is no refusal, with such a mark.
pub record Marked (Good : Mark → Type 0) (r : MarkAnswer) : Type 0 where
  pub number : r.refusal ≡ 0
  pub place : r.place ≡ 0
  pub is : Good r.mark

-- ---- a triangle of a table. "Refusals are those already numbered, with the mark nothing.": they are those of get, 23
-- ---- with its place

abbrev pub no_mark : List ℤ → (refusal : ℕ) → MarkAnswer
no_mark list f = mark_answer f (place_for list f) Nothing

-- the same of a call's result
abbrev pub mark_told : Result Mark TableRefusal → MarkAnswer
mark_told r = told_placed (mark_answer 0 0) (λ f p. mark_answer f p Nothing) r

abbrev pub TableMarkAnswer : (degree : ℕ) → TriangleCode → List ℤ → MarkAnswer → Type 0
TableMarkAnswer n t list r =
    Answer (refuse_get n t list) (Marked (IsMark t (said (number_at t list)))) (no_mark list) r

-- ---- an edge of a triangle: they are those of crossing it

abbrev pub no_edge_mark : (refusal : ℕ) → MarkAnswer
no_edge_mark f = mark_answer f 0 Nothing

abbrev pub edge_mark_told : Result Mark Refusal → MarkAnswer
edge_mark_told r = told (mark_answer 0 0) no_edge_mark r

abbrev pub EdgeMarkAnswer : TriangleCode → (edge : ℕ) → MarkAnswer → Type 0
EdgeMarkAnswer t k r = Answer (refuse_numbered t k) (Marked (IsEdgeMark t k)) no_edge_mark r
