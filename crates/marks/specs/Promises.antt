-- Document 02, 2026-14: what is promised of the calls for marks. Assumes nothing.
use Rattle.std.specs.Prelude.{◌≡◌, ◌⊎◌, ◌↔◌, List, [], ◌∷◌, ℕ, ℤ, None}
use Rattle.frame.specs.Promises.{Keeps}
use Rattle.words.specs.declared.TriangleCode.{TriangleCode}
use Rattle.corners.specs.Refusals.{refuse_numbered}
use Rattle.corners.specs.Turns.{lower, higher}
use Rattle.corners.specs.Answers.{CrossAnswer}
use Rattle.corners.specs.Answers.{StepAnswer}
use Rattle.points.specs.Answers.{DrawAnswer}
use Rattle.points.specs.Answers.{PointAnswer}
use Rattle.filing.specs.declared.Point.{Point}
use Rattle.tables.specs.Refusals.{refuse_get}
use Rattle.tables.specs.Answers.{GetAnswer}
use Rattle.tables.specs.Answers.{SoundingAnswer}
use Rattle.marks.specs.Answers.{MarkAnswer}
use Rattle.marks.specs.Marks.{number_of, Shows}
use Rattle.marks.specs.Answers.{no_mark, no_edge_mark, TableMarkAnswer, EdgeMarkAnswer}

-- Demand 1, of these calls: exactly one answer for every input. "Refusals are those already numbered, with the mark
-- nothing."
pub record OneAnswer : Type 0 where
  pub table : (n : ℕ) (t : TriangleCode) (list : List ℤ)
      → Keeps (refuse_get n t list) (TableMarkAnswer n t list) (λ r. r.refusal) (no_mark list)
  pub edge : (t : TriangleCode) (k : ℕ)
      → Keeps (refuse_numbered t k) (EdgeMarkAnswer t k) (λ r. r.refusal) no_edge_mark

-- "Asked for a triangle of a table, the answer is nothing where it has no reading, and otherwise a dot", as get says of
-- the same table; and its refusals are those of get, 23 with its place
pub record OfTable : Type 0 where
  pub nothing : (n : ℕ) (t : TriangleCode) (list : List ℤ) (r : MarkAnswer) (g : SoundingAnswer)
      → TableMarkAnswer n t list r → GetAnswer n t list g
      → (g.sounding ≡ None) ↔ Shows r.mark 0 []
  pub dot : (n : ℕ) (t : TriangleCode) (list : List ℤ) (r : MarkAnswer) (g : SoundingAnswer)
      → TableMarkAnswer n t list r → GetAnswer n t list g
      → (g.sounding ≡ None → ⊥) ↔ (number_of r.mark ≡ 1)
  pub refused : (n : ℕ) (t : TriangleCode) (list : List ℤ) (r : MarkAnswer) (g : SoundingAnswer)
      → TableMarkAnswer n t list r → GetAnswer n t list g
      → (r.refusal ≡ g.refusal) × (r.place ≡ g.place)

-- "Coordinates are the ones for drawing as amended by 2026-02, equal bit for bit.": the points are the very ones that
-- the call for drawing answers
pub record AsDrawn : Type 0 where
  -- "a dot at its corner 1"
  pub dot : (n : ℕ) (t : TriangleCode) (list : List ℤ) (r : MarkAnswer) (a : PointAnswer)
      → TableMarkAnswer n t list r → number_of r.mark ≡ 1 → DrawAnswer t 1 a → Shows r.mark 1 (a.at ∷ [])
  -- "a segment between that edge's corners in rising number"
  pub segment : (t : TriangleCode) (k : ℕ) (r : MarkAnswer) (a b : PointAnswer)
      → EdgeMarkAnswer t k r → r.refusal ≡ 0 → DrawAnswer t (lower k) a → DrawAnswer t (higher k) b
      → Shows r.mark 2 (a.at ∷ b.at ∷ [])

-- Between the same two points, each edge is drawn once, whichever of its two triangles is asked about.
pub record OneLine : Type 0 where
  pub across_it : (t : TriangleCode) (k : ℕ) (s : StepAnswer) (r r' : MarkAnswer) (p q : Point)
      → CrossAnswer t k s → EdgeMarkAnswer t k r → EdgeMarkAnswer s.code s.edge r'
      → Shows r.mark 2 (p ∷ q ∷ []) → Shows r'.mark 2 (p ∷ q ∷ []) ⊎ Shows r'.mark 2 (q ∷ p ∷ [])
