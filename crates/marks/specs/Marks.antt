-- Document 02, 2026-14: "a mark is nothing, one dot, or a segment between two points." Assumes nothing.
use Rattle.std.specs.Prelude.{◌≡◌, List, [], ◌∷◌, ℕ, None, Some}
use Rattle.words.specs.Words.{degree_of}
use Rattle.words.specs.declared.TriangleCode.{TriangleCode}
use Rattle.net.specs.Corners.{corner}
use Rattle.corners.specs.Turns.{lower, higher}
use Rattle.filing.specs.Coordinates.{exact}
use Rattle.filing.specs.Drawing.{IsPoint}
use Rattle.filing.specs.declared.Point.{Point}
use Rattle.tables.specs.Tables.{Sounding}
use Rattle.marks.specs.declared.Mark.{Mark}
use Rattle.marks.specs.declared.Mark.TheVariants.{Nothing, Dot, Segment}

-- "If the answer is an enum, a definition provides this paper's number and values for each of its cases.": the number
-- of points that a mark has, and these points
abbrev pub number_of : Mark → ℕ
number_of Nothing = 0
number_of (Dot p) = 1
number_of (Segment p q) = 2

abbrev pub points_of : Mark → List Point
points_of Nothing = []
points_of (Dot p) = p ∷ []
points_of (Segment p q) = p ∷ q ∷ []

-- m is the mark with this number and these points
pub record Shows (m : Mark) (number : ℕ) (points : List Point) : Type 0 where
  pub is : number_of m ≡ number
  pub are : points_of m ≡ points

-- "Coordinates are the ones for drawing as amended by 2026-02": p is where corner i of t is drawn
abbrev pub DrawnAt : TriangleCode → (i : ℕ) → Point → Type 0
DrawnAt t i p = IsPoint (degree_of t.0) (exact (corner t i)) p

-- "the answer is nothing where it has no reading, and otherwise a dot at its corner 1."
abbrev pub IsMark : TriangleCode → Sounding → Mark → Type 0
IsMark t None m = Shows m 0 []
IsMark t (Some x) m = (p : Point) × DrawnAt t 1 p × Shows m 1 (p ∷ [])

-- "Asked for an edge of a triangle, it is a segment between that edge's corners in rising number."
abbrev pub IsEdgeMark : TriangleCode → (edge : ℕ) → Mark → Type 0
IsEdgeMark t k m =
    (p : Point) × (q : Point) × DrawnAt t (lower k) p × DrawnAt t (higher k) q × Shows m 2 (p ∷ q ∷ [])
