-- Document 02, 2026-06: how the corners turned. Assumes nothing.
use Rattle.std.specs.Prelude.{◌≡◌, ℕ}
use Rattle.words.specs.declared.TriangleCode.{TriangleCode}
use Rattle.net.specs.Sides.{OneToThree, nth}
use Rattle.net.specs.Corners.{corner}

-- "the shared edge's two corners in rising number": of edge 1 they are 2 and 3, of edge 2 they are 1 and 3, of edge 3
-- they are 1 and 2
abbrev pub lower : (edge : ℕ) → ℕ
lower k = nth k 2 1 1

abbrev pub higher : (edge : ℕ) → ℕ
higher k = nth k 3 3 2

-- Corner i of t becomes corner j of t': "Two corners of one degree are the same point exactly when all twelve weights
-- agree."
abbrev pub Becomes : (t : TriangleCode) (i : ℕ) (t' : TriangleCode) (j : ℕ) → Type 0
Becomes t i t' j = OneToThree j × (corner t i ≡ corner t' j)

-- "for the shared edge's two corners in rising number, their numbers in the neighbour"
pub record Turned (t : TriangleCode) (k : ℕ) (t' : TriangleCode) (first second : ℕ) : Type 0 where
  pub lower_is : Becomes t (lower k) t' first
  pub higher_is : Becomes t (higher k) t' second
