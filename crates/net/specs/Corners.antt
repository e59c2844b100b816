-- Document 01, 'Division and weights' and 'The 64-bit words': the corners of a code, and the corner that a name names. Assumes nothing.
use Rattle.std.specs.Prelude.{◌≡◌, ℕ}
use Rattle.words.specs.Words.{degree_of, digits, side_of, corner_number}
use Rattle.words.specs.Words as words
use Rattle.words.specs.Family.{code_of}
use Rattle.words.specs.declared.TriangleCode.{TriangleCode}
use Rattle.words.specs.declared.CornerName.{CornerName}
use Rattle.net.specs.Sides.{OneToThree}
use Rattle.net.specs.Division.{Weights, Triangle, triangle, corner_of}

-- The weights of corner i of a triangle code.
unfoldable pub corner : TriangleCode → ℕ → Weights
corner t i = corner_of (side_of t.0) (digits t.0 (degree_of t.0)) i

-- Its three corners together.
abbrev pub triangle_of : TriangleCode → Triangle
triangle_of t = triangle (corner t 1) (corner t 2) (corner t 3)

-- p is a corner of the triangle t. ("Two corners of one degree are the same point exactly when all twelve weights agree.")
abbrev pub HasCorner : TriangleCode → Weights → Type 0
HasCorner t p = (i : ℕ) × OneToThree i × (corner t i ≡ p)

-- The triangle code inside a corner name, and the corner that the name names.
abbrev pub code_inside : CornerName → TriangleCode
code_inside r = code_of (words.inside r.0)

abbrev pub named : CornerName → Weights
named r = corner (code_inside r) (corner_number r.0)

abbrev pub name_of : ℕ → CornerName
name_of w = record { 0 = w }
