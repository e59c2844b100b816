-- Document 02, 2026-12: "the opposite of a triangle and of a corner". Assumes nothing.
use Rattle.std.specs.Prelude.{◌≡◌, ℕ, zero, suc, neg_ℤ}
use Rattle.words.specs.Refusals.{IsCode}
use Rattle.words.specs.declared.TriangleCode.{TriangleCode}
use Rattle.words.specs.declared.CornerName.{CornerName}
use Rattle.net.specs.Sides.{OneToThree, nth}
use Rattle.net.specs.Corners.{corner, named}
use Rattle.net.specs.Names.{IsName}
use Rattle.filing.specs.Coordinates.{exact, negated}
use Rattle.filing.specs.declared.Direction.{Direction}

-- "keeps corner and edge 1, and exchanges 2 and 3, in digits too": a digit 0 stays
abbrev pub exchanged : ℕ → ℕ
exchanged zero = 0
exchanged (suc i) = nth (suc i) 1 3 2

-- "the negated direction"
abbrev pub negated_direction : Direction → Direction
negated_direction d = record { x = neg_ℤ d.x; y = neg_ℤ d.y; z = neg_ℤ d.z }

-- "the opposite of a triangle": the triangle of the degree whose corners are the three opposite points, where it "keeps
-- corner .. 1, and exchanges 2 and 3"
pub record IsOpposite (n : ℕ) (t t' : TriangleCode) : Type 0 where
  pub code : IsCode n t'
  pub negates : (i : ℕ) → OneToThree i → exact (corner t' (exchanged i)) ≡ negated (exact (corner t i))

-- "For every corner, the opposite name is canonical and has the coordinates negated."
pub record IsOppositeName (n : ℕ) (q q' : CornerName) : Type 0 where
  pub canonical : IsName n (named q') q'
  pub negates : exact (named q') ≡ negated (exact (named q))
