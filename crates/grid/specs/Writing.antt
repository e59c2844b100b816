-- How examples are written: names, directions and answers. (Codes: crate words, Writing.) Assumes nothing.
use Rattle.std.specs.Prelude.{ℕ, ◌+◌, ℤ, pos, neg_ℤ}
use Rattle.std.specs.Float.{binary64}
use Rattle.std.specs.Float.Ieee.{of_bits}
use Rattle.golden.specs.declared.Golden.{Golden}
use Rattle.words.specs.Writing.{written}
use Rattle.words.specs.declared.CornerName.{CornerName}
use Rattle.net.specs.Corners.{name_of}
use Rattle.filing.specs.Coordinates.{coordinates}
use Rattle.filing.specs.declared.Direction.{Direction}
use Rattle.points.specs.Answers.{CoordinatesAnswer}
use Rattle.points.specs.Answers.{TicksAnswer}
use Rattle.points.specs.Answers.{PointAnswer}

-- ---- names

-- corner i of the code so written, as a name; it need not be the canonical one
abbrev pub corner_in : (s i : ℕ) → CornerName
corner_in s i = name_of ((written s).0 + i)

-- ---- directions and places

abbrev pub minus : ℕ → ℤ
minus n = neg_ℤ (pos n)

abbrev pub towards : (x y z : ℤ) → Direction
towards a b c = record { x = a; y = b; z = c }

-- (0,0,1)
abbrev pub up : Direction
up = towards (pos 0) (pos 0) (pos 1)

abbrev pub ticks : (x y z : ℤ) → TicksAnswer
ticks a b c = record { refusal = 0; at = record { x = a; y = b; z = c } }

-- exact coordinates
abbrev pub place : (x y z : Golden) → CoordinatesAnswer
place a b c = record { refusal = 0; at = coordinates a b c }

-- a point by its refusal and the bits of its coordinates
abbrev pub point : (refusal x y z : ℕ) → PointAnswer
point f a b c = record {
  refusal = f;
  at = record {
    x = of_bits binary64 a;
    y = of_bits binary64 b;
    z = of_bits binary64 c;
  };
}
