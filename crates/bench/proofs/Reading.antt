-- A direction as the machine reads its three numbers back is the direction handed in. Assumes nothing.
use mathlib.Core.Path.{◌≡◌}
use lib.IntN.{ℤ}
use mir.Syntax.{w32}
use mir.Val.{SFits, to_z, of_z}
use mir.Facts.{to_z-of_z}
use Rattle.filing.specs.declared.Direction.{Direction}

-- a number of 32 bits, written and read back
abbrev again : ℤ → ℤ
again z = to_z w32 (of_z w32 z)

abbrev pub at : (x y z : ℤ) → Direction
at x y z = record { x = x; y = y; z = z }

pub read_back : {x y z : ℤ} → SFits w32 x → SFits w32 y → SFits w32 z
    → at (again x) (again y) (again z) ≡ at x y z
read_back a b c = λ i. at (to_z-of_z a i) (to_z-of_z b i) (to_z-of_z c i)
