-- Document 01, 'Filing a direction': the first words for holding, by multipliers. Assumes nothing.
use Rattle.std.specs.Prelude.{◌≡◌, pos}
use Rattle.golden.specs.Numbers.{whole}
use Rattle.golden.specs.Order.{NonNeg}
use Rattle.golden.specs.declared.Golden.{Golden}
use Rattle.words.specs.declared.TriangleCode.{TriangleCode}
use Rattle.net.specs.Corners.{corner}
use Rattle.filing.specs.Coordinates.{◌+ᵛ◌, times, exact}
use Rattle.filing.specs.Holding.{along}
use Rattle.filing.specs.declared.Coordinates.{Coordinates}
use Rattle.filing.specs.declared.Direction.{Direction}

-- g is a sum of a, b, c with the multipliers m1/m, m2/m, m3/m, which are zero or more: m, above 0, is their common denominator.
pub record IsSumOf (a b c g : Coordinates) : Type 0 where
  pub m : Golden
  pub m1 : Golden
  pub m2 : Golden
  pub m3 : Golden
  pub m_ok : NonNeg m
  pub m_some : m ≡ whole (pos 0) → ⊥
  pub m1_ok : NonNeg m1
  pub m2_ok : NonNeg m2
  pub m3_ok : NonNeg m3
  pub sum : times m g ≡ times m1 a +ᵛ times m2 b +ᵛ times m3 c

-- "it is a sum of the three corner directions with multipliers that are zero or more"
abbrev pub IsSum : TriangleCode → Direction → Type 0
IsSum t d = IsSumOf (exact (corner t 1)) (exact (corner t 2)) (exact (corner t 3)) (along d)
