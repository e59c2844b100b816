-- Document 01, 'Vertices and sides': φ itself. Assumes nothing.
use mathlib.Core.Path.{◌≡◌, refl}
use lib.IntN.{pos}
use Rattle.golden.specs.Numbers.{golden, whole, ◌+φ◌, ◌*φ◌}
use Rattle.golden.specs.Order.{NonNeg}
use Rattle.golden.proofs.GoldenOrder.{is_nonneg}

-- "φ is the positive root of φ² = φ + 1."
pub phi : (golden (pos 0) (pos 1) *φ golden (pos 0) (pos 1) ≡ golden (pos 0) (pos 1) +φ whole (pos 1)) × NonNeg (golden (pos 0) (pos 1))
unfolding ◌+φ◌ ◌*φ◌
phi = (refl, is_nonneg (golden (pos 0) (pos 1)) tt)
