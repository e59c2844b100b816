-- Document 01, 'Coordinates for drawing'. Assumes nothing.
use Rattle.std.specs.Prelude.{ℕ, ◌*◌, ◌^◌, ℤ, Float}
use Rattle.golden.specs.Drawing.{IsT}
use Rattle.golden.specs.declared.Golden.{Golden}
use Rattle.filing.specs.Fractions.{IsFraction}
use Rattle.filing.specs.declared.Coordinates.{Coordinates}
use Rattle.filing.specs.declared.Ticks.{Ticks}
use Rattle.filing.specs.declared.Point.{Point}

-- "On each axis take t"
pub record AreTicks (c : Coordinates) (r : Ticks) : Type 0 where
  pub x : IsT c.x r.x
  pub y : IsT c.y r.y
  pub z : IsT c.z r.z

-- "The drawn coordinate is the f64 equal to t divided by 65,536·2^N."
abbrev pub IsDrawn : ℕ → Golden → Float → Type 0
IsDrawn n a r = (t : ℤ) × IsT a t × IsFraction r t (65536 * 2 ^ n)

-- "A point with three floating coordinates is one answer."
pub record IsPoint (n : ℕ) (c : Coordinates) (r : Point) : Type 0 where
  pub x : IsDrawn n c.x r.x
  pub y : IsDrawn n c.y r.y
  pub z : IsDrawn n c.z r.z
