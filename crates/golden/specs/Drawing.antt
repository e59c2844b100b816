-- Document 01, 'Coordinates for drawing', as document 02, 2026-02, amends it: the whole number t of a coordinate
-- u + vφ. Assumes nothing.
use Rattle.std.specs.Prelude.{ℤ, pos}
use Rattle.golden.specs.declared.Golden.{Golden}
use Rattle.golden.specs.Numbers.{whole, ◌+φ◌, negφ, ◌*φ◌}
use Rattle.golden.specs.Order.{NonNeg}

-- Twice d is at most 1. "The same rule says what t is": the rule for the sign, of 1 - 2d.
abbrev pub AtMostHalf : Golden → Type 0
AtMostHalf d = NonNeg (whole (pos 1) +φ negφ (d +φ d))

-- "the whole number nearest to" x: x is at most a half above t, and at most a half below it.
pub record IsNearest (x : Golden) (t : ℤ) : Type 0 where
  pub above : AtMostHalf (x +φ negφ (whole t))
  pub below : AtMostHalf (whole t +φ negφ x)

-- "the quantity": 65,536·(u + vφ)
abbrev pub quantity : Golden → Golden
quantity x = whole (pos 65536) *φ x

-- "From now on t is the whole number nearest to 65,536·(u + vφ)."
abbrev pub IsT : Golden → ℤ → Type 0
IsT x t = IsNearest (quantity x) t

abbrev pub square : Golden → Golden
square x = x *φ x

-- The whole number s is not nearer to x than t is: the square of x - s is at least that of x - t. No contract speaks of
-- it: that t is nearest exactly when no s is nearer is a promise (grid/specs/Nearest.antt).
abbrev pub NotNearer : (x : Golden) (t s : ℤ) → Type 0
NotNearer x t s = NonNeg (square (x +φ negφ (whole s)) +φ negφ (square (x +φ negφ (whole t))))
