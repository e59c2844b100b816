-- A float that is exactly a fraction of whole numbers. Assumes nothing.
use Rattle.std.specs.Prelude.{Bool, true, false, ℕ, ℤ, pos, negsuc, nat_abs, T, Float}
use Rattle.std.specs.Float.{binary64}
use Rattle.std.specs.Float.Ieee.{fits, of_bits}
use Rattle.std.specs.Float.Ieee.Exact.{HasValue}

-- the sign of a whole number, as a float has it: zero is positive
abbrev pub is_neg : ℤ → Bool
is_neg (pos n) = false
is_neg (negsuc n) = true

-- x is a value of binary64, it is finite, it has the sign of t (plus for 0), and in size it is |t| / den, exactly
pub record IsFraction (x : Float) (t : ℤ) (den : ℕ) : Type 0 where
  pub value : HasValue x (is_neg t) (nat_abs t) den
  pub held : T (fits binary64 x)

-- "the positive zero": all its bits are 0
abbrev pub plus_zero : Float
plus_zero = of_bits binary64 0
