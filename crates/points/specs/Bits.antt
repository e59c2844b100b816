-- Document 01, 'Coordinates for drawing': the 64 bits of the f64 equal to t divided by 65,536·2^N, field by field as IEEE 754 lays out
-- binary64: 1 bit of sign, 11 of exponent, 52 of digits. Assumes nothing.
use Rattle.std.specs.Prelude.{◌≡◌, cond, ℕ, zero, suc, ◌+◌, ◌-◌, ◌*◌, ◌^◌, ℤ, nat_abs}
use Rattle.std.specs.Float.{binary64}
use Rattle.std.specs.Float.Ieee.{size, to_bits}
use Rattle.filing.specs.Fractions.{is_neg}
use Rattle.filing.specs.declared.Ticks.{Ticks}
use Rattle.filing.specs.declared.Point.{Point}

-- where a has `size` binary digits, a / 2^(16 + n) lies from 2^(size - 17 - n) up to twice that; that exponent is kept as 1023 more
abbrev pub exponent : (n size : ℕ) → ℕ
exponent n size = 1006 + size - n

-- the 52 digits after the leading 1: a moved up to 53 binary digits, less the leading one
abbrev pub fraction : (size a : ℕ) → ℕ
fraction size a = a * 2 ^ (53 - size) - 2 ^ 52

-- all bits but the sign's; of zero they are all 0
abbrev pub magnitude : (n a : ℕ) → ℕ
magnitude n zero = 0
magnitude n (suc a) = exponent n (size (suc a)) * 2 ^ 52 + fraction (size (suc a)) (suc a)

-- the bits of t / (65,536·2^n)
unfoldable pub bits_of : (n : ℕ) (t : ℤ) → ℕ
bits_of n t = cond (is_neg t) (2 ^ 63) 0 + magnitude n (nat_abs t)

-- a point of degree n, from t on each axis
pub record HasBits (n : ℕ) (t : Ticks) (r : Point) : Type 0 where
  pub x : to_bits binary64 r.x ≡ bits_of n t.x
  pub y : to_bits binary64 r.y ≡ bits_of n t.y
  pub z : to_bits binary64 r.z ≡ bits_of n t.z
