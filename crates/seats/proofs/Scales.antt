-- Sizes some times as large: by the bits of all three, none is too large and their sum is large enough.
-- Assumes nothing.
use mathlib.Core.Path.{◌≡◌, refl}
use Prim.Native.Nat.{ℕ, suc, ◌+◌, ◌-◌, ◌*◌, ◌≤◌, ◌<◌}
use native.Mathlib.Nat.{mul-le-mul_right}
use native.Mathlib.Omega.{arith}
use lib.Bits.{bit_or, or_add_and, and_le_l, and_le_r}
use Rattle.seats.specs.Means.Roles.{AreScaled}

-- the bits of two numbers are those of no smaller one, and not of more than their sum
left_bits : (a b : ℕ) → a ≤ bit_or a b
left_bits a b = omega (arith, or_add_and a b, and_le_r a b)

right_bits : (a b : ℕ) → b ≤ bit_or a b
right_bits a b = omega (arith, or_add_and a b, and_le_l a b)

all_bits : (a b : ℕ) → bit_or a b ≤ a + b
all_bits a b = omega (arith, or_add_and a b)

module _ (a b c : ℕ) where
  abbrev bits : ℕ
  bits = bit_or (bit_or a b) c

  pub a_bits : a ≤ bits
  a_bits = omega (arith, left_bits a b, left_bits (bit_or a b) c)

  pub b_bits : b ≤ bits
  b_bits = omega (arith, right_bits a b, left_bits (bit_or a b) c)

  pub c_bits : c ≤ bits
  c_bits = right_bits (bit_or a b) c

  bits_sum : bits ≤ a + b + c
  bits_sum = omega (arith, all_bits a b, all_bits (bit_or a b) c)

  pub scaled_is :
      (m : ℕ)
      → 0 < m
      → (0 < bits → 32768 ≤ m * bits)
      → m * a ≤ 1000000000
      → m * b ≤ 1000000000
      → m * c ≤ 1000000000
      → AreScaled a b c record { a = m * a; b = m * b; c = m * c }
  scaled_is m z g la lb lc =
      let e : suc (m - 1) ≡ m = omega arith in
      record {
        scale = m - 1;
        a_is = rw e refl;
        b_is = rw e refl;
        c_is = rw e refl;
        a_small = la;
        b_small = lb;
        c_small = lc;
        large = λ f. omega (arith, g (omega (arith, a_bits, b_bits, c_bits, f)), mul-le-mul_right m bits_sum);
      }
