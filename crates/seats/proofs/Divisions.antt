-- Division by two steps of twelve bits, and the third part of a sum from the other two. Assumes nothing.
use mathlib.Core.Path.{◌≡◌}
use mathlib.Core.Logic.{⊎_elim}
use Prim.Native.Nat.{ℕ, ◌+◌, ◌-◌, ◌*◌, ◌/◌, ◌%◌, ◌≤◌, ◌<◌}
use native.Mathlib.Nat.{div-add-mod', mod-lt, mul-le-mul_right, div-lt_iff_lt-mul}
use native.Mathlib.Omega.{arith}
use Rattle.golden.proofs.IntegerOrder.{le_or_lt}

-- ---- two steps

module _ (x s : ℕ) (l : x ≤ s) (z : 0 < s) where
  abbrev a : ℕ
  a = 4096 * x

  abbrev b : ℕ
  b = 4096 * (a % s)

  pub a_rest : a % s < s
  a_rest = mod-lt a z

  pub b_rest : b % s < s
  b_rest = mod-lt b z

  pub two_steps : 16777216 * x ≡ (4096 * (a / s) + b / s) * s + b % s
  two_steps = omega (arith, div-add-mod' a s, div-add-mod' b s)

  pub a_small : a / s < 4097
  a_small = (div-lt_iff_lt-mul {k = s} {x = a} {y = 4097} z).1 (omega arith)

  pub b_small : b / s < 4096
  b_small = (div-lt_iff_lt-mul {k = s} {x = b} {y = 4096} z).1 (omega (arith, a_rest))

-- ---- what two parts leave for the third

-- f parts and something more are not above n parts: f is below n
pub parts_under : (n f t s : ℕ) → 0 < t → f * s + t ≤ n * s → f < n
parts_under n f t s p h = ⊎_elim (λ l. absurd (omega (arith, mul-le-mul_right s l))) (λ l. l) (le_or_lt n f)

-- no more than all parts
pub parts_most : (f r x s : ℕ) → x ≤ s → 0 < s → 16777216 * x ≡ f * s + r → f ≤ 16777216
parts_most f r x s l z e = omega (arith, parts_under 16777217 f s s z (omega arith))

-- the third has what is missing
pub third_is : (n f t s r : ℕ) → f ≤ n → n * s + (t + r) ≡ 16777216 * s
    → (f + (n - f)) * s + (t + r) ≡ 16777216 * s
third_is n f t s r l h = let e : f + (n - f) ≡ n = omega arith in rw e h
