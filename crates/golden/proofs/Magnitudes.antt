-- The size of an integer. Assumes nothing.
use mathlib.Core.Path.{◌≡◌, refl, sym, ◌∙◌, ap}
use Prim.Native.Nat.{ℕ, zero, suc, ◌+◌, ◌*◌, ◌≤◌, ◌<◌}
use native.Mathlib.Omega.{arith}
use lib.IntN.{ℤ, pos, negsuc, neg_ℤ, nat_abs, sub_ℕ, ◌+ℤ◌, ◌-ℤ◌, ◌*ℤ◌}
use lib.Signed.{◌<ℤ◌, ◌≤ℤ◌}
use Rattle.golden.proofs.IntegerOrder.{sub_ind, zarith}

pub abs_neg : (a : ℤ) → nat_abs (neg_ℤ a) ≡ nat_abs a
abs_neg (pos zero) = refl
abs_neg (pos (suc n)) = refl
abs_neg (negsuc n) = refl

abs_sub : (a b : ℕ) → nat_abs (sub_ℕ a b) ≤ a + b
abs_sub a b = sub_ind (λ (z : ℤ). nat_abs z ≤ a + b) a b (λ k e. omega arith) (λ k e. omega arith)

pub abs_add : (a b : ℤ) → nat_abs (a +ℤ b) ≤ nat_abs a + nat_abs b
abs_add (pos a) (pos b) = omega arith
abs_add (pos a) (negsuc b) = abs_sub a (suc b)
abs_add (negsuc a) (pos b) = omega (arith, abs_sub b (suc a))
abs_add (negsuc a) (negsuc b) = omega arith

pub abs_mul : (a b : ℤ) → nat_abs (a *ℤ b) ≡ nat_abs a * nat_abs b
abs_mul (pos a) (pos b) = refl
abs_mul (pos a) (negsuc b) = abs_neg (pos (a * suc b))
abs_mul (negsuc a) (pos b) = abs_neg (pos (suc a * b))
abs_mul (negsuc a) (negsuc b) = refl

pub neg_abs : (x : ℤ) → x <ℤ pos 0 → pos 0 -ℤ x ≡ pos (nat_abs x)
neg_abs (pos n) h = let z : ⊥ = omega (zarith) in absurd z
neg_abs (negsuc n) h = let e : 0 + suc n ≡ suc n = omega arith in ap pos e

pub pos_abs : (x : ℤ) → pos 0 ≤ℤ x → x ≡ pos (nat_abs x)
pos_abs (pos n) h = refl
pos_abs (negsuc n) h = absurd h.le

pub neg_of_abs : (x : ℤ) → x <ℤ pos 0 → x ≡ neg_ℤ (pos (nat_abs x))
neg_of_abs (pos n) h = let z : ⊥ = omega zarith in absurd z
neg_of_abs (negsuc n) h = refl

pub abs_above : (x : ℤ) → x <ℤ pos 0 → 0 < nat_abs x
abs_above (pos n) h = let z : ⊥ = omega zarith in absurd z
abs_above (negsuc n) h = omega arith

pub zero_abs : (x : ℤ) → nat_abs x ≡ 0 → x ≡ pos 0
zero_abs (pos a) e = ap pos e
zero_abs (negsuc a) e = absurd (omega arith)

-- a product of whole numbers is 0 only where one of them is
no_divisors : (m x : ℕ) → (m ≡ 0 → ⊥) → m * x ≡ 0 → x ≡ 0
no_divisors zero x n e = absurd (n refl)
no_divisors (suc m) x n e = omega arith

pub cancelℤ : (m x : ℤ) → (m ≡ pos 0 → ⊥) → m *ℤ x ≡ pos 0 → x ≡ pos 0
cancelℤ m x n e = zero_abs x (no_divisors (nat_abs m) (nat_abs x) (λ z. n (zero_abs m z)) (sym (abs_mul m x) ∙ ap nat_abs e))
