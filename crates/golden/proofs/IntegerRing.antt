-- The laws of ℤ as a commutative ring that its library leaves out. Assumes nothing.
use mathlib.Core.Path.{◌≡◌, sym, ◌∙◌, ap}
use Prim.Native.Nat.{zero, suc}
use lib.IntN.{ℤ, pos, negsuc, suc_ℤ, pred_ℤ, neg_ℤ, one, ◌+ℤ◌, ◌*ℤ◌, +ℤ_idl, +ℤ_assoc, +ℤ_comm, suc_ℤ-+ℤ, pred_ℤ-+ℤ, suc_ℤ-*ℤ, pred_ℤ-*ℤ, zero-*ℤ, *ℤ_comm, *ℤ-one, neg_ℤ-+ℤ, neg_ℤ-neg_ℤ, neg_ℤ-suc_ℤ, neg_ℤ-pred_ℤ}

-- induction by successor and predecessor
ind : (P : ℤ → Type 0) → P (pos zero) → ((k : ℤ) → P k → P (suc_ℤ k)) → ((k : ℤ) → P k → P (pred_ℤ k)) → (k : ℤ) → P k
ind P z s p (pos zero) = z
ind P z s p (pos (suc n)) = s (pos n) (ind P z s p (pos n))
ind P z s p (negsuc zero) = p (pos zero) z
ind P z s p (negsuc (suc n)) = p (negsuc n) (ind P z s p (negsuc n))

add_left_comm : (a b c : ℤ) → a +ℤ (b +ℤ c) ≡ b +ℤ (a +ℤ c)
add_left_comm a b c = sym (+ℤ_assoc a b c) ∙ ap (λ (x : ℤ). x +ℤ c) (+ℤ_comm a b) ∙ +ℤ_assoc b a c

ruleset addAC = (+ℤ_assoc, +ℤ_comm, add_left_comm)

pub add-mul : (a b c : ℤ) → (a +ℤ b) *ℤ c ≡ a *ℤ c +ℤ b *ℤ c
add-mul a b c = ind (λ (a : ℤ). (a +ℤ b) *ℤ c ≡ a *ℤ c +ℤ b *ℤ c)
    (simp (+ℤ_idl, zero-*ℤ))
    (λ k ih. simp (suc_ℤ-+ℤ, suc_ℤ-*ℤ, ih) (simp addAC))
    (λ k ih. simp (pred_ℤ-+ℤ, pred_ℤ-*ℤ, ih) (simp addAC))
    a

pub neg_mul : (a b : ℤ) → neg_ℤ a *ℤ b ≡ neg_ℤ (a *ℤ b)
neg_mul a b = ind (λ (a : ℤ). neg_ℤ a *ℤ b ≡ neg_ℤ (a *ℤ b))
    (simp (zero-*ℤ))
    (λ k ih. simp (neg_ℤ-suc_ℤ, pred_ℤ-*ℤ, suc_ℤ-*ℤ, ih, neg_ℤ-+ℤ))
    (λ k ih. simp (neg_ℤ-pred_ℤ, pred_ℤ-*ℤ, suc_ℤ-*ℤ, ih, neg_ℤ-+ℤ, neg_ℤ-neg_ℤ))
    a

pub mul_assoc : (a b c : ℤ) → (a *ℤ b) *ℤ c ≡ a *ℤ (b *ℤ c)
mul_assoc a b c = ind (λ (a : ℤ). (a *ℤ b) *ℤ c ≡ a *ℤ (b *ℤ c))
    (simp (zero-*ℤ))
    (λ k ih. simp (suc_ℤ-*ℤ, add-mul, ih))
    (λ k ih. simp (pred_ℤ-*ℤ, add-mul, neg_mul, ih))
    a

pub one-mul : (a : ℤ) → pos 1 *ℤ a ≡ a
unfolding one
one-mul a = *ℤ_comm (pos 1) a ∙ *ℤ-one a

-- -a is -1 times a
pub neg_is : (a : ℤ) → neg_ℤ a ≡ negsuc 0 *ℤ a
neg_is a = sym (neg_mul (pos 1) a ∙ ap neg_ℤ (one-mul a))
