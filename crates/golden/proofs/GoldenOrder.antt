-- The order of the numbers u + vφ: total, closed under adding and halving, and 0 alone is at least and at most 0. Assumes nothing.
use mathlib.Core.Path.{◌≡◌, refl, subst}
use mathlib.Core.Logic.{◌⊎◌, inl, inr, ⊎_elim}
use mathlib.Core.Bool.{Bool, true, false, not}
use mathlib.Core.List.{[], ◌∷◌}
use native.Mathlib.Omega.{arith}
use lib.Dec.{T}
use lib.IntN.{pos, neg_ℤ, ◌+ℤ◌}
use Rattle.golden.specs.declared.Golden.{Golden}
use Rattle.golden.specs.Numbers.{◌+φ◌, negφ}
use Rattle.golden.specs.Order.{w_of, NonNeg}
use Rattle.golden.proofs.RingSolver.{reify, done}
use Rattle.golden.proofs.IntegerSolver.{ℤ-ring, re, re_lit}
use Rattle.golden.proofs.IntegerOrder.{difs, split}
use Rattle.golden.proofs.Signs.{to_squares, of_squares, squares_total, squares_add, squares_half, squares_antisym, sign_test, test_yes, yes_test}

w_of_add : (x y : Golden) → w_of (x +φ y) ≡ w_of x +ℤ w_of y
unfolding ◌+φ◌
w_of_add x y = reify ℤ-ring (x.u ∷ x.v ∷ y.u ∷ y.v ∷ []) (λ σ k. simp (k 0, k 1, k 2, k 3, re_lit σ, re) (done ℤ-ring σ _ _ refl))

w_of_neg : (x : Golden) → w_of (negφ x) ≡ neg_ℤ (w_of x)
unfolding negφ
w_of_neg x = reify ℤ-ring (x.u ∷ x.v ∷ []) (λ σ k. simp (k 0, k 1, re_lit σ, re) (done ℤ-ring σ _ _ refl))

-- the same number is at least 0
pub nonneg_by : {x y : Golden} → x ≡ y → NonNeg x → NonNeg y
nonneg_by e s = subst (λ (x : Golden). NonNeg x) e s

pub total : (x : Golden) → NonNeg x ⊎ NonNeg (negφ x)
unfolding negφ
total x = ⊎_elim (λ s. inl (of_squares _ _ s)) (λ s. inr (rw w_of_neg (of_squares _ _ s))) (squares_total (w_of x) x.v)

pub add_nonneg : (x y : Golden) → NonNeg x → NonNeg y → NonNeg (x +φ y)
unfolding ◌+φ◌
add_nonneg x y s t = rw w_of_add (of_squares _ _ (squares_add (w_of x) x.v (w_of y) y.v (to_squares _ _ s) (to_squares _ _ t)))

pub half_nonneg : (x : Golden) → NonNeg (x +φ x) → NonNeg x
unfolding ◌+φ◌
half_nonneg x s = of_squares _ _ (squares_half (w_of x) x.v (to_squares _ _ (rw w_of_add at s)))

pub antisym : (x : Golden) → NonNeg x → NonNeg (negφ x) → (x.u ≡ pos 0) × (x.v ≡ pos 0)
unfolding negφ
antisym x s t = go (squares_antisym (w_of x) x.v (to_squares _ _ s) (to_squares _ _ (rw w_of_neg at t)))
  where
    go : (w_of x ≡ pos 0) × (x.v ≡ pos 0) → (x.u ≡ pos 0) × (x.v ≡ pos 0)
    go z = (split x.u λ p n e. split x.v λ q m f. simp (e, difs) (omega (arith, simp (e, f, difs) at z.0, simp (f, difs) at z.1)), z.1)

-- whether it is at least 0, as a test that antt computes
abbrev pub non_neg : Golden → Bool
non_neg x = sign_test (w_of x) x.v

pub is_nonneg : (x : Golden) → T (non_neg x) → NonNeg x
is_nonneg x t = test_yes (w_of x) x.v t

pub not_nonneg : (x : Golden) → T (not (non_neg x)) → NonNeg x → ⊥
not_nonneg x t s = go (non_neg x) t (yes_test (w_of x) x.v s)
  where
    go : (b : Bool) → T (not b) → T b → ⊥
    go true t s = t
    go false t s = s

pub nonneg_or_not : (x : Golden) → NonNeg x ⊎ (NonNeg x → ⊥)
nonneg_or_not x = go (non_neg x) (is_nonneg x) (not_nonneg x)
  where
    go : (b : Bool) → (T b → NonNeg x) → (T (not b) → NonNeg x → ⊥) → NonNeg x ⊎ (NonNeg x → ⊥)
    go true f g = inl (f tt)
    go false f g = inr (g tt)
