-- The product of two numbers u + vφ that are at least 0 is at least 0. Assumes nothing.
use mathlib.Core.Path.{◌≡◌, refl}
use mathlib.Core.Logic.{◌⊎◌, inl, inr, ⊎_elim}
use mathlib.Core.List.{[], ◌∷◌}
use Prim.Native.Nat.{ℕ, suc, ◌*◌, ◌≤◌}
use native.Mathlib.Nat.{mul-le-mul}
use native.Mathlib.Omega.{arith}
use lib.IntN.{ℤ, pos, negsuc, nat_abs, ◌+ℤ◌, ◌-ℤ◌, ◌*ℤ◌, +ℤ_comm}
use lib.Signed.{◌≤ℤ◌, ◌<ℤ◌}
use Rattle.golden.specs.declared.Golden.{Golden}
use Rattle.golden.specs.Numbers.{whole, ◌*φ◌}
use Rattle.golden.specs.Order.{Sign, w_of, NonNeg}
use Rattle.golden.proofs.RingSolver.{reify, done}
use Rattle.golden.proofs.IntegerSolver.{ℤ-ring, re, re_lit}
use Rattle.golden.proofs.IntegerOrder.{zarith, le_or_ltℤ, mul_nonneg, sub_nonneg, le_by, sub_ind}
use Rattle.golden.proofs.RootFive.{le_of_sq, cross_ge, cross_le}
use Rattle.golden.proofs.Magnitudes.{abs_mul, pos_abs}
use Rattle.golden.proofs.Signs.{to_squares, of_squares, squares_half}

-- the sign by one comparison of squares
abbrev Alt : ℤ → ℤ → Type 0
Alt w v = ((pos 0 ≤ℤ w) × ((pos 5 *ℤ (v *ℤ v)) ≤ℤ (w *ℤ w))) ⊎ ((pos 0 ≤ℤ v) × ((w *ℤ w) ≤ℤ (pos 5 *ℤ (v *ℤ v))))

lt_le : {a b : ℤ} → a <ℤ b → a ≤ℤ b
lt_le {a} {b} h = omega zarith

pub to_Alt : {w v : ℤ} → Sign w v → Alt w v
to_Alt {w} {v} (Sign.both f g) = ⊎_elim (λ h. inl (f, h)) (λ h. inr (g, lt_le h)) (le_or_ltℤ (pos 5 *ℤ (v *ℤ v)) (w *ℤ w))
to_Alt (Sign.left f g h) = inl (f, h)
to_Alt (Sign.right f g h) = inr (f, h)

pub of_Alt : {w v : ℤ} → Alt w v → Sign w v
of_Alt {w} {v} = ⊎_elim
    (λ p. ⊎_elim (λ h. Sign.both p.0 h) (λ h. Sign.left p.0 h p.1) (le_or_ltℤ (pos 0) v))
    (λ p. ⊎_elim (λ h. Sign.both h p.0) (λ h. Sign.right p.0 h p.1) (le_or_ltℤ (pos 0) w))

-- the squares over ℕ
sq_abs : (a : ℤ) → a *ℤ a ≡ pos (nat_abs a * nat_abs a)
sq_abs (pos n) = refl
sq_abs (negsuc n) = refl

sq→ : (w v : ℤ) → (pos 5 *ℤ (v *ℤ v)) ≤ℤ (w *ℤ w) → 5 * (nat_abs v * nat_abs v) ≤ nat_abs w * nat_abs w
sq→ w v h = let k : pos (5 * (nat_abs v * nat_abs v)) ≤ℤ pos (nat_abs w * nat_abs w) = rw (sq_abs w, sq_abs v) at h in omega zarith

sq← : (w v : ℤ) → (w *ℤ w) ≤ℤ (pos 5 *ℤ (v *ℤ v)) → nat_abs w * nat_abs w ≤ 5 * (nat_abs v * nat_abs v)
sq← w v h = let k : pos (nat_abs w * nat_abs w) ≤ℤ pos (5 * (nat_abs v * nat_abs v)) = rw (sq_abs w, sq_abs v) at h in omega zarith

-- m + z is not negative where |z| ≤ m
dominates : (m : ℕ) (z : ℤ) → nat_abs z ≤ m → pos 0 ≤ℤ (pos m +ℤ z)
dominates m (pos n) h = omega zarith
dominates m (negsuc n) h = sub_ind (λ (z : ℤ). pos 0 ≤ℤ z) m (suc n) (λ k e. omega zarith) (λ k e. let z : ⊥ = omega arith in absurd z)

module _ (w v x y : ℤ) where
  abbrev X : ℤ
  X = w *ℤ x +ℤ pos 5 *ℤ (v *ℤ y)

  abbrev Y : ℤ
  Y = w *ℤ y +ℤ v *ℤ x

  -- the norm is multiplicative
  norm_mul : X *ℤ X -ℤ pos 5 *ℤ (Y *ℤ Y) ≡ (w *ℤ w -ℤ pos 5 *ℤ (v *ℤ v)) *ℤ (x *ℤ x -ℤ pos 5 *ℤ (y *ℤ y))
  norm_mul = reify ℤ-ring (w ∷ v ∷ x ∷ y ∷ []) (λ σ k. simp (k 0, k 1, k 2, k 3, re_lit σ, re) (done ℤ-ring σ _ _ refl))

  norm_mul' : X *ℤ X -ℤ pos 5 *ℤ (Y *ℤ Y) ≡ (pos 5 *ℤ (v *ℤ v) -ℤ w *ℤ w) *ℤ (pos 5 *ℤ (y *ℤ y) -ℤ x *ℤ x)
  norm_mul' = reify ℤ-ring (w ∷ v ∷ x ∷ y ∷ []) (λ σ k. simp (k 0, k 1, k 2, k 3, re_lit σ, re) (done ℤ-ring σ _ _ refl))

  norm_mul'' : pos 5 *ℤ (Y *ℤ Y) -ℤ X *ℤ X ≡ (w *ℤ w -ℤ pos 5 *ℤ (v *ℤ v)) *ℤ (pos 5 *ℤ (y *ℤ y) -ℤ x *ℤ x)
  norm_mul'' = reify ℤ-ring (w ∷ v ∷ x ∷ y ∷ []) (λ σ k. simp (k 0, k 1, k 2, k 3, re_lit σ, re) (done ℤ-ring σ _ _ refl))

  X-nonneg : (a c : ℕ) → w ≡ pos a → x ≡ pos c → 5 * (nat_abs v * nat_abs y) ≤ a * c → pos 0 ≤ℤ X
  X-nonneg a c e f h = rw (e, f) (dominates (a * c) (pos 5 *ℤ (v *ℤ y)) (omega (arith, abs_mul (pos 5) (v *ℤ y), abs_mul v y)))

  X-nonneg' : (b d : ℕ) → v ≡ pos b → y ≡ pos d → nat_abs w * nat_abs x ≤ 5 * (b * d) → pos 0 ≤ℤ X
  X-nonneg' b d e f h = rw (e, f, +ℤ_comm (w *ℤ x) (pos (5 * (b * d)))) (dominates (5 * (b * d)) (w *ℤ x) (omega (arith, abs_mul w x)))

  Y-nonneg : (a d : ℕ) → w ≡ pos a → y ≡ pos d → nat_abs v * nat_abs x ≤ a * d → pos 0 ≤ℤ Y
  Y-nonneg a d e f h = rw (e, f) (dominates (a * d) (v *ℤ x) (omega (arith, abs_mul v x)))

  ge_ge : pos 0 ≤ℤ w → (pos 5 *ℤ (v *ℤ v)) ≤ℤ (w *ℤ w) → pos 0 ≤ℤ x → (pos 5 *ℤ (y *ℤ y)) ≤ℤ (x *ℤ x) → Alt X Y
  ge_ge h₁ h₂ h₃ h₄ = inl (
    X-nonneg (nat_abs w) (nat_abs x) (pos_abs w h₁) (pos_abs x h₃) (cross_ge (nat_abs w) (nat_abs v) (nat_abs x) (nat_abs y) (sq→ w v h₂) (sq→ x y h₄)),
    le_by _ _ _ norm_mul (mul_nonneg (sub_nonneg h₂) (sub_nonneg h₄)),
  )

  le_le : pos 0 ≤ℤ v → (w *ℤ w) ≤ℤ (pos 5 *ℤ (v *ℤ v)) → pos 0 ≤ℤ y → (x *ℤ x) ≤ℤ (pos 5 *ℤ (y *ℤ y)) → Alt X Y
  le_le h₁ h₂ h₃ h₄ = inl (
    X-nonneg' (nat_abs v) (nat_abs y) (pos_abs v h₁) (pos_abs y h₃) (cross_le (nat_abs w) (nat_abs v) (nat_abs x) (nat_abs y) (sq← w v h₂) (sq← x y h₄)),
    le_by _ _ _ norm_mul' (mul_nonneg (sub_nonneg h₂) (sub_nonneg h₄)),
  )

  ge_le : pos 0 ≤ℤ w → (pos 5 *ℤ (v *ℤ v)) ≤ℤ (w *ℤ w) → pos 0 ≤ℤ y → (x *ℤ x) ≤ℤ (pos 5 *ℤ (y *ℤ y)) → Alt X Y
  ge_le h₁ h₂ h₃ h₄ = inr (
    Y-nonneg (nat_abs w) (nat_abs y) (pos_abs w h₁) (pos_abs y h₃) (cross (nat_abs w) (nat_abs v) (nat_abs x) (nat_abs y) (sq→ w v h₂) (sq← x y h₄)),
    le_by _ _ _ norm_mul'' (mul_nonneg (sub_nonneg h₂) (sub_nonneg h₄)),
  )
    where
      cross : (a b c d : ℕ) → 5 * (b * b) ≤ a * a → c * c ≤ 5 * (d * d) → b * c ≤ a * d
      cross a b c d h k = le_of_sq (omega (arith, mul-le-mul h k))

Alt-mul : (w v x y : ℤ) → Alt w v → Alt x y → Alt (X w v x y) (Y w v x y)
Alt-mul w v x y = λ s t. ⊎_elim
    (λ p. ⊎_elim (λ q. ge_ge w v x y p.0 p.1 q.0 q.1) (λ q. ge_le w v x y p.0 p.1 q.0 q.1) t)
    (λ p. ⊎_elim (λ q. rw (swap_x, swap_y) (ge_le x y w v q.0 q.1 p.0 p.1)) (λ q. le_le w v x y p.0 p.1 q.0 q.1) t)
    s
  where
    swap_x : X w v x y ≡ X x y w v
    swap_x = reify ℤ-ring (w ∷ v ∷ x ∷ y ∷ []) (λ σ k. simp (k 0, k 1, k 2, k 3, re_lit σ, re) (done ℤ-ring σ _ _ refl))

    swap_y : Y w v x y ≡ Y x y w v
    swap_y = reify ℤ-ring (w ∷ v ∷ x ∷ y ∷ []) (λ σ k. simp (k 0, k 1, k 2, k 3, re_lit σ, re) (done ℤ-ring σ _ _ refl))

twice_w : (x y : Golden) → w_of (x *φ y) +ℤ w_of (x *φ y) ≡ X (w_of x) x.v (w_of y) y.v
unfolding ◌*φ◌
twice_w x y = reify ℤ-ring (x.u ∷ x.v ∷ y.u ∷ y.v ∷ []) (λ σ k. simp (k 0, k 1, k 2, k 3, re_lit σ, re) (done ℤ-ring σ _ _ refl))

twice_v : (x y : Golden) → (x *φ y).v +ℤ (x *φ y).v ≡ Y (w_of x) x.v (w_of y) y.v
unfolding ◌*φ◌
twice_v x y = reify ℤ-ring (x.u ∷ x.v ∷ y.u ∷ y.v ∷ []) (λ σ k. simp (k 0, k 1, k 2, k 3, re_lit σ, re) (done ℤ-ring σ _ _ refl))

pub *φ-nonneg : (x y : Golden) → NonNeg x → NonNeg y → NonNeg (x *φ y)
*φ-nonneg x y s t =
    let p : Sign (X (w_of x) x.v (w_of y) y.v) (Y (w_of x) x.v (w_of y) y.v) = of_Alt (Alt-mul (w_of x) x.v (w_of y) y.v (to_Alt s) (to_Alt t)) in
    let q : Sign (w_of (x *φ y) +ℤ w_of (x *φ y)) ((x *φ y).v +ℤ (x *φ y).v) = rw (twice_w x y, twice_v x y) p in
    of_squares _ _ (squares_half (w_of (x *φ y)) (x *φ y).v (to_squares _ _ q))

-- a whole number from 0 up
pub whole_nonneg : (n : ℕ) → NonNeg (whole (pos n))
whole_nonneg n = Sign.both (omega zarith) (omega zarith)
