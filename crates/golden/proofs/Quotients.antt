-- A number u + vφ is at least 0 where its product with one above 0 is: the numbers have no divisors of 0, for m times its conjugate is a
-- whole number, and √5 is irrational. Assumes nothing.
use mathlib.Core.Path.{◌≡◌, refl, sym, ◌∙◌, ap}
use mathlib.Core.Logic.{⊎_elim}
use mathlib.Core.List.{[], ◌∷◌}
use Prim.Native.Nat.{ℕ, suc, ◌*◌}
use native.Mathlib.Omega.{arith}
use lib.IntN.{ℤ, pos, neg_ℤ, nat_abs, ◌+ℤ◌, ◌*ℤ◌}
use Rattle.golden.specs.declared.Golden.{Golden}
use Rattle.golden.specs.Numbers.{golden, whole, negφ, ◌*φ◌}
use Rattle.golden.specs.Order.{NonNeg}
use Rattle.golden.proofs.IntegerOrder.{difs, split}
use Rattle.golden.proofs.IntegerSolver.{ℤ-ring, re, re_lit}
use Rattle.golden.proofs.Polynomials.{var, ⊖, ◌⊗◌}
use Rattle.golden.proofs.RingSolver.{solve, reify, done}
use Rattle.golden.proofs.RootFive.{irrational}
use Rattle.golden.proofs.Magnitudes.{abs_mul, zero_abs, cancelℤ}
use Rattle.golden.proofs.GoldenRing.{φ_path, φ_ring, *φ-comm, zero_mulφ, scale}
use Rattle.golden.proofs.GoldenOrder.{nonneg_by, total, antisym}
use Rattle.golden.proofs.GoldenProduct.{*φ-nonneg, whole_nonneg}

abbrev 0φ : Golden
0φ = whole (pos 0)

-- u + v - vφ: φ and 1 - φ are the two roots
abbrev pub conjugate : Golden → Golden
conjugate m = golden (m.u +ℤ m.v) (neg_ℤ m.v)

-- (u + vφ)(u + v - vφ)
abbrev pub norm : Golden → ℤ
norm m = m.u *ℤ m.u +ℤ m.u *ℤ m.v +ℤ neg_ℤ (m.v *ℤ m.v)

-- the conjugate of m times m times x
norm_parts : (m x : Golden) → conjugate m *φ (m *φ x) ≡ golden (norm m *ℤ x.u) (norm m *ℤ x.v)
unfolding ◌*φ◌
norm_parts m x = φ_path
    (reify ℤ-ring (m.u ∷ m.v ∷ x.u ∷ x.v ∷ []) (λ σ k. simp (k 0, k 1, k 2, k 3, re) (done ℤ-ring σ _ _ refl)))
    (reify ℤ-ring (m.u ∷ m.v ∷ x.u ∷ x.v ∷ []) (λ σ k. simp (k 0, k 1, k 2, k 3, re) (done ℤ-ring σ _ _ refl)))

pub norm_times : (m x : Golden) → conjugate m *φ (m *φ x) ≡ whole (norm m) *φ x
norm_times m x = norm_parts m x ∙ sym (scale (norm m) x)

-- ---- the norm is 0 only at 0

-- (2u + v)² = 5v² where the norm is 0
squares : (m : Golden) → norm m ≡ pos 0 → (pos 2 *ℤ m.u +ℤ m.v) *ℤ (pos 2 *ℤ m.u +ℤ m.v) ≡ pos 5 *ℤ (m.v *ℤ m.v)
squares m e = four ∙ ap (λ (n : ℤ). pos 4 *ℤ n +ℤ pos 5 *ℤ (m.v *ℤ m.v)) e ∙ none
  where
    four : (pos 2 *ℤ m.u +ℤ m.v) *ℤ (pos 2 *ℤ m.u +ℤ m.v) ≡ pos 4 *ℤ norm m +ℤ pos 5 *ℤ (m.v *ℤ m.v)
    four = reify ℤ-ring (m.u ∷ m.v ∷ []) (λ σ k. simp (k 0, k 1, re_lit σ, re) (done ℤ-ring σ _ _ refl))

    none : pos 4 *ℤ pos 0 +ℤ pos 5 *ℤ (m.v *ℤ m.v) ≡ pos 5 *ℤ (m.v *ℤ m.v)
    none = reify ℤ-ring (m.v ∷ []) (λ σ k. simp (k 0, re_lit σ, re) (done ℤ-ring σ _ _ refl))

pub norm_zero : (m : Golden) → norm m ≡ pos 0 → m ≡ 0φ
norm_zero m e =
    let w : ℤ = pos 2 *ℤ m.u +ℤ m.v in
    let v : ℤ = m.v in
    let s : nat_abs w * nat_abs w ≡ 5 * (nat_abs v * nat_abs v) =
    sym (abs_mul w w) ∙ ap nat_abs (squares m e) ∙ abs_mul (pos 5) (v *ℤ v) ∙ ap (λ (n : ℕ). 5 * n) (abs_mul v v) in
    let z = irrational (nat_abs w) (nat_abs v) s in
    let vz : m.v ≡ pos 0 = zero_abs v z.1 in
    let wz : pos 2 *ℤ m.u +ℤ m.v ≡ pos 0 = zero_abs w z.0 in
    φ_path (split m.u λ p n f. split m.v λ q k g. simp (f, difs) (omega (arith, simp (f, g, difs) at wz, simp (g, difs) at vz))) vz

-- ---- no divisors of 0

whole_cancel : (c : ℤ) (x : Golden) → (c ≡ pos 0 → ⊥) → whole c *φ x ≡ 0φ → x ≡ 0φ
whole_cancel c x n e = φ_path (cancelℤ c x.u n (ap (λ (y : Golden). y.u) (sym (scale c x) ∙ e))) (cancelℤ c x.v n (ap (λ (y : Golden). y.v) (sym (scale c x) ∙ e)))

-- m times x is 0 only where m or x is
pub cancel : (m x : Golden) → (m ≡ 0φ → ⊥) → m *φ x ≡ 0φ → x ≡ 0φ
cancel m x n e =
    whole_cancel (norm m) x (λ z. n (norm_zero m z))
    (sym (norm_times m x) ∙ ap (λ (y : Golden). conjugate m *φ y) e ∙ *φ-comm (conjugate m) 0φ ∙ zero_mulφ (conjugate m))

-- for m above 0, m times x is at least 0 only where x is
pub quotient_nonneg : (m x : Golden) → NonNeg m → (m ≡ 0φ → ⊥) → NonNeg (m *φ x) → NonNeg x
quotient_nonneg m x s n h = ⊎_elim
    (λ k. k)
    (λ k.
    let z = antisym (m *φ x) h (nonneg_by minus (*φ-nonneg m (negφ x) s k)) in
    nonneg_by (sym (cancel m x n (φ_path z.0 z.1))) (whole_nonneg 0))
    (total x)
  where
    minus : m *φ negφ x ≡ negφ (m *φ x)
    minus = solve φ_ring (m ∷ x ∷ []) (var 0 ⊗ ⊖ (var 1)) (⊖ (var 0 ⊗ var 1)) refl

-- k times x is at least 0 only where x is, for k above 0
pub divide_nonneg : (k : ℕ) (x : Golden) → NonNeg (whole (pos (suc k)) *φ x) → NonNeg x
divide_nonneg k x = quotient_nonneg (whole (pos (suc k))) x (whole_nonneg (suc k)) (λ e. let z : suc k ≡ 0 = ap (λ (y : Golden). nat_abs y.u) e in absurd (omega arith))
