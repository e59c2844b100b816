-- The corners 1, 2, 3 of every triangle of every degree turn anticlockwise seen from outside: the determinant of their exact coordinates is
-- above 0. On a side it is 2 + 2φ, and each division doubles it. Assumes nothing.
use mathlib.Core.Path.{◌≡◌, refl, sym, ◌∙◌, ap}
use mathlib.Core.List.{List, [], ◌∷◌}
use Prim.Native.Nat.{ℕ, zero, suc, ◌+◌, ◌*◌, ◌^◌}
use native.Mathlib.Omega.{arith}
use lib.IntN.{pos, nat_abs}
use lib.Pow.{pow_pos}
use Rattle.golden.specs.Numbers.{golden, whole, ◌+φ◌, negφ, ◌*φ◌}
use Rattle.golden.specs.Order.{Positive}
use Rattle.golden.specs.declared.Golden.{Golden}
use Rattle.golden.proofs.GoldenProduct.{*φ-nonneg, whole_nonneg}
use Rattle.golden.proofs.GoldenRing.{φ_ring, reφ, +φ-*φ, of_addφ, one_mulφ, scale}
use Rattle.golden.proofs.Magnitudes.{abs_mul}
use Rattle.golden.proofs.RingSolver.{reify, done}
use Rattle.golden.proofs.Signs.{of_squares}
use Rattle.words.specs.Words.{digit_of, digits, first_digits, side_of}
use Rattle.words.specs.Refusals.{IsCode}
use Rattle.words.specs.declared.TriangleCode.{TriangleCode}
use Rattle.words.proofs.Codes.{code_side}
use Rattle.net.specs.Corners.{corner}
use Rattle.net.specs.Division.{Triangle, divide, triangle_at, unit_at}
use Rattle.net.specs.Sides.{IsSide, corner_vertex}
use Rattle.net.proofs.Table.{sound, sides}
use Rattle.filing.specs.Coordinates.{◌+ᵛ◌, exact}
use Rattle.filing.specs.Holding.{determinant}
use Rattle.filing.specs.declared.Coordinates.{Coordinates}
use Rattle.filing.proofs.GoldenTests.{sameφ, φ_same}
use Rattle.filing.proofs.HeldCodes.{code_triangle}
use Rattle.filing.proofs.Sums.{exact_kept, Twelve, all_twelve, exact_m1, exact_m2, exact_m3}

-- the determinant of three vectors is above 0 exactly when they turn anticlockwise seen from outside
abbrev orientation : Triangle → Golden
orientation t = determinant (exact t.a1) (exact t.a2) (exact t.a3)

-- ---- a side

abbrev κ : Golden
κ = golden (pos 2) (pos 2)

side_orientation : (s : ℕ) → IsSide s → orientation (triangle_at s []) ≡ κ
unfolding triangle_at unit_at corner_vertex exact determinant ◌+φ◌ negφ ◌*φ◌
side_orientation s h = φ_same (orientation (triangle_at s [])) κ (sound (sides λ s. sameφ (orientation (triangle_at s [])) κ) refl s h)

-- ---- one division doubles it

-- a determinant is linear in each of its places
module _ (a b c : Coordinates) where
  abbrev env : List Golden
  env = a.x ∷ a.y ∷ a.z ∷ b.x ∷ b.y ∷ b.z ∷ c.x ∷ c.y ∷ c.z ∷ []

  abbrev doubled : Golden
  doubled = determinant a b c +φ determinant a b c

  zeroth : determinant (b +ᵛ c) (c +ᵛ a) (a +ᵛ b) ≡ doubled
  unfolding determinant
  zeroth = reify φ_ring env (λ σ k. simp (k 0, k 1, k 2, k 3, k 4, k 5, k 6, k 7, k 8, reφ) (done φ_ring σ _ _ refl))

  first : determinant (a +ᵛ a) (a +ᵛ b) (c +ᵛ a) ≡ doubled
  unfolding determinant
  first = reify φ_ring env (λ σ k. simp (k 0, k 1, k 2, k 3, k 4, k 5, k 6, k 7, k 8, reφ) (done φ_ring σ _ _ refl))

  second : determinant (a +ᵛ b) (b +ᵛ b) (b +ᵛ c) ≡ doubled
  unfolding determinant
  second = reify φ_ring env (λ σ k. simp (k 0, k 1, k 2, k 3, k 4, k 5, k 6, k 7, k 8, reφ) (done φ_ring σ _ _ refl))

  third : determinant (c +ᵛ a) (b +ᵛ c) (c +ᵛ c) ≡ doubled
  unfolding determinant
  third = reify φ_ring env (λ σ k. simp (k 0, k 1, k 2, k 3, k 4, k 5, k 6, k 7, k 8, reφ) (done φ_ring σ _ _ refl))

module _ (t : Triangle) (h : Twelve t) where
  child_orientation : (k : ℕ) → orientation (divide k t) ≡ orientation t +φ orientation t
  child_orientation zero = (λ i. determinant (exact_m1 t h i) (exact_m2 t h i) (exact_m3 t h i)) ∙ zeroth (exact t.a1) (exact t.a2) (exact t.a3)
  child_orientation (suc zero) = (λ i. determinant (exact_kept t.a1 i) (exact_m3 t h i) (exact_m2 t h i)) ∙ first (exact t.a1) (exact t.a2) (exact t.a3)
  child_orientation (suc (suc zero)) = (λ i. determinant (exact_m3 t h i) (exact_kept t.a2 i) (exact_m1 t h i)) ∙ second (exact t.a1) (exact t.a2) (exact t.a3)
  child_orientation (suc (suc (suc k))) = (λ i. determinant (exact_m2 t h i) (exact_m1 t h i) (exact_kept t.a3 i)) ∙ third (exact t.a1) (exact t.a2) (exact t.a3)

-- ---- every degree

-- 2^n·x
abbrev powered : ℕ → Golden → Golden
powered n x = whole (pos (2 ^ n)) *φ x

once_more : (n : ℕ) (x : Golden) → powered n x +φ powered n x ≡ powered (suc n) x
once_more n x =
    let e : 2 ^ n + 2 ^ n ≡ 2 ^ suc n = omega arith in
    sym (+φ-*φ (whole (pos (2 ^ n))) (whole (pos (2 ^ n))) x)
    ∙ ap (λ (c : Golden). c *φ x) (sym (of_addφ (pos (2 ^ n)) (pos (2 ^ n))))
    ∙ ap (λ (m : ℕ). whole (pos m) *φ x) e

orientation_at : (s : ℕ) → IsSide s → (w n : ℕ) → orientation (triangle_at s (digits w n)) ≡ powered n κ
unfolding triangle_at first_digits
orientation_at s h w zero = side_orientation s h ∙ sym (one_mulφ κ)
orientation_at s h w (suc n) =
    child_orientation (triangle_at s (digits w n)) (all_twelve s (digits w n)) (digit_of w (suc n))
    ∙ (λ i. orientation_at s h w n i +φ orientation_at s h w n i)
    ∙ once_more n κ

-- 2^n·(2 + 2φ), exactly
pub code_orientation : {n : ℕ} {t : TriangleCode} → IsCode n t
    → determinant (exact (corner t 1)) (exact (corner t 2)) (exact (corner t 3)) ≡ whole (pos (2 ^ n)) *φ golden (pos 2) (pos 2)
code_orientation {n} {t} c = ap orientation (code_triangle t c.degree_is) ∙ orientation_at (side_of t.0) (code_side c) t.0 n

powered_positive : (n : ℕ) → Positive (powered n κ)
powered_positive n = (
  *φ-nonneg (whole (pos (2 ^ n))) κ (whole_nonneg (2 ^ n)) (of_squares (pos 6) (pos 2) tt),
  λ e.
      let z : 2 ^ n * 2 ≡ 0 = sym (abs_mul (pos (2 ^ n)) (pos 2)) ∙ ap (λ (x : Golden). nat_abs x.u) (sym (scale (pos (2 ^ n)) κ) ∙ e) in
      omega (arith, pow_pos n),
)

-- "Its corners 1, 2, 3, anticlockwise seen from outside"
pub anticlockwise : {n : ℕ} {t : TriangleCode} → IsCode n t → Positive (determinant (exact (corner t 1)) (exact (corner t 2)) (exact (corner t 3)))
anticlockwise {n} c = rw (code_orientation c) (powered_positive n)
