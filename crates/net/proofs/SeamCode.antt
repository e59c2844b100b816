-- The seams as the code takes them, case by case. Assumes nothing.
use mathlib.Core.Path.{◌≡◌, refl}
use Prim.Native.Nat.{ℕ, zero, suc, ◌+◌, ◌%◌}
use native.Mathlib.Omega.{arith}
use Rattle.net.specs.Means.Seams.{kept_of, seam_kept}
use Rattle.net.specs.Sides.{nth, vertex}

-- ---- numbers that are 0 or not

pub not_zero : (P : ℕ → Type 0) → ((n : ℕ) → P (suc n)) → (n : ℕ) → (n ≡ 0 → ⊥) → P n
not_zero P f zero z = absurd (z refl)
not_zero P f (suc n) z = f n

-- a rule by two such numbers, at the case that the code took
module _ (f : ℕ → ℕ → ℕ) (p q : ℕ) where
  pub at_00 : p ≡ 0 → q ≡ 0 → f 0 0 ≡ f p q
  at_00 e g = rw (e, g)

  pub at_01 : ((q : ℕ) → f 0 1 ≡ f 0 (suc q)) → p ≡ 0 → (q ≡ 0 → ⊥) → f 0 1 ≡ f p q
  at_01 h e z = rw e (not_zero (λ q. f 0 1 ≡ f 0 q) h q z)

  pub at_10 : ((p : ℕ) → f 1 0 ≡ f (suc p) 0) → (p ≡ 0 → ⊥) → q ≡ 0 → f 1 0 ≡ f p q
  at_10 h y e = rw e (not_zero (λ p. f 1 0 ≡ f p 0) h p y)

  pub at_11 : ((p q : ℕ) → f 1 1 ≡ f (suc p) (suc q)) → (p ≡ 0 → ⊥) → (q ≡ 0 → ⊥)
      → f 1 1 ≡ f p q
  at_11 h y z = not_zero (λ p. f 1 1 ≡ f p q) (λ p. not_zero (λ q. f 1 1 ≡ f (suc p) q) (h p) q z) p y

pub nth_rest : (i x y z : ℕ) → (i ≡ 1 → ⊥) → (i ≡ 2 → ⊥) → z ≡ nth i x y z
nth_rest zero x y z f g = refl
nth_rest (suc zero) x y z f g = absurd (f refl)
nth_rest (suc (suc zero)) x y z f g = absurd (g refl)
nth_rest (suc (suc (suc i))) x y z f g = refl

pub vertex_low : (a b : ℕ) → (a ≡ 0 → ⊥) → b ≡ 0 → a + 1 ≡ vertex a b
vertex_low a b f e = rw e (not_zero (λ a. a + 1 ≡ vertex a 0) (λ a. omega arith) a f)

pub vertex_high : (a b : ℕ) → (a ≡ 0 → ⊥) → (b ≡ 0 → ⊥) → a + 6 ≡ vertex a b
vertex_high a b f g = not_zero (λ a. a + 6 ≡ vertex a b) (λ a.
    not_zero (λ b. suc a + 6 ≡ vertex (suc a) b) (λ b. omega arith) b g) a f

-- ---- seams

pub kept_even : (s k : ℕ) → s % 2 ≡ 0 → 1 ≡ seam_kept s k
unfolding seam_kept
kept_even s k e = rw e

pub kept_odd : (s k : ℕ) → (s % 2 ≡ 0 → ⊥) → k ≡ seam_kept s k
unfolding seam_kept
kept_odd s k f = not_zero (λ q. k ≡ kept_of q k) (λ q. refl) (s % 2) f
