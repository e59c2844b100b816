-- Where a direction stands at a corner, every digit further down is the corner's. Assumes nothing.
use mathlib.Core.Path.{◌≡◌, refl, ◌∙◌, ap}
use Prim.Native.Nat.{ℕ, zero, suc, ◌+◌, ◌-◌, ◌*◌, ◌/◌, ◌^◌, ◌≤◌, ◌<◌}
use native.Mathlib.Nat.{mul-le-mul_right}
use native.Mathlib.Omega.{arith}
use lib.Pow.{pow_mono}
use Rattle.net.specs.Sides.{OneToThree}
use Rattle.net.proofs.Paths.{four}
use Rattle.net.proofs.Table.{three}
use Rattle.shares.specs.declared.Floors.{Floors}
use Rattle.shares.specs.declared.Gaps.{Gaps}
use Rattle.shares.specs.Means.Paths.{in_child, least_digit, least_path}
use Rattle.shares.specs.Means.WalkWords.{floor_at, Fair}
use Rattle.shares.proofs.Choosing.{choose}
use Rattle.shares.proofs.FairChildren.{Few, fair_least}
use Rattle.shares.proofs.LeastPath.{half_power, two_halves, power_some}

-- a power of four is one more than a multiple of three
thirds : (n : ℕ) → (m : ℕ) × (2 ^ (2 * n) ≡ 3 * m + 1)
thirds zero = (0, refl)
thirds (suc n) = let m = (thirds n).0 in (4 * m + 1, rw (four n) (omega (arith, (thirds n).1)))

next_thirds : (q m : ℕ) → q ≡ 3 * m + 1 → (4 * q - 1) / 3 ≡ q + (q - 1) / 3
next_thirds q m e = rw e (omega arith)

module _ (G : Gaps) (g : Few G) where
  -- the least child is that at the corner d, and the direction stands at its corner d again
  abbrev Kept : (h d : ℕ) → Floors → Type 0
  Kept h d F = (least_digit h F G ≡ d) × (floor_at d (in_child h (least_digit h F G) F G) ≡ h)

  kept : (h : ℕ) → 0 < h → (F : Floors) → Fair (h + h) F G → (d : ℕ) → OneToThree d
      → floor_at d F ≡ h + h → Kept h d F
  kept h z F i = three (λ d. floor_at d F ≡ h + h → Kept h d F)
      (λ e. choose h F G (λ k K. (k ≡ 1) × (floor_at 1 K ≡ h))
      (λ a. (refl, omega arith))
      (λ a b. absurd (omega arith))
      (λ a b c. absurd (omega arith))
      (λ a b c. absurd (omega arith)))
      (λ e. choose h F G (λ k K. (k ≡ 2) × (floor_at 2 K ≡ h))
      (λ a. absurd (omega (arith, i.most, g.0)))
      (λ a b. (refl, omega arith))
      (λ a b c. absurd (omega arith))
      (λ a b c. absurd (omega arith)))
      (λ e. choose h F G (λ k K. (k ≡ 3) × (floor_at 3 K ≡ h))
      (λ a. absurd (omega (arith, i.most, g.0)))
      (λ a b. absurd (omega (arith, i.most, g.1)))
      (λ a b c. (refl, omega arith))
      (λ a b c. absurd (omega arith)))

  pub corner_path :
      (n k d : ℕ) (F : Floors) (v : ℕ)
      → OneToThree d
      → Fair (2 ^ (n + k)) F G
      → floor_at d F ≡ 2 ^ (n + k)
      → least_path n (2 ^ (n + k)) F G v ≡ 2 ^ (2 * n) * v + d * ((2 ^ (2 * n) - 1) / 3)
  unfolding least_path
  corner_path zero k d F v o i e = omega arith
  corner_path (suc n) k d F v o i e =
      let h = 2 ^ (n + k) in
      let j : Fair (2 ^ (n + k) + 2 ^ (n + k)) F G = rw (two_halves n k) at i in
      let s = kept h (power_some (n + k)) F j d o (e ∙ two_halves n k) in
      let q = 2 ^ (2 * n) in
      let t : (4 * 2 ^ (2 * n) - 1) / 3 ≡ 2 ^ (2 * n) + (2 ^ (2 * n) - 1) / 3 =
      next_thirds (2 ^ (2 * n)) (thirds n).0 (thirds n).1 in
      ap (λ (x : ℕ). least_path n x (in_child x (least_digit x F G) F G) G (4 * v + least_digit x F G)) (half_power n k)
      ∙ corner_path n k d (in_child h (least_digit h F G) F G) (4 * v + least_digit h F G) o (fair_least h F G j g)
      s.1
      ∙ ap (λ (x : ℕ). q * (4 * v + x) + d * ((q - 1) / 3)) s.0
      ∙ rw (four n, t) (omega arith)

-- how large the digits come to
pub corner_small : (n d : ℕ) → n ≤ 24 → d < 4 → d * ((2 ^ (2 * n) - 1) / 3) < 2 ^ 48
corner_small n d l h =
    let m : d ≤ 3 = omega arith in
    omega (arith, mul-le-mul_right ((2 ^ (2 * n) - 1) / 3) m, pow_mono {i = 2 * n} {j = 48} (omega arith))
