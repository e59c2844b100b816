-- The path by the least child in floors and gaps is that of the descent by determinants. Assumes nothing.
use mathlib.Core.Path.{◌≡◌, refl, sym, ◌∙◌, ap, subst}
use mathlib.Core.Bool.{Bool, true, false}
use Prim.Native.Nat.{ℕ, zero, suc, ◌+◌, ◌-◌, ◌*◌, ◌/◌, ◌^◌, ◌≤◌, ◌<◌}
use native.Mathlib.Nat.{pow-suc, suc-add}
use native.Mathlib.Omega.{arith}
use lib.Pow.{pow_mono}
use Rattle.net.specs.Sides.{OneToThree}
use Rattle.net.proofs.Table.{three}
use Rattle.filing.specs.Holding.{AllNonNeg}
use Rattle.filing.specs.Means.Descent.{child_dets, holds, least_child, descent}
use Rattle.filing.specs.declared.Determinants.{Determinants}
use Rattle.filing.proofs.Tests.{test_holds, holds_test}
use Rattle.filing.proofs.Descents.{least_0, least_1, least_2, least_3}
use Rattle.shares.specs.declared.Floors.{Floors}
use Rattle.shares.specs.declared.Gaps.{Gaps}
use Rattle.shares.specs.Means.Shares.{Stands}
use Rattle.shares.specs.Means.Paths.{in_child, least_digit, least_path}
use Rattle.shares.proofs.Choosing.{choose_corner}
use Rattle.shares.proofs.Standing.{stands_holds}
use Rattle.shares.proofs.ChildStanding.{stands_0, stands_over, stands_child, Alone, alone}

-- ---- a test's answer

pub not_held : (D : Determinants) → (AllNonNeg D → ⊥) → holds D ≡ false
not_held D f = go (holds D) refl
  where
    go : (b : Bool) → holds D ≡ b → b ≡ false
    go true e = absurd (f (test_holds D e))
    go false e = refl

fails : (D : Determinants) → (AllNonNeg D → ⊥) → false ≡ holds D
fails D f = sym (not_held D f)

passes : (D : Determinants) → AllNonNeg D → true ≡ holds D
passes D h = sym (holds_test D h)

-- ---- one step

module _ (h p : ℕ) (e : p ≡ h + h) (z : 0 < h) (F : Floors) (G : Gaps) (D : Determinants) (i : Stands p F G D) where
  -- where the child k holds, and none but it, it is the least
  the_least : (k : ℕ) → OneToThree k → AllNonNeg (child_dets k D) → Alone h p e F G D i k → k ≡ least_child D
  the_least = three (λ k. AllNonNeg (child_dets k D) → Alone h p e F G D i k → k ≡ least_child D)
      (λ t o. least_1 D false true (fails _ (o 0 (omega arith) (λ q. omega arith))) refl (passes _ t) refl)
      (λ t o. least_2 D false false true (fails _ (o 0 (omega arith) (λ q. omega arith))) refl
      (fails _ (o 1 (omega arith) (λ q. omega arith))) refl (passes _ t) refl)
      (λ t o. least_3 D false false false (fails _ (o 0 (omega arith) (λ q. omega arith))) refl
      (fails _ (o 1 (omega arith) (λ q. omega arith))) refl
      (fails _ (o 2 (omega arith) (λ q. omega arith))) refl)

  pub least_digit_lem : least_digit h F G ≡ least_child D
  unfolding in_child
  least_digit_lem = choose_corner h F G (λ d K. d ≡ least_child D)
      (λ k o a. the_least k o (stands_holds h _ G _ (stands_over h p e F G D i k o a) z) (alone h p e F G D i k o a))
      (λ a b c. least_0 D true (passes _ (stands_holds h _ G _ (stands_0 h p e F G D i a b c) z)) refl)

-- ---- all of them

pub two_halves : (n k : ℕ) → 2 ^ (suc n + k) ≡ 2 ^ (n + k) + 2 ^ (n + k)
two_halves n k = rw (suc-add n k) (omega (arith, pow-suc 2 (n + k)))

pub half_power : (n k : ℕ) → 2 ^ (suc n + k) / 2 ≡ 2 ^ (n + k)
half_power n k = omega (arith, two_halves n k)

pub power_some : (m : ℕ) → 0 < 2 ^ m
power_some m = let k : 1 ≤ 2 ^ m = pow_mono {i = 0} {j = m} (omega arith) in omega arith

-- what is so for 2^(n + k) parts, whatever k, is so for 2^24
pub at_24 : (n : ℕ) → n ≤ 24 → (P : ℕ → Type 0) → ((k : ℕ) → P (2 ^ (n + k))) → P 16777216
at_24 n l P f = let e : n + (24 - n) ≡ 24 = omega arith in subst (λ (m : ℕ). P (2 ^ m)) e (f (24 - n))

pub least_path_lem :
    (n k : ℕ) (F : Floors) (G : Gaps) (D : Determinants) (v : ℕ)
    → Stands (2 ^ (n + k)) F G D
    → least_path n (2 ^ (n + k)) F G v ≡ descent n D v
unfolding least_path descent
least_path_lem zero k F G D v i = refl
least_path_lem (suc n) k F G D v i =
    let h = 2 ^ (n + k) in
    let e = two_halves n k in
    let z = power_some (n + k) in
    ap (λ (h : ℕ). least_path n h (in_child h (least_digit h F G) F G) G (4 * v + least_digit h F G)) (half_power n k)
    ∙ least_path_lem n k _ G _ _ (stands_child h (2 ^ (suc n + k)) e F G D i)
    ∙ ap (λ (d : ℕ). descent n (child_dets d D) (4 * v + d)) (least_digit_lem h (2 ^ (suc n + k)) e z F G D i)

pub least_24 :
    (n : ℕ) (F : Floors) (G : Gaps) (D : Determinants) (v : ℕ)
    → n ≤ 24
    → Stands 16777216 F G D
    → least_path n 16777216 F G v ≡ descent n D v
least_24 n F G D v l =
    at_24 n l (λ p. Stands p F G D → least_path n p F G v ≡ descent n D v) (λ k. least_path_lem n k F G D v)
