-- As many triangles of a degree hold where the corners are numbered in another order. Assumes nothing.
use mathlib.Core.Path.{◌≡◌, refl, sym, ◌∙◌, ap}
use mathlib.Core.Bool.{Bool, true, false, cond, ◌&&◌}
use mathlib.Core.List.{[], ◌∷◌}
use Prim.Native.Nat.{ℕ, zero, suc, ◌+◌, ◌*◌}
use native.Mathlib.Omega.{arith}
use lib.ListN.{length}
use Rattle.golden.proofs.GoldenRing.{φ_ring}
use Rattle.golden.proofs.Polynomials.{var, ◌⊕◌}
use Rattle.golden.proofs.RingSolver.{solve}
use Rattle.golden.specs.declared.Golden.{Golden}
use Rattle.filing.specs.Holding.{◌-φ◌, three}
use Rattle.filing.specs.Means.Descent.{twice, total, child_dets, non_neg, holds, holders}
use Rattle.filing.specs.declared.Determinants.{Determinants}
use Rattle.filing.proofs.Counting.{holders_split}

abbrev pub count : (n : ℕ) → Determinants → (v : ℕ) → ℕ
count n D v = length (holders n D v)

pub count_now : (D : Determinants) (v : ℕ) → count 0 D v ≡ cond (holds D) 1 0
unfolding holders
count_now D v = go (holds D)
  where
    go : (b : Bool) → length (cond b (v ∷ []) []) ≡ cond b 1 0
    go true = refl
    go false = refl

-- ---- 2, 3, 1

abbrev pub round : Determinants → Determinants
round D = three D.d2 D.d3 D.d1

holds_round : (D : Determinants) → holds (round D) ≡ holds D
unfolding holds
holds_round D = go (non_neg D.d1) (non_neg D.d2) (non_neg D.d3)
  where
    go : (p q r : Bool) → (q && (r && p)) ≡ (p && (q && r))
    go true true true = refl
    go true true false = refl
    go true false r = refl
    go false true true = refl
    go false true false = refl
    go false false r = refl

total_round : (D : Determinants) → total (round D) ≡ total D
total_round D = solve φ_ring (D.d1 ∷ D.d2 ∷ D.d3 ∷ []) (var 1 ⊕ var 2 ⊕ var 0) (var 0 ⊕ var 1 ⊕ var 2) refl

module _ (D : Determinants) where
  round_0 : child_dets 0 (round D) ≡ round (child_dets 0 D)
  round_0 = λ i. three (total_round D i -φ twice D.d2) (total_round D i -φ twice D.d3) (total_round D i -φ twice D.d1)

  round_1 : child_dets 1 (round D) ≡ round (child_dets 2 D)
  round_1 = λ i. three (twice D.d2 -φ total_round D i) (twice D.d3) (twice D.d1)

  round_2 : child_dets 2 (round D) ≡ round (child_dets 3 D)
  round_2 = λ i. three (twice D.d2) (twice D.d3 -φ total_round D i) (twice D.d1)

  round_3 : child_dets 3 (round D) ≡ round (child_dets 1 D)
  round_3 = λ i. three (twice D.d2) (twice D.d3) (twice D.d1 -φ total_round D i)

pub count_round : (n : ℕ) (D : Determinants) (v w : ℕ) → count n (round D) v ≡ count n D w
count_round zero D v w = count_now (round D) v ∙ ap (λ (b : Bool). cond b 1 0) (holds_round D) ∙ sym (count_now D w)
count_round (suc n) D v w =
    omega (
      arith,
      holders_split n (round D) v,
      holders_split n D w,
      ap (λ (E : Determinants). count n E (4 * v)) (round_0 D) ∙ count_round n (child_dets 0 D) (4 * v) (4 * w),
      ap (λ (E : Determinants). count n E (4 * v + 1)) (round_1 D) ∙ count_round n (child_dets 2 D) (4 * v + 1) (4 * w + 2),
      ap (λ (E : Determinants). count n E (4 * v + 2)) (round_2 D) ∙ count_round n (child_dets 3 D) (4 * v + 2) (4 * w + 3),
      ap (λ (E : Determinants). count n E (4 * v + 3)) (round_3 D) ∙ count_round n (child_dets 1 D) (4 * v + 3) (4 * w + 1),
    )

-- ---- 1, 3, 2

abbrev pub mirrored : Determinants → Determinants
mirrored D = three D.d1 D.d3 D.d2

holds_mirrored : (D : Determinants) → holds (mirrored D) ≡ holds D
unfolding holds
holds_mirrored D = go (non_neg D.d1) (non_neg D.d2) (non_neg D.d3)
  where
    go : (p q r : Bool) → (p && (r && q)) ≡ (p && (q && r))
    go true true true = refl
    go true true false = refl
    go true false true = refl
    go true false false = refl
    go false q r = refl

total_mirrored : (D : Determinants) → total (mirrored D) ≡ total D
total_mirrored D = solve φ_ring (D.d1 ∷ D.d2 ∷ D.d3 ∷ []) (var 0 ⊕ var 2 ⊕ var 1) (var 0 ⊕ var 1 ⊕ var 2) refl

module _ (D : Determinants) where
  mirrored_0 : child_dets 0 (mirrored D) ≡ mirrored (child_dets 0 D)
  mirrored_0 = λ i. three (total_mirrored D i -φ twice D.d1) (total_mirrored D i -φ twice D.d3) (total_mirrored D i -φ twice D.d2)

  mirrored_1 : child_dets 1 (mirrored D) ≡ mirrored (child_dets 1 D)
  mirrored_1 = λ i. three (twice D.d1 -φ total_mirrored D i) (twice D.d3) (twice D.d2)

  mirrored_2 : child_dets 2 (mirrored D) ≡ mirrored (child_dets 3 D)
  mirrored_2 = λ i. three (twice D.d1) (twice D.d3 -φ total_mirrored D i) (twice D.d2)

  mirrored_3 : child_dets 3 (mirrored D) ≡ mirrored (child_dets 2 D)
  mirrored_3 = λ i. three (twice D.d1) (twice D.d3) (twice D.d2 -φ total_mirrored D i)

pub count_mirrored : (n : ℕ) (D : Determinants) (v w : ℕ) → count n (mirrored D) v ≡ count n D w
count_mirrored zero D v w = count_now (mirrored D) v ∙ ap (λ (b : Bool). cond b 1 0) (holds_mirrored D) ∙ sym (count_now D w)
count_mirrored (suc n) D v w =
    omega (
      arith,
      holders_split n (mirrored D) v,
      holders_split n D w,
      ap (λ (E : Determinants). count n E (4 * v)) (mirrored_0 D) ∙ count_mirrored n (child_dets 0 D) (4 * v) (4 * w),
      ap (λ (E : Determinants). count n E (4 * v + 1)) (mirrored_1 D) ∙ count_mirrored n (child_dets 1 D) (4 * v + 1) (4 * w + 1),
      ap (λ (E : Determinants). count n E (4 * v + 2)) (mirrored_2 D) ∙ count_mirrored n (child_dets 3 D) (4 * v + 2) (4 * w + 3),
      ap (λ (E : Determinants). count n E (4 * v + 3)) (mirrored_3 D) ∙ count_mirrored n (child_dets 2 D) (4 * v + 3) (4 * w + 2),
    )

-- the other two exchanges
pub count_first_last : (n : ℕ) (a b c : Golden) (v w : ℕ) → count n (three c b a) v ≡ count n (three a b c) w
count_first_last n a b c v w = count_round n (three a c b) v v ∙ count_mirrored n (three a b c) v w

pub count_first_two : (n : ℕ) (a b c : Golden) (v w : ℕ) → count n (three b a c) v ≡ count n (three a b c) w
count_first_two n a b c v w = count_round n (three c b a) v v ∙ count_first_last n a b c v w
