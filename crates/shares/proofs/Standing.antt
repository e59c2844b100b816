-- The three determinants as shares of their sum: all are at least 0, no floor is above all parts and no gap above 1,
-- and a common factor changes nothing; strictly inside, the floors are those of a triangle. Assumes nothing.
use mathlib.Core.Path.{◌≡◌, refl, sym, ◌∙◌, ap, subst}
use mathlib.Core.Logic.{⊎_elim}
use mathlib.Core.List.{[], ◌∷◌}
use Prim.Native.Nat.{ℕ, suc, ◌+◌, ◌-◌, ◌≤◌, ◌<◌}
use native.Mathlib.Omega.{arith}
use lib.IntN.{pos}
use Rattle.golden.specs.Numbers.{whole, negφ}
use Rattle.golden.specs.Order.{NonNeg}
use Rattle.golden.specs.declared.Golden.{Golden}
use Rattle.golden.proofs.Polynomials.{var, lit, ◌⊕◌, ◌⊝◌, ◌⊗◌, ⊖}
use Rattle.golden.proofs.RingSolver.{solve}
use Rattle.golden.proofs.GoldenRing.{φ_ring}
use Rattle.golden.proofs.GoldenOrder.{nonneg_by, add_nonneg}
use Rattle.golden.proofs.IntegerOrder.{le_or_lt}
use Rattle.golden.proofs.Quotients.{divide_nonneg}
use Rattle.net.specs.Sides.{OneToThree, nth}
use Rattle.net.proofs.Table.{three}
use Rattle.filing.specs.Holding.{◌-φ◌, AllNonNeg}
use Rattle.filing.specs.Means.Descent.{total}
use Rattle.filing.specs.declared.Determinants.{Determinants}
use Rattle.shares.specs.declared.Floors.{Floors}
use Rattle.shares.specs.declared.Gaps.{Gaps}
use Rattle.shares.specs.Means.Shares.{times, Between, Share, Stands, strict, scaled_by}
use Rattle.shares.specs.Means.Bits.{Whole}
use Rattle.shares.proofs.Choosing.{corner_1, corner_2, corner_3}
use Rattle.shares.proofs.ShareLaws.{neg_minus, times_nonneg, sum_times, share_gap, share_low, share_high}
use Rattle.shares.proofs.ShareLaws.{share_nonneg, share_floor, share_unscaled}
use Rattle.shares.proofs.ShareLaws.{over_three, left_three, first_low}

-- the determinant at the corner k
abbrev pub det_at : (k : ℕ) → Determinants → Golden
det_at k D = nth k D.d1 D.d2 D.d3

-- the sum less one is the other two
pub less_one : (D : Determinants) → AllNonNeg D → (k : ℕ) → OneToThree k → NonNeg (total D -φ det_at k D)
less_one D n =
    let x = D.d1 in
    let y = D.d2 in
    let z = D.d3 in
    three (λ k. NonNeg (total D -φ det_at k D))
    (nonneg_by (solve φ_ring (x ∷ y ∷ z ∷ []) (var 1 ⊕ var 2) (var 0 ⊕ var 1 ⊕ var 2 ⊝ var 0) refl)
    (add_nonneg y z n.n2 n.n3))
    (nonneg_by (solve φ_ring (x ∷ y ∷ z ∷ []) (var 0 ⊕ var 2) (var 0 ⊕ var 1 ⊕ var 2 ⊝ var 1) refl)
    (add_nonneg x z n.n1 n.n3))
    (nonneg_by (solve φ_ring (x ∷ y ∷ z ∷ []) (var 0 ⊕ var 1) (var 0 ⊕ var 1 ⊕ var 2 ⊝ var 2) refl)
    (add_nonneg x y n.n1 n.n2))

-- ---- what stands so

module _ (p : ℕ) (F : Floors) (G : Gaps) (D : Determinants) (i : Stands p F G D) where
  pub stands_gaps : (G.g1 ≤ 1) × (G.g2 ≤ 1) × (G.g3 ≤ 1)
  stands_gaps = (share_gap _ _ _ _ _ i.s1, share_gap _ _ _ _ _ i.s2, share_gap _ _ _ _ _ i.s3)

  module _ (l : 0 < p) where
    pub stands_holds : AllNonNeg D
    stands_holds = record {
      n1 = share_nonneg _ _ _ _ _ i.s1 i.some l;
      n2 = share_nonneg _ _ _ _ _ i.s2 i.some l;
      n3 = share_nonneg _ _ _ _ _ i.s3 i.some l;
    }

    pub stands_floors : (F.f1 ≤ p) × (F.f2 ≤ p) × (F.f3 ≤ p)
    stands_floors = let n = less_one D stands_holds in (
      share_floor _ _ _ _ _ i.s1 i.some i.more (n 1 corner_1),
      share_floor _ _ _ _ _ i.s2 i.some i.more (n 2 corner_2),
      share_floor _ _ _ _ _ i.s3 i.some i.more (n 3 corner_3),
    )

-- ---- of determinants m times as large

pub stands_unscaled :
    (m p : ℕ) (F : Floors) (G : Gaps) (D : Determinants)
    → Stands p F G (scaled_by (suc m) D)
    → Stands p F G D
stands_unscaled m p F G D i =
    let M = whole (pos (suc m)) in
    let e : total (scaled_by (suc m) D) ≡ times (suc m) (total D) =
    solve φ_ring (M ∷ D.d1 ∷ D.d2 ∷ D.d3 ∷ [])
    (var 0 ⊗ var 1 ⊕ var 0 ⊗ var 2 ⊕ var 0 ⊗ var 3)
    (var 0 ⊗ (var 1 ⊕ var 2 ⊕ var 3)) refl in
    let S = total (scaled_by (suc m) D) in
    let each : (f g : ℕ) (x : Golden) → Share p f g S (times (suc m) x) → Share p f g (total D) x =
    λ f g x w. share_unscaled m p f g (total D) x (subst (λ (s : Golden). Share p f g s (times (suc m) x)) e w) in
    record {
      some = divide_nonneg m (total D) (subst NonNeg e i.some);
      more = λ t. i.more (nonneg_by
          (solve φ_ring (M ∷ total D ∷ []) (var 0 ⊗ ⊖ (var 1)) (⊖ (var 0 ⊗ var 1)) refl
          ∙ ap negφ (sym e))
          (times_nonneg (suc m) _ t));
      s1 = each F.f1 G.g1 D.d1 i.s1;
      s2 = each F.f2 G.g2 D.d2 i.s2;
      s3 = each F.f3 G.g3 D.d3 i.s3;
    }

-- ---- strictly inside

module _ (p : ℕ) (F : Floors) (D : Determinants) (i : Stands p F strict D) where
  abbrev s : Golden
  s = total D

  between : Between p F.f1 s D.d1
  between = ⊎_elim (λ a. absurd (omega (arith, a.0))) (λ a. a.1) i.s1

  -- f1·s is below p·x1; else, what is left to f1·s of p·x1 would be that of the others and k·s
  too_many : (k : ℕ) → F.f1 + F.f2 + F.f3 ≡ p + k → ⊥
  too_many k e =
      between.above (nonneg_by (neg_minus (times p D.d1) (times F.f1 s))
      (first_low k s _ _ _ i.some (share_low _ _ _ _ _ i.s2) (share_low _ _ _ _ _ i.s3)
      (over_three p F.f1 F.f2 F.f3 k D.d1 D.d2 D.d3 e)))

  -- p·x1 is below f1·s + s; else, what it has over that would be what the others have left, and k·s
  too_few : (k : ℕ) → p ≡ F.f1 + 1 + (F.f2 + 1) + (F.f3 + 1) + k → ⊥
  too_few k e =
      between.below (nonneg_by
      (neg_minus (times (F.f1 + 1) s) (times p D.d1)
      ∙ ap (λ (y : Golden). times p D.d1 -φ y) (sum_times F.f1 1 s refl)
      ∙ solve φ_ring (times p D.d1 ∷ times F.f1 s ∷ s ∷ [])
      (var 0 ⊝ (var 1 ⊕ lit 1 ⊗ var 2)) (var 0 ⊝ (var 1 ⊕ var 2)) refl)
      (first_low k s _ _ _ i.some (share_high _ _ _ _ _ i.s2) (share_high _ _ _ _ _ i.s3)
      (left_three p (F.f1 + 1) (F.f2 + 1) (F.f3 + 1) k D.d1 D.d2 D.d3 e)))

  pub strict_whole : Whole p F
  strict_whole =
      let f = F.f1 + F.f2 + F.f3 in
      record {
        least = ⊎_elim (λ l. l) (λ l. absurd (too_few (p - (f + 3)) (omega arith))) (le_or_lt p (f + 2));
        most = ⊎_elim (λ l. absurd (too_many (f - p) (omega arith))) (λ l. l) (le_or_lt p f);
      }
