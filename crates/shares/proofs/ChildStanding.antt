-- Where a direction stands in the children of a triangle, and which of them hold it: if a share is more than half, that
-- child alone; else the middle one, and each of the others with a share of half. Assumes nothing.
use mathlib.Core.Path.{◌≡◌, refl, sym, subst}
use Prim.Native.Nat.{ℕ, zero, suc, ◌+◌, ◌≤◌, ◌<◌}
use native.Mathlib.Omega.{arith}
use Rattle.golden.specs.Numbers.{negφ}
use Rattle.golden.specs.Order.{NonNeg}
use Rattle.golden.specs.declared.Golden.{Golden}
use Rattle.net.specs.Sides.{OneToThree}
use Rattle.net.proofs.Table.{three}
use Rattle.filing.specs.Holding.{◌-φ◌, AllNonNeg}
use Rattle.filing.specs.Means.Descent.{twice, total, child_dets}
use Rattle.filing.specs.declared.Determinants.{Determinants}
use Rattle.filing.proofs.Children.{total_child}
use Rattle.shares.specs.declared.Floors.{Floors}
use Rattle.shares.specs.declared.Gaps.{Gaps}
use Rattle.shares.specs.Means.Shares.{Share, Stands}
use Rattle.shares.specs.Means.Paths.{in_child, least_digit}
use Rattle.shares.specs.Means.WalkWords.{floor_at}
use Rattle.shares.proofs.Choosing.{gap_at, corner_1, corner_2, corner_3, choose_corner}
use Rattle.shares.proofs.ShareLaws.{share_gap, kept, upper, lower, over, under_half}
use Rattle.shares.proofs.Standing.{det_at, less_one}

module _ (h p : ℕ) (e : p ≡ h + h) (F : Floors) (G : Gaps) (D : Determinants) (i : Stands p F G D) where
  abbrev s : Golden
  s = total D

  -- ---- a step keeps where it stands

  at :
      (d : ℕ) (K : Floors)
      → Share h K.f1 G.g1 s (child_dets d D).d1
      → Share h K.f2 G.g2 s (child_dets d D).d2
      → Share h K.f3 G.g3 s (child_dets d D).d3
      → Stands h K G (child_dets d D)
  at d K a b c =
      let t = sym (total_child D d) in
      record {
        some = subst NonNeg t i.some;
        more = subst (λ (y : Golden). NonNeg (negφ y) → ⊥) t i.more;
        s1 = subst (λ (y : Golden). Share h K.f1 G.g1 y (child_dets d D).d1) t a;
        s2 = subst (λ (y : Golden). Share h K.f2 G.g2 y (child_dets d D).d2) t b;
        s3 = subst (λ (y : Golden). Share h K.f3 G.g3 y (child_dets d D).d3) t c;
      }

  share_at : (k : ℕ) → OneToThree k → Share p (floor_at k F) (gap_at k G) s (det_at k D)
  share_at = three (λ k. Share p (floor_at k F) (gap_at k G) s (det_at k D)) i.s1 i.s2 i.s3

  keep : (k : ℕ) → OneToThree k → Share h (floor_at k F) (gap_at k G) s (twice (det_at k D))
  keep k o = kept h p _ _ _ _ e (share_at k o)

  pub stands_0 :
      F.f1 + G.g1 ≤ h
      → F.f2 + G.g2 ≤ h
      → F.f3 + G.g3 ≤ h
      → Stands h (in_child h 0 F G) G (child_dets 0 D)
  unfolding in_child
  stands_0 a b c =
      at 0 _
      (lower h p _ _ _ _ e i.s1 a)
      (lower h p _ _ _ _ e i.s2 b)
      (lower h p _ _ _ _ e i.s3 c)

  pub stands_corner : (k : ℕ) → OneToThree k → h ≤ floor_at k F → Stands h (in_child h k F G) G (child_dets k D)
  unfolding in_child
  stands_corner = three (λ k. h ≤ floor_at k F → Stands h (in_child h k F G) G (child_dets k D))
      (λ l. at 1 _ (upper h p _ _ _ _ e i.s1 l) (keep 2 corner_2) (keep 3 corner_3))
      (λ l. at 2 _ (keep 1 corner_1) (upper h p _ _ _ _ e i.s2 l) (keep 3 corner_3))
      (λ l. at 3 _ (keep 1 corner_1) (keep 2 corner_2) (upper h p _ _ _ _ e i.s3 l))

  -- where f + g is more than half, f is at least half
  pub stands_over :
      (k : ℕ) → OneToThree k → h < floor_at k F + gap_at k G → Stands h (in_child h k F G) G (child_dets k D)
  stands_over k o l = stands_corner k o (omega (arith, share_gap _ _ _ _ _ (share_at k o)))

  pub stands_child : Stands h (in_child h (least_digit h F G) F G) G (child_dets (least_digit h F G) D)
  unfolding in_child
  stands_child = choose_corner h F G (λ d K. Stands h K G (child_dets d D)) stands_over stands_0

  -- ---- less than half: that child does not hold

  pub less_corner : (k : ℕ) → OneToThree k → floor_at k F < h → AllNonNeg (child_dets k D) → ⊥
  less_corner k o l t = under_half h p _ _ _ _ e (share_at k o) i.some i.more l
      (three (λ k. AllNonNeg (child_dets k D) → NonNeg (twice (det_at k D) -φ s))
      (λ t. t.n1) (λ t. t.n2) (λ t. t.n3) k o t)

  -- ---- more than half: no other holds

  -- no determinant of a child that holds is above the sum
  child_less :
      (j : ℕ) → AllNonNeg (child_dets j D) → (k : ℕ) → OneToThree k → NonNeg (s -φ det_at k (child_dets j D))
  child_less j t k o = subst (λ (y : Golden). NonNeg (y -φ det_at k (child_dets j D))) (total_child D j)
      (less_one (child_dets j D) t k o)

  -- so, if a child j other than k holds, the determinant at k is not more than half
  abbrev Within : (j k : ℕ) → Type 0
  Within j k = (j ≡ k → ⊥) → NonNeg (s -φ twice (det_at k D))

  within : (j : ℕ) → j < 4 → AllNonNeg (child_dets j D) → (k : ℕ) → OneToThree k → Within j k
  within zero b t = three (Within 0) (λ f. t.n1) (λ f. t.n2) (λ f. t.n3)
  within (suc zero) b t =
      three (Within 1) (λ f. absurd (f refl)) (λ f. child_less 1 t 2 corner_2) (λ f. child_less 1 t 3 corner_3)
  within (suc (suc zero)) b t =
      three (Within 2) (λ f. child_less 2 t 1 corner_1) (λ f. absurd (f refl)) (λ f. child_less 2 t 3 corner_3)
  within (suc (suc (suc zero))) b t =
      three (Within 3) (λ f. child_less 3 t 1 corner_1) (λ f. child_less 3 t 2 corner_2) (λ f. absurd (f refl))
  within (suc (suc (suc (suc j)))) b t = absurd (omega arith)

  -- none but the child k holds
  abbrev pub Alone : (k : ℕ) → Type 0
  Alone k = (j : ℕ) → j < 4 → (j ≡ k → ⊥) → AllNonNeg (child_dets j D) → ⊥

  pub alone : (k : ℕ) → OneToThree k → h < floor_at k F + gap_at k G → Alone k
  alone k o l j b f t = over h p _ _ _ _ e (share_at k o) i.some i.more l (within j b t k o f)
