-- The floors and gaps of shares in one sum are fair: the floors are together not more than all parts, and with the gaps
-- not fewer. Assumes nothing.
use mathlib.Core.Path.{◌≡◌}
use mathlib.Core.Logic.{⊎_elim}
use Prim.Native.Nat.{ℕ, ◌+◌, ◌-◌}
use native.Mathlib.Omega.{arith}
use Rattle.golden.proofs.IntegerOrder.{le_or_lt}
use Rattle.filing.specs.Means.Descent.{total}
use Rattle.filing.specs.declared.Determinants.{Determinants}
use Rattle.shares.specs.declared.Floors.{Floors}
use Rattle.shares.specs.declared.Gaps.{Gaps}
use Rattle.shares.specs.Means.Shares.{Stands}
use Rattle.shares.specs.Means.WalkWords.{Fair}
use Rattle.shares.proofs.ShareLaws.{share_low, share_high, over_three, left_three, sum_low}

module _ (p : ℕ) (F : Floors) (G : Gaps) (D : Determinants) (i : Stands p F G D) where
  -- what all three have over their floors would be -s - k·s
  too_many : (k : ℕ) → F.f1 + F.f2 + F.f3 ≡ p + (1 + k) → ⊥
  too_many k e =
      i.more (sum_low k (total D) _ _ _ i.some (share_low _ _ _ _ _ i.s2) (share_low _ _ _ _ _ i.s3)
      (share_low _ _ _ _ _ i.s1)
      (over_three p F.f1 F.f2 F.f3 (1 + k) D.d1 D.d2 D.d3 e))

  -- what all three have left to their floors and gaps would be -s - k·s
  too_few : (k : ℕ) → p ≡ F.f1 + G.g1 + (F.f2 + G.g2) + (F.f3 + G.g3) + (1 + k) → ⊥
  too_few k e =
      i.more (sum_low k (total D) _ _ _ i.some (share_high _ _ _ _ _ i.s2) (share_high _ _ _ _ _ i.s3)
      (share_high _ _ _ _ _ i.s1)
      (left_three p (F.f1 + G.g1) (F.f2 + G.g2) (F.f3 + G.g3) (1 + k) D.d1 D.d2 D.d3 e))

  pub fair_stands : Fair p F G
  fair_stands =
      let f = F.f1 + F.f2 + F.f3 in
      let m = F.f1 + G.g1 + (F.f2 + G.g2) + (F.f3 + G.g3) in
      record {
        most = ⊎_elim (λ l. l) (λ l. absurd (too_many (f - p - 1) (omega arith))) (le_or_lt f p);
        least = ⊎_elim (λ l. l) (λ l. absurd (too_few (p - m - 1) (omega arith))) (le_or_lt p m);
      }
