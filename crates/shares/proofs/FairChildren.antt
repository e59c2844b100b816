-- Fair floors and gaps stay fair in the least child, and in a child with a share of half. Assumes nothing.
use mathlib.Core.Path.{◌≡◌}
use Prim.Native.Nat.{ℕ, zero, suc, ◌+◌, ◌≤◌}
use native.Mathlib.Omega.{arith}
use Rattle.net.specs.Sides.{OneToThree}
use Rattle.net.proofs.Table.{three}
use Rattle.shares.specs.declared.Floors.{Floors}
use Rattle.shares.specs.declared.Gaps.{Gaps}
use Rattle.shares.specs.Means.Paths.{in_child, least_digit}
use Rattle.shares.specs.Means.WalkWords.{floor_at, Fair}
use Rattle.shares.proofs.Choosing.{gap_at, choose_corner}

-- no gap is above 1
abbrev pub Few : Gaps → Type 0
Few G = (G.g1 ≤ 1) × (G.g2 ≤ 1) × (G.g3 ≤ 1)

pub few_at : (G : Gaps) → Few G → (k : ℕ) → OneToThree k → gap_at k G ≤ 1
few_at G g = three (λ k. gap_at k G ≤ 1) g.0 g.1 g.2

-- an edge has 2h parts, and one of the child h
module _ (h : ℕ) (F : Floors) (G : Gaps) (i : Fair (h + h) F G) where
  -- the floors in the child at a corner are together h fewer
  child_sum :
      (k : ℕ)
      → 1 ≤ k
      → h ≤ floor_at k F
      → let K = in_child h k F G in K.f1 + K.f2 + K.f3 + h ≡ F.f1 + F.f2 + F.f3
  unfolding in_child
  child_sum zero l a = absurd (omega arith)
  child_sum (suc zero) l a = omega arith
  child_sum (suc (suc zero)) l a = omega arith
  child_sum (suc (suc (suc k))) l a = omega arith

  pub fair_corner : (k : ℕ) → 1 ≤ k → h ≤ floor_at k F → Fair h (in_child h k F G) G
  fair_corner k l a =
      let e = child_sum k l a in
      record { most = omega (arith, i.most, e); least = omega (arith, i.least, e) }

  pub fair_least : Few G → Fair h (in_child h (least_digit h F G) F G) G
  unfolding in_child
  fair_least g = choose_corner h F G (λ d K. Fair h K G)
      (λ k o a. fair_corner k o.0 (omega (arith, few_at G g k o)))
      (λ a b c. record { most = omega (arith, i.least); least = omega (arith, i.most) })
