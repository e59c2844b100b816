-- The least child that holds, case by case, and with one case for the three corners. Assumes nothing.
use mathlib.Core.Path.{◌≡◌, refl}
use mathlib.Core.Bool.{Bool, true, false}
use Prim.Native.Nat.{ℕ, suc, ◌+◌, ◌-◌, ◌≤◌, ◌<◌}
use native.Mathlib.Omega.{arith}
use lib.Dec.{leb}
use borrow.Author.Tests.{leb-true, leb-false}
use Rattle.net.specs.Sides.{OneToThree, nth}
use Rattle.shares.specs.declared.Floors.{Floors}
use Rattle.shares.specs.declared.Gaps.{Gaps}
use Rattle.shares.specs.Means.Shares.{floors, strict}
use Rattle.shares.specs.Means.Paths.{pick, in_child, least_digit}
use Rattle.shares.specs.Means.WalkWords.{floor_at}

-- the gap at the corner k
abbrev pub gap_at : (k : ℕ) → Gaps → ℕ
gap_at k G = nth k G.g1 G.g2 G.g3

pub corner_1 : OneToThree 1
corner_1 = (omega arith, omega arith)

pub corner_2 : OneToThree 2
corner_2 = (omega arith, omega arith)

pub corner_3 : OneToThree 3
corner_3 = (omega arith, omega arith)

over : (h x : ℕ) → leb (suc h) x ≡ true → h < x
over h x e = let l : suc h ≤ x = leb-true (suc h) x e in omega arith

within : (h x : ℕ) → leb (suc h) x ≡ false → x ≤ h
within h x e = let l : x < suc h = leb-false (suc h) x e in omega arith

module _ (h : ℕ) (F : Floors) (G : Gaps) (P : ℕ → Floors → Type 0) where
  pub choose :
      (h < F.f1 + G.g1 → P 1 (floors (F.f1 - h) F.f2 F.f3))
      → (F.f1 + G.g1 ≤ h → h < F.f2 + G.g2 → P 2 (floors F.f1 (F.f2 - h) F.f3))
      → (F.f1 + G.g1 ≤ h → F.f2 + G.g2 ≤ h → h < F.f3 + G.g3
      → P 3 (floors F.f1 F.f2 (F.f3 - h)))
      → (F.f1 + G.g1 ≤ h → F.f2 + G.g2 ≤ h → F.f3 + G.g3 ≤ h
      → P 0 (floors (h - (F.f1 + G.g1)) (h - (F.f2 + G.g2)) (h - (F.f3 + G.g3))))
      → P (least_digit h F G) (in_child h (least_digit h F G) F G)
  unfolding least_digit in_child
  choose at_1 at-2 at-3 none = go (leb (suc h) (F.f1 + G.g1)) (leb (suc h) (F.f2 + G.g2)) (leb (suc h) (F.f3 + G.g3)) refl refl refl
    where
      go :
          (p q r : Bool)
          → leb (suc h) (F.f1 + G.g1) ≡ p
          → leb (suc h) (F.f2 + G.g2) ≡ q
          → leb (suc h) (F.f3 + G.g3) ≡ r
          → P (pick p q r 1 2 3 0) (in_child h (pick p q r 1 2 3 0) F G)
      go true q r a b c = at_1 (over h _ a)
      go false true r a b c = at-2 (within h _ a) (over h _ b)
      go false false true a b c = at-3 (within h _ a) (within h _ b) (over h _ c)
      go false false false a b c = none (within h _ a) (within h _ b) (within h _ c)

  pub choose_corner :
      ((k : ℕ) → OneToThree k → h < floor_at k F + gap_at k G → P k (in_child h k F G))
      → (F.f1 + G.g1 ≤ h → F.f2 + G.g2 ≤ h → F.f3 + G.g3 ≤ h → P 0 (in_child h 0 F G))
      → P (least_digit h F G) (in_child h (least_digit h F G) F G)
  unfolding in_child
  choose_corner corner middle = choose (corner 1 corner_1) (λ a. corner 2 corner_2) (λ a b. corner 3 corner_3) middle

-- strictly inside
pub choose_strict :
    (h : ℕ) (F : Floors) (P : ℕ → Floors → Type 0)
    → (h ≤ F.f1 → P 1 (floors (F.f1 - h) F.f2 F.f3))
    → (F.f1 < h → h ≤ F.f2 → P 2 (floors F.f1 (F.f2 - h) F.f3))
    → (F.f1 < h → F.f2 < h → h ≤ F.f3 → P 3 (floors F.f1 F.f2 (F.f3 - h)))
    → (F.f1 < h → F.f2 < h → F.f3 < h → P 0 (floors (h - (F.f1 + 1)) (h - (F.f2 + 1)) (h - (F.f3 + 1))))
    → P (least_digit h F strict) (in_child h (least_digit h F strict) F strict)
choose_strict h F P at_1 at-2 at-3 none =
    choose h F strict P (λ a. at_1 (omega arith)) (λ a b. at-2 (omega arith) (omega arith)) (λ a b c. at-3 (omega
    arith) (omega arith) (omega arith)) (λ a b c. none (omega arith) (omega arith) (omega arith))
