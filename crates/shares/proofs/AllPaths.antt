-- The paths of all triangles that hold a direction, by floors and gaps, are those by determinants; strictly inside
-- there is one. Assumes nothing.
use mathlib.Core.Path.{◌≡◌, refl, sym, ◌∙◌, ap}
use mathlib.Core.Bool.{Bool, true, false, cond}
use mathlib.Core.List.{List, [], ◌∷◌, ◌++◌, append-nil, append_assoc}
use Prim.Native.Nat.{ℕ, zero, suc, ◌+◌, ◌*◌, ◌/◌, ◌^◌, ◌≤◌, ◌<◌}
use native.Mathlib.Nat.{add-zero}
use native.Mathlib.Omega.{arith}
use lib.Dec.{leb}
use borrow.Author.Tests.{leb-true, leb-false, lt-leb}
use Rattle.net.specs.Sides.{OneToThree}
use Rattle.net.proofs.Table.{three}
use Rattle.filing.specs.Holding.{AllNonNeg}
use Rattle.filing.specs.Means.Descent.{child_dets, holders}
use Rattle.filing.specs.declared.Determinants.{Determinants}
use Rattle.filing.proofs.Tests.{holds_test}
use Rattle.filing.proofs.HolderLists.{no_holders, one_holder}
use Rattle.shares.specs.declared.Floors.{Floors}
use Rattle.shares.specs.declared.Gaps.{Gaps}
use Rattle.shares.specs.Means.Shares.{Stands, strict}
use Rattle.shares.specs.Means.Paths.{in_child, least_digit, least_path, paths}
use Rattle.shares.specs.Means.WalkWords.{floor_at}
use Rattle.shares.proofs.Choosing.{gap_at, corner_1, corner_2, corner_3, choose_corner}
use Rattle.shares.proofs.Standing.{stands_holds}
use Rattle.shares.proofs.ChildStanding.{stands_0, stands_corner, stands_over, less_corner, alone}
use Rattle.shares.proofs.LeastPath.{not_held, half_power, two_halves, power_some, at_24}

-- The paths below the child k, where its share f is half; below all three such; and those below a child d, with these
-- if it is the middle one.
abbrev pub below : (n h k f : ℕ) → Floors → Gaps → (v : ℕ) → List ℕ
below n h k f F G v = cond (leb h f) (paths n h (in_child h k F G) G (4 * v + k)) []

abbrev pub others : (n h : ℕ) → Floors → Gaps → (v : ℕ) → List ℕ
others n h F G v = below n h 1 F.f1 F G v ++ below n h 2 F.f2 F G v ++ below n h 3 F.f3 F G v

abbrev pub and_others : (n h : ℕ) → Floors → Gaps → (v d : ℕ) → Floors → List ℕ
and_others n h F G v d K = paths n h K G (4 * v + d) ++ cond (leb d 0) (others n h F G v) []

-- at a corner there are no others
no_others :
    (n h : ℕ) (F : Floors) (G : Gaps) (v k : ℕ) (K : Floors)
    → OneToThree k
    → and_others n h F G v k K ≡ paths n h K G (4 * v + k)
no_others n h F G v k K o =
    ap (λ (b : Bool). paths n h K G (4 * v + k) ++ cond b (others n h F G v) []) (lt-leb k 0 (omega (arith, o.0)))
    ∙ append-nil (paths n h K G (4 * v + k))

-- the holders below the child k
abbrev held : (n : ℕ) → Determinants → (v k : ℕ) → List ℕ
held n D v k = holders n (child_dets k D) (4 * v + k)

-- ---- four lists one after the other

all_of : (a b c d : List ℕ) → a ++ (b ++ c ++ d) ≡ a ++ b ++ c ++ d
all_of a b c d = sym (append_assoc a (b ++ c) d) ∙ ap (λ (l : List ℕ). l ++ d) (sym (append_assoc a b c))

abbrev four : (ℕ → List ℕ) → List ℕ
four f = f 0 ++ f 1 ++ f 2 ++ f 3

-- of four, where all but the k-th are empty
abbrev Only : (f : ℕ → List ℕ) → (k : ℕ) → Type 0
Only f k = ((j : ℕ) → j < 4 → (j ≡ k → ⊥) → f j ≡ []) → f k ≡ four f

only : (f : ℕ → List ℕ) (k : ℕ) → OneToThree k → Only f k
only f = three (Only f)
    (λ o. rw (
      o 0 (omega arith) (λ q. omega arith),
      o 2 (omega arith) (λ q. omega arith),
      o 3 (omega arith) (λ q. omega arith),
    ) (simp append-nil))
    (λ o. rw (
      o 0 (omega arith) (λ q. omega arith),
      o 1 (omega arith) (λ q. omega arith),
      o 3 (omega arith) (λ q. omega arith),
    ) (simp append-nil))
    (λ o. rw (
      o 0 (omega arith) (λ q. omega arith),
      o 1 (omega arith) (λ q. omega arith),
      o 2 (omega arith) (λ q. omega arith),
    ) refl)

-- ---- one step

module _ (n h p : ℕ) (e : p ≡ h + h) (F : Floors) (G : Gaps) (D : Determinants) (i : Stands p F G D) (v : ℕ)
    (ih : (K : Floors) (E : Determinants) (u : ℕ) → Stands h K G E → paths n h K G u ≡ holders n E u) where
  abbrev child : (k : ℕ) → List ℕ
  child k = held n D v k

  empty : (k : ℕ) → (AllNonNeg (child_dets k D) → ⊥) → child k ≡ []
  empty k f = no_holders n (child_dets k D) (4 * v + k) (not_held (child_dets k D) f)

  by_half : (k : ℕ) → OneToThree k → below n h k (floor_at k F) F G v ≡ child k
  by_half k o = go (leb h (floor_at k F)) refl
    where
      go :
          (b : Bool) → leb h (floor_at k F) ≡ b → cond b (paths n h (in_child h k F G) G (4 * v + k)) [] ≡ child k
      go true q = ih _ _ _ (stands_corner h p e F G D i k o (leb-true h (floor_at k F) q))
      go false q = sym (empty k (less_corner h p e F G D i k o (leb-false h (floor_at k F) q)))

  abbrev Complete : (d : ℕ) → (K : Floors) → Type 0
  Complete d K = and_others n h F G v d K ≡ four child

  -- a share is more than half
  over_half : (k : ℕ) → OneToThree k → h < floor_at k F + gap_at k G → Complete k (in_child h k F G)
  over_half k o a =
      no_others n h F G v k _ o
      ∙ ih _ _ _ (stands_over h p e F G D i k o a)
      ∙ only child k o (λ j l f. empty j (alone h p e F G D i k o a j l f))

  step : Complete (least_digit h F G) (in_child h (least_digit h F G) F G)
  step = choose_corner h F G Complete over_half
      (λ a b c.
      let l0 = ih _ _ (4 * v + 0) (stands_0 h p e F G D i a b c) in
      let l1 = by_half 1 corner_1 in
      let l2 = by_half 2 corner_2 in
      let l3 = by_half 3 corner_3 in
      (λ t. l0 t ++ (l1 t ++ l2 t ++ l3 t)) ∙ all_of (child 0) (child 1) (child 2) (child 3))

-- ---- all of them

pub all_paths :
    (n k : ℕ) (F : Floors) (G : Gaps) (D : Determinants) (v : ℕ)
    → Stands (2 ^ (n + k)) F G D
    → paths n (2 ^ (n + k)) F G v ≡ holders n D v
unfolding paths holders
all_paths zero k F G D v i =
    sym (one_holder D v (holds_test D (stands_holds (2 ^ (0 + k)) F G D i (power_some (0 + k)))))
all_paths (suc n) k F G D v i =
    ap (λ (h : ℕ). and_others n h F G v (least_digit h F G) (in_child h (least_digit h F G) F G)) (half_power n k)
    ∙ step n (2 ^ (n + k)) (2 ^ (suc n + k)) (two_halves n k) F G D i v
    (λ K E u. all_paths n k K G E u)
    ∙ ap (λ (u : ℕ). holders n (child_dets 0 D) u ++ held n D v 1 ++ held n D v 2 ++ held n D v 3)
    (add-zero (4 * v))

pub all_24 :
    (n : ℕ) (F : Floors) (G : Gaps) (D : Determinants) (v : ℕ)
    → n ≤ 24
    → Stands 16777216 F G D
    → paths n 16777216 F G v ≡ holders n D v
all_24 n F G D v l =
    at_24 n l (λ p. Stands p F G D → paths n p F G v ≡ holders n D v) (λ k. all_paths n k F G D v)

-- ---- one of them

-- where no share is half if the middle child is the least: one below the least child is all
pub one_alone :
    (n h : ℕ) (F : Floors) (G : Gaps) (v : ℕ)
    → (F.f1 + G.g1 ≤ h → F.f1 < h)
    → (F.f2 + G.g2 ≤ h → F.f2 < h)
    → (F.f3 + G.g3 ≤ h → F.f3 < h)
    → let d = least_digit h F G in
    let K = in_child h d F G in
    let one = least_path n h K G (4 * v + d) ∷ [] in
    paths n h K G (4 * v + d) ≡ one
    → and_others n h F G v d K ≡ one
one_alone n h F G v l m r =
    choose_corner h F G
    (λ d K.
    paths n h K G (4 * v + d) ≡ least_path n h K G (4 * v + d) ∷ []
    → and_others n h F G v d K ≡ least_path n h K G (4 * v + d) ∷ [])
    (λ k o a q. no_others n h F G v k _ o ∙ q)
    (λ a b c q. rw (lt-leb h F.f1 (l a), lt-leb h F.f2 (m b), lt-leb h F.f3 (r c)) (append-nil _ ∙ q))

-- strictly inside
pub strict_paths : (n p : ℕ) (F : Floors) (v : ℕ) → paths n p F strict v ≡ least_path n p F strict v ∷ []
unfolding paths least_path
strict_paths zero p F v = refl
strict_paths (suc n) p F v =
    one_alone n (p / 2) F strict v (λ a. omega arith) (λ a. omega arith) (λ a. omega arith)
    (strict_paths n (p / 2) _ _)
