-- Where every gap of 0 is at a floor of no part or of all, no fork comes any more: one triangle holds at every degree,
-- the least. Assumes nothing.
use mathlib.Core.Path.{◌≡◌, refl, sym, ◌∙◌, ap, subst}
use mathlib.Core.Logic.{⊎_elim}
use mathlib.Core.List.{[], ◌∷◌}
use Prim.Native.Nat.{ℕ, zero, suc, ◌+◌, ◌-◌, ◌*◌, ◌^◌, ◌≤◌, ◌<◌}
use native.Mathlib.Omega.{arith}
use Rattle.golden.proofs.IntegerOrder.{le_or_lt}
use Rattle.net.specs.Sides.{OneToThree}
use Rattle.net.proofs.Table.{three}
use Rattle.shares.specs.declared.Floors.{Floors}
use Rattle.shares.specs.declared.Gaps.{Gaps}
use Rattle.shares.specs.Means.Paths.{in_child, least_digit, least_path, paths}
use Rattle.shares.specs.Means.WalkWords.{floor_at, Straight, Single, Fair}
use Rattle.shares.proofs.Choosing.{choose_corner}
use Rattle.shares.proofs.LeastPath.{half_power, two_halves, power_some}
use Rattle.shares.proofs.AllPaths.{and_others, one_alone}
use Rattle.shares.proofs.FairChildren.{Few, few_at, fair_least}

-- ---- one of the three, where an edge has 2h parts and one of the child h

module _ (h f g : ℕ) (z : 0 < h) (s : Straight (h + h) f g) where
  -- the middle child is the least: the share is not half
  less : f + g ≤ h → f < h
  less a = ⊎_elim
      (λ l. let e : f ≡ h + h = s (omega arith) (omega arith) in absurd (omega arith))
      (λ l. l)
      (le_or_lt h f)

  in_middle : f + g ≤ h → Straight h (h - (f + g)) g
  in_middle a e l = ⊎_elim
      (λ q. omega arith)
      (λ q. let all : f ≡ h + h = s e q in absurd (omega arith))
      (le_or_lt f 0)

  -- the child at this corner, and at another, with the floor m
  in_corner : h ≤ f → Straight h (f - h) g
  in_corner a e l = let all : f ≡ h + h = s e (omega arith) in omega arith

  beside_corner : (m : ℕ) → h ≤ m → m + f ≤ h + h → Straight h f g
  beside_corner m a b e l = let all : f ≡ h + h = s e l in absurd (omega arith)

-- ---- one step

module _ (h : ℕ) (F : Floors) (G : Gaps) (z : 0 < h) (g : Few G) (i : Fair (h + h) F G) (s : Single (h + h) F G) where
  -- in the child at a corner with a share of half, and in the least
  single_corner : (k : ℕ) → OneToThree k → h ≤ floor_at k F → Single h (in_child h k F G) G
  unfolding in_child
  single_corner = three (λ k. h ≤ floor_at k F → Single h (in_child h k F G) G)
      (λ m. (
        in_corner h _ _ z s.0 m,
        beside_corner h _ _ z s.1 F.f1 m (omega (arith, i.most)),
        beside_corner h _ _ z s.2 F.f1 m (omega (arith, i.most)),
      ))
      (λ m. (
        beside_corner h _ _ z s.0 F.f2 m (omega (arith, i.most)),
        in_corner h _ _ z s.1 m,
        beside_corner h _ _ z s.2 F.f2 m (omega (arith, i.most)),
      ))
      (λ m. (
        beside_corner h _ _ z s.0 F.f3 m (omega (arith, i.most)),
        beside_corner h _ _ z s.1 F.f3 m (omega (arith, i.most)),
        in_corner h _ _ z s.2 m,
      ))

  single_least : Single h (in_child h (least_digit h F G) F G) G
  unfolding in_child
  single_least = choose_corner h F G (λ d K. Single h K G)
      (λ k o a. single_corner k o (omega (arith, few_at G g k o)))
      (λ a b c. (in_middle h _ _ z s.0 a, in_middle h _ _ z s.1 b, in_middle h _ _ z s.2 c))

  step :
      (n v : ℕ)
      → ((K : Floors) (u : ℕ) → Single h K G → Fair h K G → paths n h K G u ≡ least_path n h K G u ∷ [])
      → and_others n h F G v (least_digit h F G) (in_child h (least_digit h F G) F G)
      ≡ least_path n h (in_child h (least_digit h F G) F G) G (4 * v + least_digit h F G) ∷ []
  step n v ih =
      one_alone n h F G v (less h _ _ z s.0) (less h _ _ z s.1) (less h _ _ z s.2)
      (ih _ _ single_least (fair_least h F G i g))

-- ---- all of them

pub single_paths :
    (n k : ℕ) (F : Floors) (G : Gaps) (v : ℕ)
    → Few G
    → Single (2 ^ (n + k)) F G
    → Fair (2 ^ (n + k)) F G
    → paths n (2 ^ (n + k)) F G v ≡ least_path n (2 ^ (n + k)) F G v ∷ []
unfolding paths least_path
single_paths zero k F G v g s i = refl
single_paths (suc n) k F G v g s i =
    let h = 2 ^ (n + k) in
    let e = two_halves n k in
    ap (λ (h : ℕ). and_others n h F G v (least_digit h F G) (in_child h (least_digit h F G) F G)) (half_power n k)
    ∙ step h F G (power_some (n + k)) g
    (subst (λ (p : ℕ). Fair p F G) e i)
    (subst (λ (p : ℕ). Single p F G) e s)
    n v (λ K u t f. single_paths n k K G u g t f)
    ∙ ap (λ (h : ℕ). least_path n h (in_child h (least_digit h F G) F G) G (4 * v + least_digit h F G) ∷ [])
    (sym (half_power n k))
