-- The sides that hold a direction, from one of them: the least, and all. Assumes nothing.
use mathlib.Core.Path.{◌≡◌, refl, sym, ◌∙◌, ap}
use mathlib.Core.Logic.{◌⊎◌, inl, inr, ⊎_elim}
use Prim.Native.Nat.{ℕ, ◌≤◌}
use native.Mathlib.Omega.{arith}
use lib.IntN.{pos}
use Rattle.golden.specs.Numbers.{whole}
use Rattle.golden.proofs.IntegerOrder.{le_or_lt}
use Rattle.net.specs.Sides.{IsSide, OneToThree}
use Rattle.net.specs.Means.Seams.{seam_side}
use Rattle.filing.specs.Means.Descent.{holds, first}
use Rattle.filing.specs.Means.Sides.{side_dets, least_from}
use Rattle.filing.specs.declared.Direction.{Direction}
use Rattle.filing.proofs.NoVertex.{zero_direction, two_planes}
use Rattle.filing.proofs.SideUnits.{value}
use Rattle.filing.proofs.Tests.{First, first_is, test_holds, holds_test}
use Rattle.filing.proofs.TwoSides.{SideHolds, two_sides}
use Rattle.seats.specs.Means.Finding.{IsSome}

pub equal_or_not : (s t : ℕ) → (s ≡ t) ⊎ (s ≡ t → ⊥)
equal_or_not s t = ⊎_elim
    (λ l. ⊎_elim (λ m. inl (omega arith)) (λ m. inr (λ e. omega arith)) (le_or_lt t s))
    (λ l. inr (λ e. omega arith))
    (le_or_lt s t)

nonzero : (d : Direction) → IsSome d → d ≡ zero_direction → ⊥
nonzero d some e = some (rw e refl)

module _ (d : Direction) (some : IsSome d) (s : ℕ) (hs : IsSide s) (here : SideHolds d s) where
  pub least_here : ((t : ℕ) → IsSide t → SideHolds d t → s ≤ t) → s ≡ least_from d 4
  unfolding least_from
  least_here before =
      let r : First (λ t. holds (side_dets d t)) 4 23 (first 19 4 (λ t. holds (side_dets d t))) =
      first_is 19 4 (λ t. holds (side_dets d t)) s hs.0 (omega (arith, hs.1)) (holds_test (side_dets d s) here) in
      let l : first 19 4 (λ t. holds (side_dets d t)) ≤ s = r.least s hs.0 (holds_test (side_dets d s) here) in
      let m : s ≤ first 19 4 (λ t. holds (side_dets d t)) =
      before (first 19 4 (λ t. holds (side_dets d t))) (r.low, omega (arith, r.high))
      (test_holds (side_dets d (first 19 4 (λ t. holds (side_dets d t)))) r.passes) in
      omega arith

  -- where it lies on no edge, no other side holds it
  pub only_here : ((k : ℕ) → OneToThree k → value d s k ≡ whole (pos 0) → ⊥) → (t : ℕ) → IsSide t
      → SideHolds d t
      → s ≡ t
  only_here off t ht h = ⊎_elim (λ e. e)
      (λ f. let b = two_sides d (nonzero d some) s hs here t ht h f in absurd (off b.0 b.1 b.3))
      (equal_or_not s t)

  -- where another side holds it, no third does: a direction lies on one edge at most
  pub only_two :
      (t : ℕ) → IsSide t → SideHolds d t → (s ≡ t → ⊥) → (u : ℕ) → IsSide u → SideHolds d u
      → (s ≡ u) ⊎ (t ≡ u)
  only_two t ht h f u hu g = ⊎_elim inl
      (λ n.
      let b = two_sides d (nonzero d some) s hs here t ht h f in
      let c = two_sides d (nonzero d some) s hs here u hu g n in
      ⊎_elim (λ e. inr (b.2 ∙ ap (seam_side s) e ∙ sym c.2))
      (λ m. absurd (nonzero d some (two_planes d s hs b.0 b.1 c.0 c.1 m b.3 c.3)))
      (equal_or_not b.0 c.0))
      (equal_or_not s u)
