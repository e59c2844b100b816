-- A triangle that holds has a child that holds, and a child that holds has a parent that does; all have one total. Assumes nothing.
use mathlib.Core.Path.{◌≡◌, refl, ◌∙◌, ap}
use mathlib.Core.Logic.{⊎_elim}
use mathlib.Core.List.{List, [], ◌∷◌}
use Prim.Native.Nat.{ℕ, zero, suc, ◌<◌}
use native.Mathlib.Omega.{arith}
use Rattle.golden.specs.Numbers.{◌+φ◌, negφ}
use Rattle.golden.specs.Order.{NonNeg}
use Rattle.golden.specs.declared.Golden.{Golden}
use Rattle.golden.proofs.Polynomials.{E, var, ◌⊕◌, ◌⊝◌, ⊖}
use Rattle.golden.proofs.RingSolver.{solve}
use Rattle.golden.proofs.GoldenRing.{φ_ring}
use Rattle.golden.proofs.GoldenOrder.{nonneg_by, total as either, add_nonneg, half_nonneg}
use Rattle.filing.specs.Holding.{◌-φ◌, AllNonNeg}
use Rattle.filing.specs.Means.Descent.{twice, total, child_dets}
use Rattle.filing.specs.declared.Determinants.{Determinants}
use Rattle.filing.proofs.Recurrence.{below}

twice_nonneg : (x : Golden) → NonNeg x → NonNeg (twice x)
twice_nonneg x h = add_nonneg x x h h

-- -(s - 2x) is 2x - s
turned : (s x : Golden) → NonNeg (negφ (s -φ twice x)) → NonNeg (twice x -φ s)
turned s x = nonneg_by (solve φ_ring (s ∷ x ∷ []) (⊖ (var 0 ⊝ (var 1 ⊕ var 1))) (var 1 ⊕ var 1 ⊝ var 0) refl)

pub child_holds : (D : Determinants) → AllNonNeg D → (k : ℕ) × (k < 4) × AllNonNeg (child_dets k D)
child_holds D h =
    ⊎_elim
    (λ p.
    ⊎_elim
    (λ q.
    ⊎_elim (λ r. (0, omega arith, record { n1 = p; n2 = q; n3 = r }))
    (λ r. (3, omega arith, record { n1 = twice_nonneg D.d1 h.n1; n2 = twice_nonneg D.d2 h.n2; n3 = turned _ D.d3 r }))
    (either (total D -φ twice D.d3)))
    (λ q. (2, omega arith, record { n1 = twice_nonneg D.d1 h.n1; n2 = turned _ D.d2 q; n3 = twice_nonneg D.d3 h.n3 }))
    (either (total D -φ twice D.d2)))
    (λ p. (1, omega arith, record { n1 = turned _ D.d1 p; n2 = twice_nonneg D.d2 h.n2; n3 = twice_nonneg D.d3 h.n3 }))
    (either (total D -φ twice D.d1))

-- one place from the others, in any order of the places
module _ (s x y z : Golden) (e : s ≡ x +φ y +φ z) where
  -- (s - 2y) + (s - 2z) = 2x
  from_others : NonNeg (s -φ twice y) → NonNeg (s -φ twice z) → NonNeg x
  from_others p q =
      half_nonneg x (nonneg_by
      (ap (λ (s : Golden). (s -φ twice y) +φ (s -φ twice z)) e
      ∙ solve φ_ring (x ∷ y ∷ z ∷ []) ((var 0 ⊕ var 1 ⊕ var 2 ⊝ (var 1 ⊕ var 1)) ⊕ (var 0 ⊕ var 1 ⊕ var 2 ⊝ (var 2 ⊕ var 2))) (var 0 ⊕ var 0) refl)
      (add_nonneg (s -φ twice y) (s -φ twice z) p q))

  -- (2x - s) + y + z = x
  from_itself : NonNeg (twice x -φ s) → NonNeg y → NonNeg z → NonNeg x
  from_itself p q r =
      nonneg_by
      (ap (λ (s : Golden). (twice x -φ s) +φ y +φ z) e
      ∙ solve φ_ring (x ∷ y ∷ z ∷ []) ((var 0 ⊕ var 0 ⊝ (var 0 ⊕ var 1 ⊕ var 2)) ⊕ var 1 ⊕ var 2) (var 0) refl)
      (add_nonneg (twice x -φ s +φ y) z (add_nonneg (twice x -φ s) y p q) r)

module _ (D : Determinants) where
  abbrev env : List Golden
  env = D.d1 ∷ D.d2 ∷ D.d3 ∷ []

  total_2 : total D ≡ D.d2 +φ D.d3 +φ D.d1
  total_2 = solve φ_ring env (var 0 ⊕ var 1 ⊕ var 2) (var 1 ⊕ var 2 ⊕ var 0) refl

  total_3 : total D ≡ D.d3 +φ D.d1 +φ D.d2
  total_3 = solve φ_ring env (var 0 ⊕ var 1 ⊕ var 2) (var 2 ⊕ var 0 ⊕ var 1) refl

  pub parent_holds : (k : ℕ) → AllNonNeg (child_dets k D) → AllNonNeg D
  parent_holds zero h =
      record {
        n1 = from_others (total D) D.d1 D.d2 D.d3 refl h.n2 h.n3;
        n2 = from_others (total D) D.d2 D.d3 D.d1 total_2 h.n3 h.n1;
        n3 = from_others (total D) D.d3 D.d1 D.d2 total_3 h.n1 h.n2;
      }
  parent_holds (suc zero) h =
      let q : NonNeg D.d2 = half_nonneg D.d2 h.n2 in
      let r : NonNeg D.d3 = half_nonneg D.d3 h.n3 in
      record { n1 = from_itself (total D) D.d1 D.d2 D.d3 refl h.n1 q r; n2 = q; n3 = r }
  parent_holds (suc (suc zero)) h =
      let p : NonNeg D.d1 = half_nonneg D.d1 h.n1 in
      let r : NonNeg D.d3 = half_nonneg D.d3 h.n3 in
      record { n1 = p; n2 = from_itself (total D) D.d2 D.d3 D.d1 total_2 h.n2 r p; n3 = r }
  parent_holds (suc (suc (suc k))) h =
      let p : NonNeg D.d1 = half_nonneg D.d1 h.n1 in
      let q : NonNeg D.d2 = half_nonneg D.d2 h.n2 in
      record { n1 = p; n2 = q; n3 = from_itself (total D) D.d3 D.d1 D.d2 total_3 h.n3 p q }

  -- every child has its parent's total
  pub total_child : (k : ℕ) → total (child_dets k D) ≡ total D
  total_child zero = solve φ_ring env (less (var 0) ⊕ less (var 1) ⊕ less (var 2)) all refl
    where
      all : E
      all = var 0 ⊕ var 1 ⊕ var 2

      less : E → E
      less x = all ⊝ (x ⊕ x)
  total_child (suc zero) = solve φ_ring env ((var 0 ⊕ var 0 ⊝ (var 0 ⊕ var 1 ⊕ var 2)) ⊕ (var 1 ⊕ var 1) ⊕ (var 2 ⊕ var 2)) (var 0 ⊕ var 1 ⊕ var 2) refl
  total_child (suc (suc zero)) = solve φ_ring env ((var 0 ⊕ var 0) ⊕ (var 1 ⊕ var 1 ⊝ (var 0 ⊕ var 1 ⊕ var 2)) ⊕ (var 2 ⊕ var 2)) (var 0 ⊕ var 1 ⊕ var 2) refl
  total_child (suc (suc (suc k))) = solve φ_ring env ((var 0 ⊕ var 0) ⊕ (var 1 ⊕ var 1) ⊕ (var 2 ⊕ var 2 ⊝ (var 0 ⊕ var 1 ⊕ var 2))) (var 0 ⊕ var 1 ⊕ var 2) refl

pub total_below : (D : Determinants) (ds : List ℕ) → total (below D ds) ≡ total D
unfolding below
total_below D [] = refl
total_below D (d ∷ ds) = total_child (below D ds) d ∙ total_below D ds

-- a triangle that holds lies in one that does, at every degree above
pub above_holds : (D : Determinants) (ds : List ℕ) → AllNonNeg (below D ds) → AllNonNeg D
unfolding below
above_holds D [] h = h
above_holds D (d ∷ ds) h = above_holds D ds (parent_holds (below D ds) d h)
