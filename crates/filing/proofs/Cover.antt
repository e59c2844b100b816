-- Every direction is held by a side. Call g · (A1 + A2 + A3) the rise of a side along g. The plane of an edge is the difference of the corner
-- sums of the side and of its neighbour there: so a side holds g exactly when no neighbour rises higher, and the highest side holds it.
-- Assumes nothing.
use mathlib.Core.Path.{◌≡◌, refl, sym, ◌∙◌, ap}
use mathlib.Core.Logic.{⊎_elim}
use mathlib.Core.List.{[], ◌∷◌}
use Prim.Native.Nat.{ℕ, zero, suc, ◌+◌, ◌-◌, ◌≤◌}
use native.Mathlib.Omega.{arith}
use Rattle.golden.proofs.GoldenOrder.{nonneg_by, total, add_nonneg}
use Rattle.golden.proofs.GoldenProduct.{whole_nonneg}
use Rattle.golden.proofs.GoldenRing.{φ_ring}
use Rattle.golden.proofs.IntegerOrder.{le_or_lt}
use Rattle.golden.proofs.Polynomials.{var, lit, ◌⊕◌, ◌⊝◌, ⊖}
use Rattle.golden.proofs.RingSolver.{solve}
use Rattle.golden.specs.Numbers.{◌+φ◌, negφ, ◌*φ◌}
use Rattle.golden.specs.Order.{NonNeg}
use Rattle.golden.specs.declared.Golden.{Golden}
use Rattle.net.proofs.SharedVertices.{seam_side_lem}
use Rattle.net.proofs.Table.{sound, sides, threes}
use Rattle.net.specs.Means.Seams.{seam_side}
use Rattle.net.specs.Sides.{OneToThree, IsSide, corner_vertex}
use Rattle.filing.specs.Coordinates.{◌+ᵛ◌}
use Rattle.filing.specs.Holding.{◌-φ◌, along, dot, AllNonNeg}
use Rattle.filing.specs.Means.Sides.{side_dets}
use Rattle.filing.specs.declared.Coordinates.{Coordinates}
use Rattle.filing.specs.declared.Direction.{Direction}
use Rattle.filing.proofs.GoldenTests.{sameᵛ, ᵛ_same}
use Rattle.filing.proofs.SideUnits.{◌-ᵛ◌, corner_at, plane, value, dot_sub, side_dets_lem}

-- the sum of the corners
abbrev pub normal : (s : ℕ) → Coordinates
normal s = corner_at s 1 +ᵛ corner_at s 2 +ᵛ corner_at s 3

-- across each edge of each side lies a side whose corner sum differs by the edge's plane
pub plane_between : (s : ℕ) → IsSide s → (k : ℕ) → OneToThree k → plane s k ≡ normal s -ᵛ normal (seam_side s k)
unfolding seam_side corner_vertex ◌+φ◌ negφ ◌*φ◌
plane_between s h k l =
    ᵛ_same (plane s k) (normal s -ᵛ normal (seam_side s k)) (sound (sides λ s. threes λ k. sameᵛ (plane s k) (normal s -ᵛ normal (seam_side s k))) refl s h k l)

-- ---- the highest

trans_nonneg : (a b c : Golden) → NonNeg (a -φ b) → NonNeg (b -φ c) → NonNeg (a -φ c)
trans_nonneg a b c p q = nonneg_by
    (solve φ_ring (a ∷ b ∷ c ∷ []) ((var 0 ⊝ var 1) ⊕ (var 1 ⊝ var 2)) (var 0 ⊝ var 2) refl)
    (add_nonneg (a -φ b) (b -φ c) p q)

refl_nonneg : (a : Golden) → NonNeg (a -φ a)
refl_nonneg a = nonneg_by (solve φ_ring (a ∷ []) (lit 0) (var 0 ⊝ var 0) refl) (whole_nonneg 0)

turn_nonneg : (a b : Golden) → NonNeg (negφ (a -φ b)) → NonNeg (b -φ a)
turn_nonneg a b p = nonneg_by (solve φ_ring (a ∷ b ∷ []) (⊖ (var 0 ⊝ var 1)) (var 1 ⊝ var 0) refl) p

abbrev Highest : (ℕ → Golden) → ℕ → ℕ → Type 0
Highest f n s = (k : ℕ) → k ≤ n → NonNeg (f s -φ f k)

highest : (f : ℕ → Golden) (n : ℕ) → (s : ℕ) × (s ≤ n) × Highest f n s
highest f zero = (0, omega arith, λ k h. let e : k ≡ 0 = omega arith in rw e (refl_nonneg (f 0)))
highest f (suc n) =
    let r = highest f n in
    ⊎_elim
    (λ p. (
      r.0,
      omega (arith, r.1),
      λ k h. ⊎_elim
          (λ l. r.2 k l)
          (λ l. let e : k ≡ suc n = omega arith in rw e p)
          (le_or_lt k n),
    ))
    (λ p. (
      suc n,
      omega arith,
      λ k h. ⊎_elim
          (λ l. trans_nonneg (f (suc n)) (f r.0) (f k) (turn_nonneg (f r.0) (f (suc n)) p) (r.2 k l))
          (λ l. let e : k ≡ suc n = omega arith in rw e (refl_nonneg (f (suc n))))
          (le_or_lt k n),
    ))
    (total (f r.0 -φ f (suc n)))

-- ---- the law

abbrev rise : Direction → ℕ → Golden
rise d s = dot (along d) (normal s)

module _ (d : Direction) (s : ℕ) (h : IsSide s) (top : (t : ℕ) → IsSide t → NonNeg (rise d s -φ rise d t)) where
  at_edge : (k : ℕ) → OneToThree k → NonNeg (value d s k)
  at_edge k l = nonneg_by
      (dot_sub (along d) (normal s) (normal (seam_side s k)) ∙ ap (λ (w : Coordinates). dot (along d) w) (sym (plane_between s h k l)))
      (top (seam_side s k) (seam_side_lem s h k l))

  top_holds : AllNonNeg (side_dets d s)
  top_holds = rw (side_dets_lem d s h) (record { n1 = at_edge 1 (omega arith, omega arith); n2 = at_edge 2 (omega arith, omega arith); n3 = at_edge 3 (omega arith, omega arith) })

-- every direction is held by a side
pub cover : (d : Direction) → (s : ℕ) × IsSide s × AllNonNeg (side_dets d s)
cover d =
    let f : ℕ → Golden = λ i. rise d (4 + i) in
    let r = highest f 19 in
    let h : IsSide (4 + r.0) = (omega arith, omega (arith, r.1)) in
    let top : (t : ℕ) → IsSide t → NonNeg (rise d (4 + r.0) -φ rise d t) = λ t l.
    let e : t ≡ 4 + (t - 4) = omega (arith, l.0) in
    nonneg_by (ap (λ (t : ℕ). rise d (4 + r.0) -φ rise d t) (sym e)) (r.2 (t - 4) (omega (arith, l.0, l.1))) in
    (4 + r.0, h, top_holds d (4 + r.0) h top)
