-- The determinants of a side, by the planes of its edges. Assumes nothing.
use mathlib.Core.Path.{◌≡◌, refl, ◌∙◌}
use mathlib.Core.List.{List, [], ◌∷◌}
use Prim.Native.Nat.{ℕ, ◌<◌}
use native.Mathlib.Omega.{arith}
use Rattle.golden.proofs.GoldenRing.{φ_ring, reφ}
use Rattle.golden.proofs.RingSolver.{reify, done}
use Rattle.golden.specs.Numbers.{◌+φ◌, ◌*φ◌}
use Rattle.golden.specs.declared.Golden.{Golden}
use Rattle.net.proofs.SharedVertices.{vertex_small}
use Rattle.net.proofs.Table.{sound, below}
use Rattle.net.specs.Division.{unit_at, triangle_at}
use Rattle.net.specs.Sides.{OneToThree, IsSide, corner_vertex, next, prev}
use Rattle.filing.specs.Coordinates.{coordinates, direction, exact}
use Rattle.filing.specs.Holding.{◌-φ◌, along, cross, dot, determinant, three, replaced, determinants}
use Rattle.filing.specs.Means.Sides.{side_dets}
use Rattle.filing.specs.declared.Coordinates.{Coordinates}
use Rattle.filing.specs.declared.Direction.{Direction}
use Rattle.filing.proofs.GoldenTests.{sameᵛ, ᵛ_same}
use Rattle.filing.proofs.Parts.{dets_path}

-- a vertex has its direction as exact coordinates
pub exact_unit : (v : ℕ) → v < 12 → exact (unit_at v) ≡ direction v
unfolding exact unit_at ◌+φ◌ ◌*φ◌
exact_unit v h = ᵛ_same (exact (unit_at v)) (direction v) (sound (below 12 λ v. sameᵛ (exact (unit_at v)) (direction v)) refl v h)

-- ---- edge planes

infixl 6 ◌-ᵛ◌
abbrev pub ◌-ᵛ◌ : Coordinates → Coordinates → Coordinates
a -ᵛ b = coordinates (a.x -φ b.x) (a.y -φ b.y) (a.z -φ b.z)

abbrev pub corner_at : (s i : ℕ) → Coordinates
corner_at s i = direction (corner_vertex s i)

-- the plane of edge k
abbrev pub plane : (s k : ℕ) → Coordinates
plane s k = cross (corner_at s (next k)) (corner_at s (prev k))

-- how far the direction goes along it
abbrev pub value : Direction → (s k : ℕ) → Golden
value d s k = dot (along d) (plane s k)

module _ (g a b c : Coordinates) where
  abbrev env : List Golden
  env = g.x ∷ g.y ∷ g.z ∷ a.x ∷ a.y ∷ a.z ∷ b.x ∷ b.y ∷ b.z ∷ c.x ∷ c.y ∷ c.z ∷ []

  by_planes : replaced g a b c ≡ three (dot g (cross b c)) (dot g (cross c a)) (dot g (cross a b))
  unfolding replaced determinant
  by_planes = dets_path refl
      (reify φ_ring env (λ σ x. simp (x 0, x 1, x 2, x 3, x 4, x 5, x 9, x 10, x 11, reφ) (done φ_ring σ _ _ refl)))
      (reify φ_ring env (λ σ x. simp (x 0, x 1, x 2, x 3, x 4, x 5, x 6, x 7, x 8, reφ) (done φ_ring σ _ _ refl)))

pub dot_sub : (g a b : Coordinates) → dot g a -φ dot g b ≡ dot g (a -ᵛ b)
dot_sub g a b =
    reify φ_ring (g.x ∷ g.y ∷ g.z ∷ a.x ∷ a.y ∷ a.z ∷ b.x ∷ b.y ∷ b.z ∷ [])
    (λ σ x. simp (x 0, x 1, x 2, x 3, x 4, x 5, x 6, x 7, x 8, reφ) (done φ_ring σ _ _ refl))

pub side_dets_lem : (d : Direction) (s : ℕ) → IsSide s → side_dets d s ≡ three (value d s 1) (value d s 2) (value d s 3)
unfolding side_dets determinants triangle_at
side_dets_lem d s h =
    (λ j. replaced (along d) (at 1 (omega arith, omega arith) j) (at 2 (omega arith, omega arith) j) (at 3 (omega arith, omega arith) j))
    ∙ by_planes (along d) (corner_at s 1) (corner_at s 2) (corner_at s 3)
  where
    at : (i : ℕ) → OneToThree i → exact (unit_at (corner_vertex s i)) ≡ corner_at s i
    at i l = exact_unit (corner_vertex s i) (vertex_small s h i l)
