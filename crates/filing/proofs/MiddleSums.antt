-- The division of weights is the division of triangles in space: the exact coordinates of a middle are the sum of its two ends', those of a
-- kept corner are doubled, as the divisor 2^N is. Assumes nothing.
use mathlib.Core.Path.{◌≡◌, refl, sym, ◌∙◌}
use mathlib.Core.List.{[], ◌∷◌}
use Prim.Native.Nat.{ℕ}
use lib.IntN.{pos}
use Rattle.golden.specs.declared.Golden.{Golden}
use Rattle.golden.specs.Numbers.{whole, ◌+φ◌, ◌*φ◌}
use Rattle.golden.proofs.Polynomials.{var, lit, ◌⊕◌, ◌⊗◌}
use Rattle.golden.proofs.RingSolver.{solve}
use Rattle.golden.proofs.GoldenRing.{φ_ring}
use Rattle.words.specs.Refusals.{IsCode}
use Rattle.words.specs.declared.TriangleCode.{TriangleCode}
use Rattle.net.specs.Division.{Weights, kept, middle}
use Rattle.net.specs.Corners.{corner}
use Rattle.filing.specs.Coordinates.{◌+ᵛ◌, times, exact}
use Rattle.filing.proofs.Parts.{coordinates_path}
use Rattle.filing.proofs.Sums as sums
use Rattle.filing.proofs.Weighted.{corner_twelve}

-- "a middle's weights are the sum of its two ends'"
pub exact_middle : (n : ℕ) (t : TriangleCode) (i j : ℕ) → IsCode n t → exact (middle (corner t i) (corner t j)) ≡ exact (corner t i) +ᵛ exact (corner t j)
exact_middle n t i j c = sums.exact_middle (corner t i) (corner t j) ((corner_twelve c i).places ∙ sym (corner_twelve c j).places)

twice : (x : Golden) → x +φ x ≡ whole (pos 2) *φ x
twice x = solve φ_ring (x ∷ []) (var 0 ⊕ var 0) (lit 2 ⊗ var 0) refl

-- "a kept corner's weights are doubled"
pub exact_kept : (p : Weights) → exact (kept p) ≡ times (whole (pos 2)) (exact p)
exact_kept p = sums.exact_kept p ∙ coordinates_path (twice (exact p).x) (twice (exact p).y) (twice (exact p).z)
