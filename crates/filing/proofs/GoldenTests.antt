-- Finite rules about numbers u + vφ and coordinates, for the tests that antt computes. Assumes nothing.
use mathlib.Core.Path.{◌≡◌}
use Prim.Native.Nat.{◌+◌}
use lib.IntN.{ℤ, pos}
use Rattle.golden.proofs.GoldenRing.{φ_path}
use Rattle.golden.proofs.IntegerOrder.{pp, np, →eq, eq→}
use Rattle.golden.specs.declared.Golden.{Golden}
use Rattle.net.proofs.Table.{Test, Holds, same, no, ◌and◌}
use Rattle.filing.specs.declared.Coordinates.{Coordinates}
use Rattle.filing.proofs.Parts.{coordinates_path}

abbrev pub sameℤ : ℤ → ℤ → Test
sameℤ a b = same (pp a + np b) (pp b + np a)

abbrev pub sameφ : Golden → Golden → Test
sameφ a b = sameℤ a.u b.u and sameℤ a.v b.v

abbrev pub sameᵛ : Coordinates → Coordinates → Test
sameᵛ a b = sameφ a.x b.x and (sameφ a.y b.y and sameφ a.z b.z)

pub φ_same : (a b : Golden) → Holds (sameφ a b) → a ≡ b
φ_same a b h = φ_path (→eq a.u b.u h.0) (→eq a.v b.v h.1)

pub ᵛ_same : (a b : Coordinates) → Holds (sameᵛ a b) → a ≡ b
ᵛ_same a b h = coordinates_path (φ_same a.x b.x h.0) (φ_same a.y b.y h.1.0) (φ_same a.z b.z h.1.1)

-- not 0
abbrev pub nonzero : ℤ → Test
nonzero a = no (sameℤ a (pos 0))

pub is_nonzero : (a : ℤ) → Holds (nonzero a) → a ≡ pos 0 → ⊥
is_nonzero a n e = n (eq→ a (pos 0) e)
