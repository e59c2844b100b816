-- A signed number of 32 bits, where the code reads it with 64. Assumes nothing.
use mathlib.Core.Path.{◌≡◌, ap, ◌∙◌}
use Prim.Native.Nat.{suc, ◌≤◌, ◌^◌}
use native.Mathlib.Omega.{arith}
use lib.IntN.{ℤ, pos, negsuc, nat_abs}
use lib.Signed.{mag}
use mir.Facts.{to_z-of_z}
use mir.Syntax.{w32, w64}
use mir.Val.{SFits, to_z, of_z}
use Rattle.golden.proofs.Machine.{again, again_is, fits}

abs_mag : (z : ℤ) → nat_abs z ≤ suc (mag z)
abs_mag (pos n) = omega arith
abs_mag (negsuc n) = omega arith

pub small_32 : (z : ℤ) → SFits w32 z → nat_abs z ≤ 2 ^ 31
small_32 z h = omega (arith, abs_mag z, h.sfits)

-- it fits, and is read back as it was
pub wide_fits : (z : ℤ) → SFits w32 z → SFits w64 (to_z w32 (of_z w32 z))
wide_fits z h = rw (to_z-of_z h) (fits z (omega (arith, small_32 z h)))

pub wide_is : (z : ℤ) → SFits w32 z → again (to_z w32 (of_z w32 z)) ≡ z
wide_is z h = ap again (to_z-of_z h) ∙ again_is z (omega (arith, small_32 z h))
