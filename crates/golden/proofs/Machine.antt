-- Signed numbers of 64 bits as the machine keeps them and reads them back. Assumes nothing.
use mathlib.Core.Path.{◌≡◌, sym, ◌∙◌, ap, subst}
use mathlib.Core.Bool.{Bool, true, false, not}
use Prim.Native.Nat.{ℕ, ◌<◌, ◌≤◌, ◌^◌}
use native.Mathlib.Omega.{arith}
use lib.Dec.{T}
use lib.IntN.{ℤ, pos, negsuc, nat_abs, neg_ℤ, ◌+ℤ◌, ◌-ℤ◌}
use lib.Signed.{mag, lt_z, non_neg, ◌<ℤ◌, ◌≤ℤ◌, lt_z_yes, lt_z_no}
use mir.Syntax.{w64}
use mir.Val.{Fits, SFits, to_z, of_z}
use mir.Facts.{to_z-of_z}
use Rattle.golden.proofs.Magnitudes.{abs_add, abs_neg}

-- z, written to 64 bits and read back
abbrev pub again : ℤ → ℤ
again z = to_z w64 (of_z w64 z)

mag_abs : (z : ℤ) → mag z ≤ nat_abs z
mag_abs (pos n) = omega arith
mag_abs (negsuc n) = omega arith

pub fits : (z : ℤ) → nat_abs z < 2 ^ 63 → SFits w64 z
fits z h = record { sfits = omega (arith, mag_abs z) }

-- what fits is read back as it was; of a call's result r, `again_fit r c.f.ok`
pub again_fit : (z : ℤ) → mag z < 2 ^ 63 → again z ≡ z
again_fit z h = to_z-of_z {w = w64} (record { sfits = h })

pub again_is : (z : ℤ) → nat_abs z < 2 ^ 63 → again z ≡ z
again_is z h = to_z-of_z (fits z h)

-- what a function returned, read back, where it is known to be z
pub again_of : {r z : ℤ} → r ≡ z → nat_abs z < 2 ^ 63 → again r ≡ z
again_of {r} {z} e h = ap again e ∙ again_is z h

-- a sum and a difference of two that are small enough
pub sum_is : (x y : ℤ) → nat_abs x < 2 ^ 61 → nat_abs y < 2 ^ 61 → again (again x +ℤ again y) ≡ x +ℤ y
sum_is x y h k = rw (again_is x (omega arith), again_is y (omega arith)) (again_is _ (omega (arith, abs_add x y)))

pub difference_is : (x y : ℤ) → nat_abs x < 2 ^ 61 → nat_abs y < 2 ^ 61 → again (again x -ℤ again y) ≡ x +ℤ neg_ℤ y
difference_is x y h k =
    rw (again_is x (omega arith), again_is y (omega arith)) (again_is _ (omega (arith, abs_add x (neg_ℤ y), abs_neg y)))

-- the size of z, which `magnitude` takes of z as it is read back
pub size_is : (z : ℤ) {m : ℕ} → nat_abs z < 2 ^ 63 → m ≡ nat_abs (again z) → m ≡ nat_abs z
size_is z h e = e ∙ ap nat_abs (again_is z h)

-- what a test of a local says, which is of the number as it is read back
pub below : (z : ℤ) {y : ℤ} → nat_abs z < 2 ^ 63 → lt_z (again z) y ≡ true → z <ℤ y
below z {y} h e =
    let f : lt_z z y ≡ true = rw (again_is z h) at e in
    lt_z_yes (subst T (sym f) tt)

pub not_below : (z : ℤ) {y : ℤ} → nat_abs z < 2 ^ 63 → lt_z (again z) y ≡ false → y ≤ℤ z
not_below z {y} h e =
    let f : lt_z z y ≡ false = rw (again_is z h) at e in
    lt_z_no (subst (λ (b : Bool). T (not b)) (sym f) tt)

-- a cast of z, which is n, to an unsigned type
pub cast_ok : (z : ℤ) (n : ℕ) → z ≡ pos n → n < 2 ^ 63 → T (non_neg (again z)) × Fits w64 (nat_abs (again z))
cast_ok z n e h = rw (e, again_is (pos n) h) (tt, record { fits = omega arith })

pub cast_is : (z : ℤ) (n : ℕ) → z ≡ pos n → n < 2 ^ 63 → nat_abs (again z) ≡ n
cast_is z n e h = rw (e, again_is (pos n) h)
