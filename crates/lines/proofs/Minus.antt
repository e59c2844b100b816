-- The sign of a number of 64 bits. Assumes nothing.
use mathlib.Core.Path.{◌≡◌, refl, sym, subst}
use mathlib.Core.Bool.{Bool, true, false, not}
use mathlib.Core.List.{[], ◌∷◌}
use native.Mathlib.Omega.{arith}
use lib.Dec.{T}
use lib.IntN.{ℤ, pos, negsuc}
use lib.Signed.{lt_z}
use mir.Syntax.{w64}
use mir.Val.{SFits}
use mir.Facts.{to_z-of_z}
use borrow.Author.Tests.{ltb-true}
use Rattle.golden.proofs.Machine.{again}
use Rattle.lines.specs.Writing.{sign}

pub minus_signed : (x : ℤ) → SFits w64 x → lt_z (again x) (pos 0) ≡ true → 45 ∷ [] ≡ sign x
unfolding sign
minus_signed x h e = let f : lt_z x (pos 0) ≡ true = rw (to_z-of_z h) at e in is x f where
  is : (z : ℤ) → lt_z z (pos 0) ≡ true → 45 ∷ [] ≡ sign z
  is (pos n) f = absurd (omega (arith, ltb-true n 0 f))
  is (negsuc n) f = refl

pub plus_unsigned : (x : ℤ) → SFits w64 x → lt_z (again x) (pos 0) ≡ false → [] ≡ sign x
unfolding sign
plus_unsigned x h e = let f : lt_z x (pos 0) ≡ false = rw (to_z-of_z h) at e in is x f where
  is : (z : ℤ) → lt_z z (pos 0) ≡ false → [] ≡ sign z
  is (pos n) f = refl
  is (negsuc n) f = absurd (subst (λ (b : Bool). T (not b)) (sym f) tt)
