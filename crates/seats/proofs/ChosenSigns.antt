-- The sign of a number, where 0 has the one that is chosen, by the two tests of the code. Assumes nothing.
use mathlib.Core.Path.{◌≡◌, refl, sym, ◌∙◌, ap}
use mathlib.Core.Bool.{true, false, true≢false}
use Prim.Native.Nat.{ℕ, zero, suc, ◌<◌}
use native.Mathlib.Omega.{arith}
use lib.IntN.{ℤ, pos, negsuc}
use lib.Signed.{lt_z}
use borrow.Author.Tests.{ltb-true}
use mir.Facts.{to_z-of_z}
use mir.Syntax.{w32}
use mir.Val.{SFits, to_z, of_z}
use Rattle.seats.specs.Means.Octants.{sign_at}

pub sign_below : (c : ℤ) (k : ℕ) → lt_z c (pos 0) ≡ true → 1 ≡ sign_at c k
sign_below (pos n) k e = let z : n < 0 = ltb-true n 0 e in absurd (omega arith)
sign_below (negsuc n) k e = refl

pub sign_zero : (c : ℤ) (k : ℕ) → c ≡ pos 0 → k ≡ sign_at c k
sign_zero c k e = ap (λ (z : ℤ). sign_at z k) (sym e)

pub sign_above : (c : ℤ) (k : ℕ) → lt_z c (pos 0) ≡ false → (c ≡ pos 0 → ⊥) → 0 ≡ sign_at c k
sign_above (pos zero) k e f = absurd (f refl)
sign_above (pos (suc n)) k e f = refl
sign_above (negsuc n) k e f = absurd (true≢false e)

-- 0 is the number that has no bits
pub bits_zero : (c : ℤ) → SFits w32 c → of_z w32 c ≡ 0 → c ≡ pos 0
bits_zero c h e = sym (to_z-of_z h) ∙ ap (to_z w32) e
