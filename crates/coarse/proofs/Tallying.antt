-- One number of a list: it is a reading where it is not negative. Assumes nothing.
use mathlib.Core.Path.{◌≡◌, ◌∙◌, refl, sym, ap}
use mathlib.Core.Bool.{true, false, true≢false}
use mathlib.Core.List.{List, [], ◌∷◌}
use Prim.Native.Nat.{ℕ, ◌<◌}
use native.Mathlib.Omega.{arith}
use borrow.Author.Tests.{le-ltb}
use lib.Dec.{T}
use lib.IntN.{ℤ, pos, negsuc, nat_abs}
use lib.Signed.{lt_z, mag, non_neg}
use lib.ListN.{length, get_or}
use Rattle.frame.proofs.Scanning.{in_range}
use Rattle.net.specs.Division.{sum}
use Rattle.tables.specs.Tables.{none}
use Rattle.coarse.specs.Sums.{present}

pub none_present : (x : ℤ) → lt_z x (pos 0) ≡ true → present (x ∷ []) ≡ []
none_present (pos n) e = absurd (true≢false (sym e ∙ le-ltb n 0 (omega arith)))
none_present (negsuc n) e = refl

-- Of a number that is not negative: it is cast to what it is.
pub record Counts (x : ℤ) : Type 0 where
  pub present_is : present (x ∷ []) ≡ nat_abs x ∷ []
  pub castable : T (non_neg x)
  pub cast : nat_abs x ≡ mag x

pub counts : (x : ℤ) → lt_z x (pos 0) ≡ false → Counts x
counts (pos n) e = record { present_is = refl; castable = tt; cast = refl }
counts (negsuc n) e = absurd (true≢false e)

pub sum_one : (x : ℕ) → x ≡ sum (x ∷ [])
unfolding sum
sum_one x = omega arith

-- what is said of a number that was read, whatever stands past the end of the list
pub read : {A : Type 0} (f : ℤ → A) (list : List ℤ) (i : ℕ) {r : A} → i < length list
    → r ≡ f (get_or list i (pos 0)) → r ≡ f (get_or list i none)
read f list i l e = e ∙ ap f (in_range list i (pos 0) none l)
