-- Looking at every place of a list, whatever is found. Assumes nothing.
use mathlib.Core.Path.{◌≡◌, refl, sym}
use mathlib.Core.Bool.{Bool, true, false, ◌||◌, cond}
use mathlib.Core.List.{List, [], ◌∷◌}
use Prim.Native.Nat.{ℕ, suc, ◌<◌, ◌≤◌}
use lib.ListN.{length, get_or, drop}
use Rattle.frame.specs.Refusals.{◌either◌}
use Rattle.std.specs.List.{position, position_or_len}
use Rattle.std.proofs.lemmas.Bool.Decides.{nat_tests}
use Rattle.std.proofs.Common.{arith, nat_lt, Some, None, ◌∙◌}
use Rattle.std.specs.Option.{unwrap_or}
use Rattle.frame.specs.Lists.{some, first_place}
use Rattle.frame.proofs.Scanning.{finds, goes_on}

pub looks : {A : Type 0} (f : A → Bool) (list : List A) (i : ℕ) (d : A) → i < length list
    → (found : Bool) → some f list ≡ found either some f (drop i list) → (b : Bool) → b ≡ f (get_or list i d)
    → some f list ≡ (found || b) either some f (drop (suc i) list)
looks f list i d l found inv true e = finds f list i d l found inv (found || true) (sym e) (or_true found)
  where
    or_true : (a : Bool) → (a || true) ≡ true
    or_true true = refl
    or_true false = refl
looks f list i d l found inv false e = goes_on f list i d l found inv (found || false) (sym e) (or_false found)
  where
    or_false : (a : Bool) → (a || false) ≡ a
    or_false true = refl
    or_false false = refl

-- std's first place that passes is the first place, and it is not past the end
counted : {A : Type 0} (f : A → Bool) (list : List A)
    → (position_or_len f list ≡ first_place f list) × (position_or_len f list ≤ length list)
unfolding first_place
counted f [] = (refl, omega arith)
counted f (x ∷ xs) = go (f x) refl (counted f xs)
  where
    go : (b : Bool) → f x ≡ b → (position_or_len f xs ≡ first_place f xs) × (position_or_len f xs ≤ length xs)
        → (position_or_len f (x ∷ xs) ≡ first_place f (x ∷ xs)) × (position_or_len f (x ∷ xs) ≤ length (x ∷ xs))
    go true b ih = rw b (refl, omega arith)
    go false b ih = rw b (omega (arith, ih.0), omega (arith, ih.1))

-- the first place that passes, or the length where none does
pub place_is : {A : Type 0} (f : A → Bool) (list : List A) → unwrap_or (position f list) (length list) ≡ first_place f list
place_is f list = go (position_or_len f list) (counted f list).1 ∙ (counted f list).0
  where
    go : (n : ℕ) → n ≤ length list
        → unwrap_or (cond (nat_lt n (length list)) (Some n) None) (length list) ≡ n
    go n l = grind (arith, nat_tests)
