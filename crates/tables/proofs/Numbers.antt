-- The numbers of a table, by the tests that a program makes. Assumes nothing.
use mathlib.Core.Path.{◌≡◌, refl, sym, ap, ◌∙◌}
use mathlib.Core.Bool.{Bool, true, false, not, true≢false}
use Prim.Native.Nat.{ℕ, zero, suc, ◌≤◌}
use native.Mathlib.Omega.{arith}
use borrow.Author.Tests.{lt-ltb, le-ltb, ne_eqb, ltb-false, leb-true, leb-false}
use lib.Dec.{ltb, leb, eqb, eqb-suc-zero}
use lib.IntN.{ℤ, pos, negsuc}
use lib.Signed.{lt_z, le_z}
use Rattle.frame.specs.Refusals.{◌either◌}
use Rattle.tables.specs.Tables.{is_reading, none, is_bad, said, number, Sounding}
use Rattle.tables.specs.Owners.{nobody, is_desk, is_other}
use Rattle.std.specs.Prelude.{None, Some}

-- ---- bad: below -1, or above 100,000

pub bad_low : (x : ℤ) → lt_z x (negsuc 0) ≡ true → is_bad x ≡ true
bad_low (pos n) e = absurd (true≢false (sym e))
bad_low (negsuc zero) e = absurd (true≢false (sym e))
bad_low (negsuc (suc n)) e = rw (eqb-suc-zero n)

pub bad_else : (x : ℤ) → lt_z x (negsuc 0) ≡ false → is_bad x ≡ lt_z (pos 100000) x
bad_else (pos n) e = go (leb n 100000) refl
  where
    go : (b : Bool) → leb n 100000 ≡ b → is_bad (pos n) ≡ ltb 100000 n
    go true b = rw b (sym (le-ltb 100000 n (leb-true n 100000 b)))
    go false b = rw b (sym (lt-ltb 100000 n (leb-false n 100000 b)))
bad_else (negsuc zero) e = refl
bad_else (negsuc (suc n)) e = absurd (true≢false (sym (lt-ltb 0 (suc n) (omega arith)) ∙ e))

-- ---- a reading: not below 0, and not above 100,000

pub reading_low : (x : ℤ) → lt_z x (pos 0) ≡ true → is_reading x ≡ false
reading_low (pos n) e = absurd (true≢false (sym e ∙ le-ltb n 0 (omega arith)))
reading_low (negsuc n) e = refl

pub reading_else : (x : ℤ) → lt_z x (pos 0) ≡ false → le_z x (pos 100000) ≡ is_reading x
reading_else (pos n) e = refl
reading_else (negsuc n) e = absurd (true≢false e)

pub reading_good : (x : ℤ) → is_reading x ≡ true → is_bad x ≡ false
reading_good x e = rw e

-- ---- what a number says

pub said_nothing : (x : ℤ) → x ≡ none → said x ≡ None
said_nothing x e = ap said e

pub said_reading : (x : ℤ) → (x ≡ none → ⊥) → said x ≡ Some x
said_reading (pos n) d = refl
said_reading (negsuc zero) d = absurd (d refl)
said_reading (negsuc (suc n)) d = rw (eqb-suc-zero n)

pub said_is : (x : ℤ) → is_reading x ≡ true → said x ≡ Some x
said_is (pos r) e = refl
said_is (negsuc r) e = absurd (true≢false (sym e))

-- a number is that of what it says; one that is not bad is a reading where it says one
pub number_said : (x : ℤ) → number (said x) ≡ x
number_said (pos n) = refl
number_said (negsuc zero) = refl
number_said (negsuc (suc n)) = rw (eqb-suc-zero n)

abbrev is_there : Sounding → Bool
is_there None = false
is_there (Some x) = true

pub no_reading : {s : Sounding} {x : ℤ} → s ≡ None → s ≡ Some x → ⊥
no_reading e q = true≢false (sym (ap is_there q) ∙ ap is_there e)

pub reading_said : (x y : ℤ) → is_bad y ≡ false → said y ≡ Some x → is_reading x ≡ true
reading_said x (pos n) e q = ap is_reading (sym (ap number q)) ∙ go (leb n 100000) refl
  where
    go : (b : Bool) → leb n 100000 ≡ b → leb n 100000 ≡ true
    go true b = b
    go false b = absurd (true≢false (sym (rw b) ∙ e))
reading_said x (negsuc zero) e q = absurd (no_reading refl q)
reading_said x (negsuc (suc n)) e q = absurd (true≢false (sym (rw (eqb-suc-zero n)) ∙ e))

-- ---- owners

pub is_other_lem : (o : ℕ) → ltb 2 o ≡ is_other o
is_other_lem zero = refl
is_other_lem (suc zero) = refl
is_other_lem (suc (suc zero)) = refl
is_other_lem (suc (suc (suc o))) =
    lt-ltb 2 (suc (suc (suc o))) (omega arith)
    ∙ rw (
      ne_eqb (suc (suc (suc o))) 0 (omega arith),
      ne_eqb (suc (suc (suc o))) 1 (omega arith),
      ne_eqb (suc (suc (suc o))) 2 (omega arith),
    )

pub desk_not_other : (d : ℕ) → is_desk d ≡ true → is_other d ≡ false
desk_not_other d e = rw e (no_more (eqb d nobody))
  where
    no_more : (b : Bool) → not (b either true) ≡ false
    no_more true = refl
    no_more false = refl

pub owner_most : (o : ℕ) → is_other o ≡ false → o ≤ 2
owner_most o e = ltb-false 2 o (is_other_lem o ∙ e)

pub desk_most : (d : ℕ) → is_desk d ≡ true → d ≤ 2
desk_most d e = owner_most d (desk_not_other d e)

pub desk_not_nobody : (d : ℕ) → is_desk d ≡ true → d ≡ nobody → ⊥
desk_not_nobody d e z = true≢false (sym e ∙ ap is_desk z)
