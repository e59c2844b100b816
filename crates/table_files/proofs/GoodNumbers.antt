-- The good numbers of a table: read back, and nothing else is read as one. Assumes nothing.
use mathlib.Core.Path.{◌≡◌, ◌∙◌, refl, sym, ap}
use mathlib.Core.Bool.{Bool, true, false, true≢false}
use Prim.Native.Nat.{ℕ, zero, suc, ◌-◌, ◌^◌, ◌<◌}
use native.Mathlib.Omega.{arith}
use borrow.Author.Tests.{leb-true, eqb-true}
use lib.Dec.{leb, eqb, eqb-suc-zero}
use lib.IntN.{ℤ, pos, negsuc}
use Rattle.tables.specs.Tables.{is_bad}
use Rattle.tables.specs.Owners.{is_other}
use Rattle.tables.proofs.Numbers.{owner_most}
use Rattle.table_files.specs.Files.{word_of, reading_of, owner_of}
use Rattle.table_files.proofs.OneNumber.{an_owner}

-- ---- there and back

-- f reads a number that g writes
abbrev pub Back : {A : Type 0} → (f : ℕ → A) (g : A → ℕ) (x : A) → Type 0
Back f g x = (f (g x) ≡ x) × (g x < 256 ^ 8)

pub reading_back : (x : ℤ) → is_bad x ≡ false → Back reading_of word_of x
unfolding reading_of
reading_back (pos r) e = go (leb r 100000) refl
  where
    go : (b : Bool) → leb r 100000 ≡ b → Back reading_of word_of (pos r)
    go true b = let l = leb-true r 100000 b in (rw b, omega (arith, l))
    go false b = absurd (true≢false (sym (rw b) ∙ e))
reading_back (negsuc zero) e = (refl, omega arith)
reading_back (negsuc (suc r)) e = absurd (true≢false (sym (rw (eqb-suc-zero r)) ∙ e))

pub owner_back : (o : ℕ) → is_other o ≡ false → Back owner_of (λ w. w) o
owner_back o e = let l = owner_most o e in (sym (an_owner o l), omega (arith, l))

-- ---- just that

pub reading_just : (w : ℕ) → is_bad (reading_of w) ≡ false → word_of (reading_of w) ≡ w
unfolding reading_of
reading_just w e = go (leb w 100000) (eqb w (256 ^ 8 - 1)) refl refl
  where
    go : (a b : Bool) → leb w 100000 ≡ a → eqb w (256 ^ 8 - 1) ≡ b → word_of (reading_of w) ≡ w
    go true b p q = rw p
    go false true p q = rw (p, q) (sym (eqb-true w (256 ^ 8 - 1) q))
    go false false p q = absurd (true≢false (sym (rw (p, q)) ∙ e))

pub owner_just : (w : ℕ) → is_other (owner_of w) ≡ false → owner_of w ≡ w
unfolding owner_of
owner_just w e = go (leb w 2) refl
  where
    go : (b : Bool) → leb w 2 ≡ b → owner_of w ≡ w
    go true p = rw p
    go false p = absurd (true≢false (sym (rw p) ∙ e))

pub reading_stays : (w : ℕ) → ((x : ℤ) → is_bad x ≡ false → word_of x ≡ w → ⊥) → is_bad (reading_of w) ≡ true
reading_stays w h = go (is_bad (reading_of w)) refl
  where
    go : (b : Bool) → is_bad (reading_of w) ≡ b → is_bad (reading_of w) ≡ true
    go true p = p
    go false p = absurd (h (reading_of w) p (reading_just w p))

pub owner_stays : (w : ℕ) → is_other w ≡ true → is_other (owner_of w) ≡ true
owner_stays w e = go (is_other (owner_of w)) refl
  where
    go : (b : Bool) → is_other (owner_of w) ≡ b → is_other (owner_of w) ≡ true
    go true p = p
    go false p = absurd (true≢false (sym e ∙ ap is_other (sym (owner_just w p)) ∙ p))
