-- The examples by computation. Assumes nothing.
use mathlib.Core.Path.{◌≡◌, refl, sym, ap, ◌∙◌}
use mathlib.Core.Bool.{false, not, cond}
use mathlib.Core.List.{List, [], ◌∷◌, ◌++◌}
use Prim.Native.Nat.{ℕ, ◌/◌, ◌%◌}
use lib.Dec.{ltb, eqb}
use lib.ListN.{length, get_or}
use borrow.Author.Tests.{eqb-false}
use Rattle.frame.specs.Refusals.{first_of}
use Rattle.frame.specs.Lists.{some, first_place, below}
use Rattle.octets.specs.Bytes.{bytes, read_each, words_in}
use Rattle.words.specs.Words.{first_digits, path, word_in}
use Rattle.words.specs.Refusals.{check_code}
use Rattle.words.specs.Writing.{decimals, written}
use Rattle.lines.specs.Writing.{glyph, last_decimals, decimal}
use Rattle.cells.specs.Order.{spelled, sooner, begins, less_than, inside_of}
use Rattle.cells.specs.Checking.{reason_at, checked}
use Rattle.verdicts.specs.Program.{bad_length_text, too_long_text, verdict_text, text, line}
use Rattle.verdicts.specs.Examples.{Examples, Bounds, Mistakes}

pub examples : Examples
unfolding first_of some first_place below bytes read_each first_digits path word_in check_code decimals written glyph
    last_decimals
    decimal spelled sooner begins less_than inside_of reason_at checked verdict_text text
examples = record { none = refl; one = refl; same = refl; twelfth = refl; seven = refl; nine = refl }

-- the text by the length alone
by_length : (file : List ℕ) (n : ℕ) → length file ≡ n
    → line file
    ≡ cond (not (eqb (n % 8) 0)) bad_length_text (cond (ltb 4096 (n / 8)) too_long_text
    (verdict_text (checked (words_in file)))) ++ (10 ∷ [])
unfolding text
by_length file n e = ap (λ (k : ℕ). cond (not (eqb (k % 8) 0)) bad_length_text (cond (ltb 4096 (k / 8)) too_long_text
    (verdict_text (checked (words_in file)))) ++ (10 ∷ [])) e

pub bounds : Bounds
bounds = record {
  words_4096 = λ file e. by_length file 32768 e;
  words_4097 = λ file e. by_length file 32776 e;
  bytes_32769 = λ file e. by_length file 32769 e;
  bytes_32777 = λ file e. by_length file 32777 e;
}

-- told by one byte, or by the length
differ : {xs ys : List ℕ} (i : ℕ) → eqb (get_or xs i 0) (get_or ys i 0) ≡ false → xs ≡ ys → ⊥
differ i d e = eqb-false _ _ d (ap (λ (l : List ℕ). get_or l i 0) e)

pub mistakes : Mistakes
unfolding first_of some first_place below bytes read_each first_digits path word_in check_code decimals written glyph
    last_decimals
    decimal spelled sooner begins less_than inside_of reason_at checked verdict_text text
mistakes = record {
  last_first = differ 6 refl;
  bytes_over = differ 0 refl;
  long_first = λ file e f. differ {xs = bad_length_text ++ (10 ∷ [])} {ys = too_long_text ++ (10 ∷ [])} 0 refl
      (sym (by_length file 32777 e) ∙ f);
  no_end = λ e. eqb-false _ _ refl (ap (λ (l : List ℕ). length l) e);
}
