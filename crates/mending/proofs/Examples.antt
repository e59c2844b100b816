-- The examples by computation, and what no program may answer. Assumes nothing.
use mathlib.Core.Path.{◌≡◌, refl, sym, ap}
use mathlib.Core.Bool.{false, true≢false}
use mathlib.Core.List.{List, [], ◌∷◌}
use Prim.Native.Nat.{ℕ}
use native.Mathlib.Omega.{arith}
use lib.Dec.{eqb, eqb-suc-zero}
use lib.ListN.{length, get_or, replicate}
use borrow.Author.Tests.{eqb-false, lt-ltb, le-ltb}
use Rattle.frame.specs.Refusals.{first_of, order}
use Rattle.frame.specs.Lists.{some, those}
use Rattle.frame.specs.Promises.{◌leaves◌}
use Rattle.frame.proofs.Refusing.{given_so}
use Rattle.frame.proofs.Answering.{known_gives, no_other}
use Rattle.words.specs.Words.{first_digits, path, word_in}
use Rattle.words.specs.Refusals.{check_code}
use Rattle.words.specs.Family.{parent_of, child_of}
use Rattle.words.specs.Writing.{decimals, written}
use Rattle.cells.specs.Order.{spelled, sooner, begins, less_than, inside_of}
use Rattle.mending.specs.Mending.{member, drop_reason, Change, judged, kept, dropped, insert, ordered, sound}
use Rattle.mending.specs.Mending.{whole_in, parents, merges_at, replaced, merged_below, merges_below, mended, changes}
use Rattle.mending.specs.Answers.{Lists, lists, refuse_mend, mend_answer, MendResult, words_of, reasons_of}
use Rattle.mending.specs.Examples.{lent, Examples, Mistakes}
use Rattle.mending.specs.Answers.{MendAnswer}

long_refused : (ws : List ℕ) (l : Lists) → length ws ≡ 4097 → refuse_mend ws l ≡ 32
unfolding refuse_mend first_of
long_refused ws l e = rw (lt-ltb 4096 (length ws) (omega (arith, e)))

full_taken : (ws : List ℕ) (l : Lists) → length ws ≡ 4096 → refuse_mend ws l ≡ 32 → ⊥
unfolding refuse_mend
full_taken ws l e h =
    true≢false (sym (rw (le-ltb 4096 (length ws) (omega (arith, e))) at (given_so (32 ∷ order) _ 31 h)))

as_long_answered : (ws : List ℕ) (l : Lists) → length ws ≡ 4096 → length l.out ≡ 4096 → length l.words ≡ 4096
    → length l.reasons ≡ 4096 → refuse_mend ws l ≡ 0
unfolding refuse_mend first_of
as_long_answered ws l e f g h =
    rw (
      le-ltb 4096 (length ws) (omega (arith, e)),
      le-ltb (length l.out) (length ws) (omega (arith, e, f)),
      le-ltb (length l.words) (length ws) (omega (arith, e, g)),
      le-ltb (length l.reasons) (length ws) (omega (arith, e, h)),
    )

pub examples : Examples
unfolding first_of some those first_digits path word_in check_code parent_of child_of decimals written spelled sooner begins
    less_than inside_of member drop_reason judged kept dropped insert ordered sound whole_in parents merges_at replaced
    merged_below merges_below mended changes refuse_mend
examples = record {
  empty = refl;
  four = refl;
  four_changes = refl;
  three = refl;
  twice = refl;
  twice_changes = refl;
  deepest = refl;
  in_a_row = refl;
  dropped = refl;
  invalid = refl;
  sides = refl;
  places = known_gives refl;
  short_out = known_gives refl;
  short_words = known_gives refl;
  short_reasons = known_gives refl;
  long = long_refused;
  as_long = as_long_answered;
}

-- ---- mistakes

-- told apart by one of their numbers
differ : {A : Type 0} {r s : A} (number : A → ℕ) → eqb (number r) (number s) ≡ false → r ≡ s → ⊥
differ number d e = eqb-false _ _ d (ap number e)

abbrev word_at : ℕ → List Change → ℕ
word_at i cs = get_or (words_of cs) i 0

abbrev reason_at : ℕ → List Change → ℕ
reason_at i cs = get_or (reasons_of cs) i 0

-- a number of the answer, and the first place of the result
abbrev told_by : (MendAnswer → ℕ) → MendAnswer × Lists → ℕ
told_by f x = f x.0

abbrev first_out : MendAnswer × Lists → ℕ
first_out x = get_or x.1.out 0 0

nothing_given : MendResult [] (lent 1 0 0) leaves (mend_answer 0 0 0, lent 1 0 0)
unfolding first_of judged kept dropped ordered sound those parents merges_at replaced merged_below merges_below mended
    changes refuse_mend
nothing_given = known_gives refl

no_places : MendResult [] (lent 0 0 0) leaves (mend_answer 0 0 0, lent 0 0 0)
unfolding first_of judged kept dropped ordered sound those parents merges_at replaced merged_below merges_below mended
    changes refuse_mend
no_places = known_gives refl

one_invalid : MendResult (0 ∷ []) (lent 1 1 1) leaves (mend_answer 0 0 1, lists (replicate 1 7) (0 ∷ []) (1 ∷ []))
unfolding first_of some those check_code member drop_reason judged kept dropped ordered sound parents merges_at replaced
    merged_below merges_below mended changes refuse_mend
one_invalid = known_gives refl

pub mistakes : Mistakes
unfolding first_of some those first_digits path word_in check_code parent_of child_of decimals written spelled sooner begins
    less_than inside_of member drop_reason judged kept dropped insert ordered sound whole_in parents merges_at replaced
    merged_below merges_below mended changes
mistakes = record {
  stack_order = differ (word_at 0) refl;
  once = differ (λ ws. length ws) refl;
  inside_first = differ (reason_at 1) refl;
  earlier_only = differ (λ cs. length cs) refl;
  clears = no_other first_out nothing_given refl;
  nothing = no_other (told_by (λ r. r.changes)) one_invalid refl;
  refuses = λ k. no_other (told_by (λ r. r.refusal)) no_places (eqb-suc-zero k);
  full = full_taken;
}
