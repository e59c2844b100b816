-- The examples by computation, and what no program may answer. Assumes nothing.
use mathlib.Core.Path.{◌≡◌, refl, sym}
use mathlib.Core.Bool.{true≢false}
use mathlib.Core.List.{List, [], ◌∷◌, ◌++◌}
use Prim.Native.Nat.{ℕ, ◌/◌, ◌<◌}
use native.Mathlib.Omega.{arith}
use lib.ListN.{length, get_or, replicate}
use borrow.Author.Tests.{le-ltb}
use Rattle.frame.specs.Refusals.{first_of, order}
use Rattle.frame.specs.Lists.{some, first_place, those, below}
use Rattle.frame.specs.Promises.{◌leaves◌}
use Rattle.frame.proofs.Refusing.{given_so}
use Rattle.frame.proofs.Answering.{known_gives, no_other}
use Rattle.octets.specs.Bytes.{bytes, read_each}
use Rattle.words.specs.Words.{first_digits, path, word_in}
use Rattle.words.specs.Refusals.{check_code}
use Rattle.words.specs.Family.{parent_of, child_of}
use Rattle.words.specs.Writing.{decimals, written}
use Rattle.cells.specs.Order.{spelled, sooner, begins, less_than, inside_of}
use Rattle.cells.specs.Checking.{reason_at, checked}
use Rattle.mending.specs.Mending.{member, drop_reason, judged, kept, dropped, insert, ordered, sound, whole_in, parents}
use Rattle.mending.specs.Mending.{merges_at, replaced, merged_below, merges_below, mended, changes}
use Rattle.mending.specs.Answers.{Lists}
use Rattle.mending.specs.Examples.{lent}
use Rattle.host_cells.specs.Refusals.{refuse_check, refuse_mend}
use Rattle.host_cells.specs.Answers.{CheckBytes, mend_out, MendBytes}
use Rattle.host_cells.specs.Examples.{inside, children, Examples, Bounds, Mistakes}
use Rattle.host_cells.proofs.CellBytes.{check_nothing, mend_long, mend_odd, mend_nothing}

pub examples : Examples
unfolding first_of some first_place those below bytes read_each first_digits path word_in check_code parent_of child_of decimals
    written spelled sooner begins less_than inside_of reason_at checked member drop_reason judged kept dropped insert
    ordered sound whole_in parents merges_at replaced merged_below merges_below mended changes refuse_check refuse_mend
examples = record {
  inside_is = refl;
  offence = known_gives refl;
  empty = known_gives refl;
  odd = known_gives refl;
  merged = known_gives refl;
  nothing = known_gives refl;
  short = known_gives refl;
}

module _ (list : List ℕ) (l : Lists) (out : List ℕ) where
  pub too_long : 32775 < length list → refuse_mend list l out ≡ 32
  too_long h = sym (mend_long list l out (omega (arith, h)))

  pub bytes_left : length list ≡ 32775 → refuse_mend list l out ≡ 9
  bytes_left e = sym (mend_odd list l out (omega (arith, e)) (λ z. omega (arith, e, z)))

  pub full_taken : length list ≡ 32768 → refuse_mend list l out ≡ 32 → ⊥
  unfolding refuse_mend
  full_taken e h =
      true≢false (sym (rw (le-ltb 4096 (length list / 8) (omega (arith, e))) at (given_so (32 ∷ order) _ 31 h)))

pub bounds : Bounds
unfolding first_of refuse_check refuse_mend
bounds = record {
  check_0 = refl;
  check_7 = refl;
  check_8 = refl;
  check_9 = refl;
  check_out_15 = refl;
  mend_8 = refl;
  mend_9 = refl;
  mend_mended_7 = refl;
  mend_words_7 = refl;
  mend_reasons_7 = refl;
  mend_out_15 = refl;
  mend_4097 = λ list l out e. too_long list l out (omega (arith, e));
  mend_over = λ list l out e. too_long list l out (omega (arith, e));
  mend_odd = bytes_left;
  mend_4096 = λ list l out e f g h o.
      sym (mend_nothing list l out (omega (arith, e)) (omega (arith, e)) (omega (arith, e, f)) (omega (arith, e, g))
      (omega (arith, e, h)) (omega (arith, o)));
  check_4097 = λ list out e o. sym (check_nothing list out (omega (arith, e)) (omega (arith, o)));
}

-- ---- mistakes

-- byte i of what is left, of the verdict and of the counts
abbrev told_byte : ℕ → ℕ × List ℕ → ℕ
told_byte i x = get_or x.1 i 0

abbrev count_byte : ℕ → ℕ × (Lists × List ℕ) → ℕ
count_byte i x = get_or x.1.1 i 0

offence_told : CheckBytes inside (replicate 16 9) leaves (0, replicate 7 0 ++ (4 ∷ replicate 7 0) ++ (1 ∷ []))
unfolding first_of some first_place below bytes read_each first_digits path check_code spelled sooner begins less_than
    inside_of
    reason_at checked refuse_check
offence_told = known_gives refl

accepted_told : CheckBytes [] (replicate 17 9) leaves (0, replicate 16 0 ++ (9 ∷ []))
unfolding first_of some first_place below bytes read_each reason_at checked refuse_check
accepted_told = known_gives refl

one_byte_refused : CheckBytes (replicate 1 0) (replicate 16 9) leaves (9, replicate 16 9)
unfolding first_of refuse_check
one_byte_refused = known_gives refl

children_mended : MendBytes children (lent 40 40 40) (replicate 16 9)
    leaves (0, mend_out children (lent 40 40 40) (replicate 16 9))
unfolding first_of bytes refuse_mend
children_mended = known_gives refl

nothing_mended : MendBytes [] (lent 1 1 1) (replicate 16 9) leaves (0, (lent 1 1 1, replicate 16 0))
unfolding first_of those bytes read_each judged kept dropped ordered sound parents merges_at replaced merged_below
    merges_below mended changes refuse_mend
nothing_mended = known_gives refl

pub mistakes : Mistakes
unfolding first_of some those bytes read_each first_digits path word_in check_code parent_of child_of decimals written spelled
    sooner begins less_than inside_of member drop_reason judged kept dropped insert ordered sound whole_in parents merges_at
    replaced merged_below merges_below mended changes
mistakes = record {
  place_first = no_other {s = (0, _)} (told_byte 7) offence_told refl;
  place_in_bytes = no_other {s = (0, _)} (told_byte 15) offence_told refl;
  check_cleared = no_other {s = (0, _)} (told_byte 16) accepted_told refl;
  bytes_over = no_other {s = (0, _)} (λ x. x.0) one_byte_refused refl;
  counts_exchanged = λ new. no_other {s = (0, (new, _))} (count_byte 7) children_mended refl;
  count_in_bytes = λ new. no_other {s = (0, (new, _))} (count_byte 7) children_mended refl;
  rest_cleared = no_other {s = (0, _)} (λ x. get_or x.1.0.out 0 0) nothing_mended refl;
  full = full_taken;
  rounded_up = λ list l out e h. omega (arith, bytes_left list l out e, h);
  nine_first = λ list l out e h. omega (arith, too_long list l out (omega (arith, e)), h);
}
