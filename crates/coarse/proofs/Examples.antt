-- The examples, bounds and mistakes of specs/Examples.antt, computed. Assumes nothing.
use mathlib.Core.Path.{refl}
use Prim.Native.Nat.{ℕ}
use lib.ListN.{get_or}
use Rattle.frame.specs.Refusals.{first_of}
use Rattle.frame.specs.Lists.{some, first_place, below}
use Rattle.frame.proofs.Answering.{known_gives}
use Rattle.words.specs.Words.{first_digits, path, word_in}
use Rattle.words.specs.Family.{parent_of, child_of}
use Rattle.words.specs.Counting.{code_at, place_of}
use Rattle.net.specs.Division.{sum}
use Rattle.words.specs.Writing.{decimals, written}
use Rattle.tables.specs.Refusals.{refuse_call}
use Rattle.tables.specs.Histories.{answers, after}
use Rattle.tables.specs.Answers.{TableAnswer}
use Rattle.tables.proofs.Examples.{wrong, refusal}
use Rattle.coarse.specs.Sums.{Coarse, every_parent, Chart}
use Rattle.coarse.specs.Refusals.{refuse_kept, refuse_work_out}
use Rattle.coarse.specs.Histories.{told_by, present_by}
use Rattle.coarse.specs.Examples.{Examples, Bounds, Mistakes}

pub examples : Examples
unfolding place_of code_at parent_of child_of some first_place below first_of sum refuse_call refuse_kept refuse_work_out
    every_parent answers after told_by present_by decimals written path word_in first_digits
examples = record {
  counted = refl;
  again = refl;
  less = refl;
  heard_4 = refl;
  heard_2 = refl;
  heard_0 = refl;
  take = known_gives refl;
  set_new = known_gives refl;
  set_again = known_gives refl;
  clear_0 = known_gives refl;
  give = known_gives refl;
  take_free = known_gives refl;
  off = refl;
  degree_2 = refl;
  afresh = known_gives refl;
  afresh_miscounted = known_gives refl;
  degree_0 = refl;
  afresh_0 = known_gives refl;
}

pub bounds : Bounds
unfolding place_of code_at parent_of child_of some first_place below first_of sum refuse_call refuse_kept refuse_work_out
    every_parent decimals written path word_in first_digits
bounds = record {
  counts_19 = refl;
  counts_21 = refl;
  sums_19 = refl;
  sums_21 = refl;
  counts_1 = refl;
  sums_1 = refl;
  empty = refl;
  take_29 = refl;
  set_29 = refl;
  clear_29 = refl;
  give_29 = refl;
  sum_29 = refl;
  last_child = refl;
  other_parent = refl;
  other_sum = refl;
  degree_2 = refl;
  degree_2_other = refl;
  twentyone_before_28 = refl;
  twentytwo_before_28 = refl;
  twentythree_before_28 = refl;
  twentyfour_before_28 = refl;
  twentyfive_before_28 = refl;
  twentysix_before_28 = refl;
  twentyseven_before_28 = refl;
  twentyseven_before_29 = refl;
  twentyeight_before_29 = refl;
  afresh_25 = refl;
  afresh_24 = refl;
  afresh_7 = refl;
  afresh_19 = refl;
  afresh_bad = known_gives refl;
  afresh_counts = known_gives refl;
  afresh_sums = known_gives refl;
  afresh_21 = refl;
  afresh_1 = refl;
}

-- the count and the sum at a place that are left
abbrev count : ℕ → TableAnswer × Chart → ℕ
count i x = get_or x.1.coarse.counts i 0

abbrev total : ℕ → TableAnswer × Chart → ℕ
total i x = get_or x.1.coarse.sums i 0

abbrev counted : TableAnswer × Coarse → ℕ
counted x = get_or x.1.counts 0 0

pub mistakes : Mistakes
unfolding place_of code_at parent_of child_of some first_place below first_of sum refuse_call refuse_kept refuse_work_out
    every_parent decimals written path word_in first_digits
mistakes = record {
  counted_twice = wrong (count 0) refl;
  not_lowered = wrong (total 0) refl;
  zero_not_counted = wrong (count 0) refl;
  zero_afresh = wrong counted refl;
  mended = wrong refusal refl;
  mended_by_taking = wrong refusal refl;
  all_looked_at = wrong refusal refl;
  left = wrong (count 0) refl;
  left_on_giving = wrong (count 0) refl;
  own_place = wrong (count 0) refl;
  touched = wrong (count 0) refl;
  touched_on_29 = wrong (count 0) refl;
  touched_afresh = wrong counted refl;
  not_afresh = wrong counted refl;
}
