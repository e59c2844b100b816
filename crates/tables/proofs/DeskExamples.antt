-- The examples, bounds and mistakes of specs/DeskExamples.antt, computed. Assumes nothing.
use mathlib.Core.Path.{refl}
use Prim.Native.Nat.{ℕ}
use lib.ListN.{get_or}
use Rattle.frame.specs.Refusals.{first_of}
use Rattle.frame.specs.Lists.{some, first_place, those}
use Rattle.frame.proofs.Answering.{known_gives}
use Rattle.words.specs.Words.{first_digits, path, word_in}
use Rattle.words.specs.Counting.{place_of}
use Rattle.words.specs.Writing.{decimals, written}
use Rattle.tables.specs.Owners.{Shared}
use Rattle.tables.specs.Refusals.{refuse_call, refuse_deed}
use Rattle.tables.specs.Histories.{answers, after, seen}
use Rattle.tables.specs.DeskExamples.{Examples, Bounds, Mistakes}
use Rattle.tables.specs.Answers.{TableAnswer}
use Rattle.tables.proofs.Examples.{wrong, at, refusal}

pub examples : Examples
unfolding place_of some first_place those first_of refuse_call refuse_deed answers after seen decimals written path word_in
    first_digits
examples = record {
  day = refl;
  sees = refl;
  others_left_out = refl;
  about_100 = refl;
  finds = refl;
  finds_none = refl;
  take_free = known_gives refl;
  take_own = known_gives refl;
  set_own = known_gives refl;
  clear_own = known_gives refl;
  give_own = known_gives refl;
}

pub bounds : Bounds
unfolding place_of some first_place first_of refuse_call refuse_deed decimals written path word_in first_digits
bounds = record {
  desk_0 = refl;
  desk_1 = refl;
  desk_2 = refl;
  desk_3 = refl;
  owners_19 = refl;
  owners_21 = refl;
  owner_2 = refl;
  owner_3 = refl;
  owner_255 = refl;
  other_take = refl;
  other_set = refl;
  other_clear = refl;
  other_give = refl;
  other_get = refl;
  free_take = refl;
  free_set = refl;
  free_clear = refl;
  free_give = refl;
  free_get = refl;
  twentyone_before_24 = refl;
  twentytwo_before_24 = refl;
  twentythree_before_24 = known_gives refl;
  twentyfour_before_25 = refl;
  twentyfour_before_26 = refl;
  twentyfour_before_27 = refl;
  twentyfive_before_26 = refl;
  twentyfive_before_27 = refl;
  own_3 = refl;
  no_place = known_gives refl;
}

-- the owner at a place that is left
abbrev owner : ℕ → TableAnswer × Shared → ℕ
owner i x = get_or x.1.owners i 0

pub mistakes : Mistakes
unfolding place_of some first_place first_of refuse_call refuse_deed decimals written path word_in first_digits
mistakes = record {
  stolen = wrong refusal refl;
  cleared_on_taking = wrong (at 2) refl;
  own_refused = wrong refusal refl;
  untaken = wrong (owner 2) refl;
  taken_by_setting = wrong refusal refl;
  other_set = wrong refusal refl;
  other_cleared = wrong refusal refl;
  other_given = wrong refusal refl;
  given_by_clearing = wrong (owner 0) refl;
  kept_reading = wrong (at 0) refl;
  kept_owner = wrong (owner 0) refl;
  own_place_alone = wrong refusal refl;
  nobody_takes = wrong refusal refl;
  third_takes = wrong refusal refl;
}
