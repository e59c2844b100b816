-- The examples, bounds and mistakes of specs/Examples.antt, computed. Assumes nothing.
use mathlib.Core.Path.{◌≡◌, refl}
use mathlib.Core.Bool.{false}
use Prim.Native.Nat.{ℕ, suc, ◌+◌}
use lib.Dec.{eqb}
use lib.IntN.{ℤ, pos, negsuc}
use lib.ListN.{get_or}
use Rattle.frame.specs.Refusals.{first_of}
use Rattle.frame.specs.Answers.{Known, settled}
use Rattle.frame.specs.Lists.{some, first_place}
use Rattle.frame.proofs.Answering.{known_gives, no_other}
use Rattle.words.specs.Words.{first_digits, path, word_in}
use Rattle.words.specs.Counting.{place_of}
use Rattle.words.specs.Writing.{decimals, written}
use Rattle.tables.specs.Tables.{number, Sounding}
use Rattle.tables.specs.Owners.{Shared}
use Rattle.tables.specs.Refusals.{refuse_call, refuse_deed}
use Rattle.tables.specs.Histories.{answers, after}
use Rattle.tables.specs.Examples.{Examples, Bounds, Mistakes}
use Rattle.std.specs.Prelude.{None, Some}
use Rattle.tables.specs.Answers.{SoundingAnswer}
use Rattle.tables.specs.Answers.{TableAnswer}

pub examples : Examples
unfolding place_of some first_place first_of refuse_call refuse_deed answers after decimals written path word_in first_digits
examples = record {
  first = refl;
  second = refl;
  last = refl;
  child = refl;
  next_side = refl;
  last_child = refl;
  last_of_6 = refl;
  day = refl;
  left = refl;
  left_clear = refl;
  left_refused = refl;
  left_bad = refl;
}

pub bounds : Bounds
unfolding place_of some first_place first_of refuse_call refuse_deed decimals written path word_in first_digits
bounds = record {
  reading_0 = refl;
  reading_most = refl;
  reading_above = refl;
  reading_none = refl;
  reading_below = refl;
  code_of_0 = refl;
  code_of_1 = refl;
  table_6 = refl;
  table_7 = refl;
  table_24 = refl;
  table_25 = refl;
  code_25 = refl;
  places_19 = refl;
  places_21 = refl;
  places_80 = refl;
  bad_get = known_gives refl;
  bad_later = known_gives refl;
  bad_first = known_gives refl;
  bad_last = known_gives refl;
  bad_set = known_gives refl;
  bad_clear = known_gives refl;
  bad_own = known_gives refl;
  one_first = refl;
  two_before_20 = refl;
  three_before_20 = refl;
  four_before_20 = refl;
  twenty_before_21 = refl;
  twentyone_before_22 = refl;
  twentyone_before_23 = refl;
  twentytwo_before_23 = refl;
  no_place = known_gives refl;
}

-- ---- an answer that differs from the computed one in some number

pub wrong : {A : Type 0} {f : ℕ} {v : A} {zeros : ℕ → A} {r : A} (tell : A → ℕ)
    → eqb (tell r) (tell (settled f v zeros)) ≡ false → Known f v zeros r → ⊥
wrong tell = no_other tell (known_gives refl)

-- each whole number as a natural one
abbrev told : ℤ → ℕ
told (pos n) = n + n
told (negsuc n) = suc (n + n)

-- the reading at a place that is left, and the refusal
abbrev pub at : ℕ → TableAnswer × Shared → ℕ
at i x = told (get_or x.1.readings i (pos 0))

abbrev pub refusal : {S : Type 0} → TableAnswer × S → ℕ
refusal x = x.0.refusal

abbrev heard : SoundingAnswer → ℕ
heard r = told (number r.sounding)

-- a reading, or none
abbrev case : Sounding → ℕ
case None = 0
case (Some x) = 1

pub mistakes : Mistakes
unfolding place_of some first_place first_of refuse_call refuse_deed decimals written path word_in first_digits
mistakes = record {
  unwritten = wrong (at 0) refl;
  elsewhere = wrong (at 0) refl;
  cleared_to_0 = wrong (at 0) refl;
  set_none = wrong refusal refl;
  minus_1 = wrong (λ r. case r.sounding) refl;
  zero_read = wrong heard refl;
  zero_lost = wrong heard refl;
  own_alone = wrong (λ r. r.refusal) refl;
  last_bad = wrong (λ r. r.place) refl;
  from_1 = wrong (λ r. r.place) refl;
  stored_first = wrong (at 0) refl;
  mended = wrong (at 3) refl;
  length_first = wrong refusal refl;
}
