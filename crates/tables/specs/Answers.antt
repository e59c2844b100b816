-- Document 02, 2026-03 and 2026-07: the complete answer of get, take, set, clear and give, for every input. The
-- contract of get cites its own; those of the others have cited, since 2026-08, what stands in
-- coarse/specs/Answers.antt, which leaves the readings and the owners as it is said here (AsBefore). `list` is the
-- lent list of readings; `s` is both lists as they come, `new` as they are left. Assumes nothing.
use Rattle.std.specs.Prelude.{cond, List, ℕ, eqb, ℤ, None, Result, Ok, Err}
use Rattle.frame.specs.Answers.{Known}
use Rattle.frame.specs.Refusals.{number}
use Rattle.words.specs.declared.TriangleCode.{TriangleCode}
use Rattle.tables.specs.Tables.{least_bad, said, number_at, Sounding}
use Rattle.tables.specs.Owners.{Shared, shared_after}
use Rattle.tables.specs.Refusals.{refuse_get, refuse_deed}
use Rattle.tables.specs.declared.Deed.{Deed}
use Rattle.tables.specs.declared.Deed.TheVariants.{Taking, Setting, Clearing, Giving}
use Rattle.tables.specs.declared.TableRefusal.{TableRefusal}
use Rattle.tables.specs.declared.TableRefusal.TheVariants.{Call, BadNumber}

-- ---- answers, and a refusal's zeros

-- The answer of a call that writes: a refusal's number, 0 where it is answered, and beside 23 the least bad place.
pub record TableAnswer : Type 0 where
  pub refusal : ℕ
  pub place : ℕ

-- The answer of get: the same, with what the table has.
pub record SoundingAnswer : Type 0 where
  pub refusal : ℕ
  pub place : ℕ
  pub sounding : Sounding

abbrev pub table_answer : (refusal place : ℕ) → TableAnswer
table_answer f p = record { refusal = f; place = p }

abbrev pub sounding_answer : (refusal place : ℕ) → Sounding → SoundingAnswer
sounding_answer f p s = record { refusal = f; place = p; sounding = s }

-- "Refusal 23 alone answers, besides its number, the least bad place, counted from 0."
abbrev pub place_for : List ℤ → (refusal : ℕ) → ℕ
place_for list f = cond (eqb f 23) (least_bad list) 0

abbrev pub refused : List ℤ → (refusal : ℕ) → TableAnswer
refused list f = table_answer f (place_for list f)

-- "Every refusal returns only its number and zeros" (document 01): the zero of a sounding is that there is none
abbrev pub refused_get : List ℤ → (refusal : ℕ) → SoundingAnswer
refused_get list f = sounding_answer f (place_for list f) None

-- ---- a call's result, told so

-- the number of why a call refuses, and the place that it answers
abbrev pub table_number : TableRefusal → ℕ
table_number (Call f) = number f
table_number (BadNumber p) = 23

abbrev pub table_place : TableRefusal → ℕ
table_place (Call f) = 0
table_place (BadNumber p) = p

-- as frame's `told`, with a refusal's place
abbrev pub told_placed : {A R : Type 0} → (answer : A → R) → (zeros : (refusal place : ℕ) → R)
    → Result A TableRefusal → R
told_placed answer zeros (Ok a) = answer a
told_placed answer zeros (Err e) = zeros (table_number e) (table_place e)

abbrev pub table_told : Result (Unit {0}) TableRefusal → TableAnswer
table_told r = told_placed (λ u. table_answer 0 0) table_answer r

abbrev pub sounding_told : Result Sounding TableRefusal → SoundingAnswer
sounding_told r = told_placed (sounding_answer 0 0) (λ f p. sounding_answer f p None) r

-- ---- get

abbrev pub found : TriangleCode → List ℤ → SoundingAnswer
found t list = sounding_answer 0 0 (said (number_at t list))

abbrev pub GetAnswer : (degree : ℕ) → TriangleCode → List ℤ → SoundingAnswer → Type 0
GetAnswer n t list r = Known (refuse_get n t list) (found t list) (refused_get list) r

-- ---- the calls that write: the answer together with both lists

abbrev pub carried_out : Deed → (desk : ℕ) → TriangleCode → Shared → TableAnswer × Shared
carried_out e d t s = (table_answer 0 0, shared_after e d t s)

-- "None changes the list."
abbrev pub refused_deed : Shared → (refusal : ℕ) → TableAnswer × Shared
refused_deed s f = (refused s.readings f, s)

abbrev pub DeedAnswer : Deed → (desk degree : ℕ) → TriangleCode → Shared → TableAnswer → Shared → Type 0
DeedAnswer e d n t s r new = Known (refuse_deed e d n t s) (carried_out e d t s) (refused_deed s) (r, new)

abbrev pub TakeAnswer : (desk degree : ℕ) → TriangleCode → Shared → TableAnswer → Shared → Type 0
TakeAnswer = DeedAnswer Taking

-- "Set and clear from 2026-03 now need ownership"
abbrev pub SetAnswer : (desk degree : ℕ) → TriangleCode → (reading : ℤ) → Shared → TableAnswer → Shared
    → Type 0
SetAnswer d n t x = DeedAnswer (Setting x) d n t

abbrev pub ClearAnswer : (desk degree : ℕ) → TriangleCode → Shared → TableAnswer → Shared → Type 0
ClearAnswer = DeedAnswer Clearing

abbrev pub GiveAnswer : (desk degree : ℕ) → TriangleCode → Shared → TableAnswer → Shared → Type 0
GiveAnswer = DeedAnswer Giving
