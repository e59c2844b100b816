-- Document 02, 2026-03: what a stranger would try, each refusal at its bound, and wrong answers; the ice desk owns
-- every triangle here, or takes it. Assumes nothing.
use Rattle.std.specs.Prelude.{◌≡◌, List, [], ◌∷◌, ◌++◌, ℕ, ◌+◌, ℤ, pos, negsuc, length, set, replicate, None, Some}
use Rattle.frame.specs.Promises.{◌gives◌, ◌leaves◌}
use Rattle.words.specs.Family.{code_of}
use Rattle.words.specs.Counting.{place_of}
use Rattle.words.specs.Writing.{written, zero_digits}
use Rattle.tables.specs.Tables.{none, fresh}
use Rattle.tables.specs.Owners.{Shared, shared, fresh_shared}
use Rattle.tables.specs.Refusals.{refuse_get, refuse_deed}
use Rattle.tables.specs.Answers.{table_answer, sounding_answer, GetAnswer, SetAnswer, ClearAnswer}
use Rattle.tables.specs.Histories.{Call, asks, does, Answered, got, done, answers, after, on_table}
use Rattle.tables.specs.declared.Deed.TheVariants.{Taking, Setting, Clearing}

-- ---- how examples are written

abbrev pub takes : (desk degree code : ℕ) → Call
takes d n s = does Taking d n (written s)

abbrev pub sets : (desk degree code millimetres : ℕ) → Call
sets d n s x = does (Setting (pos x)) d n (written s)

abbrev pub clears : (desk degree code : ℕ) → Call
clears d n s = does Clearing d n (written s)

abbrev pub gets : (desk degree code : ℕ) → Call
gets d n s = asks d n (written s)

abbrev pub ok : Answered
ok = done (table_answer 0 0)

abbrev pub nothing : Answered
nothing = got (sounding_answer 0 0 None)

abbrev pub millimetres : ℕ → Answered
millimetres x = got (sounding_answer 0 0 (Some (pos x)))

-- a table of degree 0 with these numbers at its places 3 and 7
abbrev pub three_seven : (x y : ℤ) → List ℤ
three_seven x y = set (set (fresh 0) 3 x) 7 y

-- these readings, and every triangle the ice desk's
abbrev pub ours : List ℤ → Shared
ours list = shared list (replicate (length list) 1)

-- -2, which is bad
abbrev pub bad : ℤ
bad = negsuc 1

pub record Examples : Type 0 where
  -- "ordered by code": 100 is first and 511 last of twenty; of eighty 1000 to 1003 come first; the last of degree 6
  pub first : place_of (written 100) ≡ 0
  pub second : place_of (written 101) ≡ 1
  pub last : place_of (written 511) ≡ 19
  pub child : place_of (written 1001) ≡ 1
  pub next_side : place_of (written 1010) ≡ 4
  pub last_child : place_of (written 5113) ≡ 79
  pub last_of_6 : place_of (written 511333333) ≡ 81919
  -- a day at the ice desk: nothing at first; set, and it is there; set again, to 0; nothing in another triangle; clear,
  -- and there is nothing again; what is clear can be cleared
  pub day :
      answers on_table
      (gets 1 1 1001 ∷ takes 1 1 1001 ∷ sets 1 1 1001 1250 ∷ gets 1 1 1001 ∷ sets 1 1 1001 0 ∷ gets 1 1 1001
      ∷ gets 1 1 1002 ∷ clears 1 1 1001 ∷ gets 1 1 1001 ∷ clears 1 1 1001 ∷ [])
      (fresh_shared 1)
      ≡ nothing ∷ ok ∷ ok ∷ millimetres 1250 ∷ ok ∷ millimetres 0
      ∷ nothing ∷ ok ∷ nothing ∷ ok ∷ []
  -- what is left: one place is written, and no other
  pub left : after on_table (sets 1 0 101 5 ∷ []) (ours (fresh 0)) ≡ ours (none ∷ pos 5 ∷ replicate 18 none)
  pub left_clear : after on_table (sets 1 0 101 5 ∷ clears 1 0 101 ∷ []) (ours (fresh 0)) ≡ ours (fresh 0)
  -- a refused call leaves the lists
  pub left_refused : after on_table (sets 1 0 101 100001 ∷ clears 1 0 1001 ∷ []) (ours (three_seven (pos 1) (pos 2)))
      ≡ ours (three_seven (pos 1) (pos 2))
  pub left_bad : after on_table (sets 1 0 101 5 ∷ []) (ours (three_seven bad (pos 2)))
      ≡ ours (three_seven bad (pos 2))

pub record Bounds : Type 0 where
  -- "A reading is 0 to 100,000 millimetres, and -1 means no reading": -1 is none
  pub reading_0 : refuse_deed (Setting (pos 0)) 1 0 (written 100) (ours (fresh 0)) ≡ 0
  pub reading_most : refuse_deed (Setting (pos 100000)) 1 0 (written 100) (ours (fresh 0)) ≡ 0
  pub reading_above : refuse_deed (Setting (pos 100001)) 1 0 (written 100) (ours (fresh 0)) ≡ 21
  pub reading_none : refuse_deed (Setting none) 1 0 (written 100) (ours (fresh 0)) ≡ 21
  pub reading_below : refuse_deed (Setting bad) 1 0 (written 100) (ours (fresh 0)) ≡ 21
  -- "20 wrong degree": a code of another degree
  pub code_of_0 : refuse_get 1 (written 100) (fresh 1) ≡ 20
  pub code_of_1 : refuse_get 0 (written 1001) (fresh 0) ≡ 20
  -- "a table degree of 7 to 24 is also 20, above 24 it is 1", also where the code has the degree
  pub table_6 : refuse_get 6 (code_of (zero_digits 6)) [] ≡ 22
  pub table_7 : refuse_get 7 (code_of (zero_digits 7)) [] ≡ 20
  pub table_24 : refuse_get 24 (code_of (zero_digits 24)) [] ≡ 20
  pub table_25 : refuse_get 25 (written 100) [] ≡ 1
  -- and so it is of the code's own degree
  pub code_25 : refuse_get 0 (code_of (zero_digits 25)) (fresh 0) ≡ 1
  -- "22 the list's length isn't 20·4^degree"
  pub places_19 : refuse_get 0 (written 100) (replicate 19 none) ≡ 22
  pub places_21 : refuse_get 0 (written 100) (replicate 21 none) ≡ 22
  pub places_80 : refuse_deed Clearing 1 1 (written 1000) (ours (replicate 80 none)) ≡ 0
  -- "23 the list holds a number that is neither a reading nor -1": "the least bad place, counted from 0", wherever the
  -- triangle lies
  pub bad_get : GetAnswer 0 (written 100) (three_seven bad (pos 100001)) gives sounding_answer 23 3 None
  pub bad_later : GetAnswer 0 (written 100) (three_seven (pos 100000) (pos 100001)) gives sounding_answer 23 7 None
  pub bad_first : GetAnswer 0 (written 511) (pos 100001 ∷ replicate 19 none) gives sounding_answer 23 0 None
  pub bad_last : GetAnswer 0 (written 100) (replicate 19 none ++ (bad ∷ [])) gives sounding_answer 23 19 None
  pub bad_set : SetAnswer 1 0 (written 100) (pos 1) (ours (three_seven bad none))
      leaves (table_answer 23 3, ours (three_seven bad none))
  pub bad_clear : ClearAnswer 1 0 (written 100) (ours (three_seven bad none))
      leaves (table_answer 23 3, ours (three_seven bad none))
  -- setting does not mend the bad place itself
  pub bad_own : SetAnswer 1 0 (written 111) (pos 1) (ours (three_seven bad none))
      leaves (table_answer 23 3, ours (three_seven bad none))
  -- "They are checked in number order", after those of 01
  pub one_first : refuse_deed (Setting (pos 100001)) 1 25 (code_of 0) (ours []) ≡ 1
  pub two_before_20 : refuse_deed (Setting (pos 100001)) 1 7 (code_of 0) (ours []) ≡ 2
  pub three_before_20 : refuse_deed (Setting (pos 100001)) 1 7 (code_of (zero_digits 0 + 64)) (ours []) ≡ 3
  pub four_before_20 : refuse_deed (Setting (pos 100001)) 1 7 (code_of (zero_digits 0 + 1)) (ours []) ≡ 4
  pub twenty_before_21 : refuse_deed (Setting (pos 100001)) 1 7 (written 100) (ours []) ≡ 20
  pub twentyone_before_22 : refuse_deed (Setting (pos 100001)) 1 0 (written 100) (ours []) ≡ 21
  pub twentyone_before_23 : refuse_deed (Setting (pos 100001)) 1 0 (written 100) (ours (three_seven bad none)) ≡ 21
  pub twentytwo_before_23 : refuse_deed (Setting (pos 1)) 1 0 (written 100) (ours (bad ∷ [])) ≡ 22
  -- beside every other refusal the place is 0
  pub no_place : GetAnswer 0 (written 100) (none ∷ bad ∷ []) gives sounding_answer 22 0 None

-- Wrong answers that the promises refuse.
pub record Mistakes : Type 0 where
  -- answering and writing nothing
  pub unwritten : SetAnswer 1 0 (written 100) (pos 5) (ours (fresh 0)) (table_answer 0 0) (ours (fresh 0)) → ⊥
  -- writing another triangle's place
  pub elsewhere : SetAnswer 1 0 (written 101) (pos 5) (ours (fresh 0)) (table_answer 0 0)
      (ours (pos 5 ∷ replicate 19 none)) → ⊥
  -- clearing to 0, which is a reading
  pub cleared_to_0 : ClearAnswer 1 0 (written 100) (ours (pos 5 ∷ replicate 19 none)) (table_answer 0 0)
      (ours (pos 0 ∷ replicate 19 none)) → ⊥
  -- set with -1 taken for clear
  pub set_none : SetAnswer 1 0 (written 100) none (ours (pos 5 ∷ replicate 19 none)) (table_answer 0 0)
      (ours (fresh 0)) → ⊥
  -- no reading answered as the reading -1, or as 0
  pub minus_1 : GetAnswer 0 (written 100) (fresh 0) (sounding_answer 0 0 (Some none)) → ⊥
  pub zero_read : GetAnswer 0 (written 100) (fresh 0) (sounding_answer 0 0 (Some (pos 0))) → ⊥
  -- a reading of 0 answered as none
  pub zero_lost : GetAnswer 0 (written 100) (pos 0 ∷ replicate 19 none) (sounding_answer 0 0 None) → ⊥
  -- the triangle's own place alone looked at for 23
  pub own_alone : GetAnswer 0 (written 100) (three_seven bad none) (sounding_answer 0 0 None) → ⊥
  -- the last bad place, or counted from 1
  pub last_bad : GetAnswer 0 (written 100) (three_seven bad (pos 100001)) (sounding_answer 23 7 None) → ⊥
  pub from_1 : GetAnswer 0 (written 100) (three_seven bad (pos 100001)) (sounding_answer 23 4 None) → ⊥
  -- stored before 23 is looked for
  pub stored_first : SetAnswer 1 0 (written 100) (pos 5) (ours (three_seven bad none)) (table_answer 23 3)
      (ours (pos 5 ∷ none ∷ none ∷ bad ∷ replicate 16 none)) → ⊥
  -- a bad number mended while refusing
  pub mended : ClearAnswer 1 0 (written 111) (ours (three_seven bad none)) (table_answer 23 3) (ours (fresh 0)) → ⊥
  -- 22 before 21
  pub length_first : SetAnswer 1 0 (written 100) (pos 100001) (ours []) (table_answer 22 0) (ours []) → ⊥
