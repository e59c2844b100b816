-- Document 02, 2026-07: what two strangers would try, each refusal at its bound, and wrong answers. Assumes nothing.
use Rattle.std.specs.Prelude.{◌≡◌, List, [], ◌∷◌, ℕ, pos, set, replicate}
use Rattle.frame.specs.Promises.{◌leaves◌}
use Rattle.words.specs.Writing.{written}
use Rattle.tables.specs.Tables.{none, fresh}
use Rattle.tables.specs.Owners.{Shared, shared, fresh_shared}
use Rattle.tables.specs.Refusals.{refuse_get, refuse_deed}
use Rattle.tables.specs.Answers.{table_answer, TakeAnswer, SetAnswer, ClearAnswer, GiveAnswer}
use Rattle.tables.specs.Histories.{Call, does, Answered, done, answers, after, on_table}
use Rattle.tables.specs.Histories.{calls_about, without, seen}
use Rattle.tables.specs.Examples.{takes, sets, clears, gets, ok, nothing, millimetres, bad}
use Rattle.tables.specs.declared.Deed.TheVariants.{Taking, Setting, Clearing, Giving}

-- ---- how examples are written

abbrev pub gives_back : (desk degree code : ℕ) → Call
gives_back d n s = does Giving d n (written s)

abbrev pub no : (refusal : ℕ) → Answered
no f = done (table_answer f 0)

-- calls of both desks about 100 and 101
abbrev pub morning : List Call
morning = takes 1 0 100 ∷ takes 2 0 100 ∷ takes 1 0 101 ∷ gets 2 0 101 ∷ gets 1 0 100 ∷ []

-- a table of degree 0: 100 is the ice desk's with the reading 5, 101 the pilotage desk's with 6, 110 nobody's with 7
abbrev pub three : Shared
three = shared (pos 5 ∷ pos 6 ∷ pos 7 ∷ replicate 17 none) (1 ∷ 2 ∷ replicate 18 0)

pub record Examples : Type 0 where
  -- a free triangle is taken before it is set; the other desk can neither take, set, clear nor give it back, and sees
  -- it; giving back clears; then the other may take it
  pub day :
      answers on_table
      (sets 1 0 100 5 ∷ takes 1 0 100 ∷ sets 1 0 100 5
      ∷ takes 2 0 100 ∷ sets 2 0 100 9 ∷ clears 2 0 100 ∷ gives_back 2 0 100 ∷ gets 2 0 100
      ∷ takes 1 0 100 ∷ gets 1 0 100 ∷ gives_back 1 0 100 ∷ gets 1 0 100 ∷ gives_back 1 0 100
      ∷ takes 2 0 100 ∷ gets 2 0 100 ∷ sets 1 0 100 5 ∷ [])
      (fresh_shared 0)
      ≡ no 27 ∷ ok ∷ ok
      ∷ no 26 ∷ no 26 ∷ no 26 ∷ no 26 ∷ millimetres 5
      ∷ ok ∷ millimetres 5 ∷ ok ∷ nothing ∷ no 27
      ∷ ok ∷ nothing ∷ no 26 ∷ []
  -- what the ice desk sees of 100 until it gives it back, not by taking it once more, clearing it, or giving it back in
  -- vain: whatever the pilotage desk tries meanwhile, whatever itself does elsewhere, and not what comes later
  pub sees :
      seen on_table 1 (written 100)
      (takes 2 0 100 ∷ sets 1 0 100 5 ∷ sets 2 0 100 9 ∷ gives_back 2 0 100 ∷ gets 2 0 100 ∷ gets 1 0 100
      ∷ takes 1 0 101 ∷ takes 1 0 100 ∷ clears 1 0 100 ∷ sets 1 0 100 100001 ∷ gives_back 1 1 100
      ∷ gives_back 1 0 100
      ∷ takes 2 0 100 ∷ sets 2 0 100 9 ∷ gets 1 0 100 ∷ [])
      (after on_table (takes 1 0 100 ∷ []) (fresh_shared 0))
      ≡ ok ∷ millimetres 5 ∷ ok ∷ ok ∷ no 21 ∷ no 20 ∷ ok ∷ []
  -- the calls that are left without the pilotage desk's, and those of the ice desk about 100
  pub others_left_out : without 2 morning ≡ takes 1 0 100 ∷ takes 1 0 101 ∷ gets 1 0 100 ∷ []
  pub about_100 : calls_about 1 (written 100) morning ≡ takes 1 0 100 ∷ gets 1 0 100 ∷ []
  -- "what it finds on taking may" depend on the other desk: a reading that came with the table is gone when the
  -- pilotage desk has taken the triangle and given it back
  pub finds : answers on_table (takes 1 0 110 ∷ gets 1 0 110 ∷ []) three ≡ ok ∷ millimetres 7 ∷ []
  pub finds_none :
      answers on_table (takes 1 0 110 ∷ gets 1 0 110 ∷ [])
      (after on_table (takes 2 0 110 ∷ gives_back 2 0 110 ∷ []) three) ≡ ok ∷ nothing ∷ []
  -- each call on its own, and what it leaves
  pub take_free : TakeAnswer 1 0 (written 110) three
      leaves (table_answer 0 0, shared three.readings (1 ∷ 2 ∷ 1 ∷ replicate 17 0))
  pub take_own : TakeAnswer 1 0 (written 100) three leaves (table_answer 0 0, three)
  pub set_own : SetAnswer 2 0 (written 101) (pos 0) three
      leaves (table_answer 0 0, shared (pos 5 ∷ pos 0 ∷ pos 7 ∷ replicate 17 none) three.owners)
  pub clear_own : ClearAnswer 2 0 (written 101) three
      leaves (table_answer 0 0, shared (pos 5 ∷ none ∷ pos 7 ∷ replicate 17 none) three.owners)
  pub give_own : GiveAnswer 1 0 (written 100) three
      leaves (table_answer 0 0, shared (none ∷ pos 6 ∷ pos 7 ∷ replicate 17 none) (0 ∷ 2 ∷ replicate 18 0))

pub record Bounds : Type 0 where
  -- "24 not a desk"
  pub desk_0 : refuse_deed Taking 0 0 (written 100) (fresh_shared 0) ≡ 24
  pub desk_1 : refuse_deed Taking 1 0 (written 100) (fresh_shared 0) ≡ 0
  pub desk_2 : refuse_deed Taking 2 0 (written 100) (fresh_shared 0) ≡ 0
  pub desk_3 : refuse_deed Taking 3 0 (written 100) (fresh_shared 0) ≡ 24
  -- "25 owner list malformed (wrong length or another number)": wherever the number stands
  pub owners_19 : refuse_deed Taking 1 0 (written 100) (shared (fresh 0) (replicate 19 0)) ≡ 25
  pub owners_21 : refuse_deed Taking 1 0 (written 100) (shared (fresh 0) (replicate 21 0)) ≡ 25
  pub owner_2 : refuse_deed Taking 1 0 (written 100) (shared (fresh 0) (set (replicate 20 0) 19 2)) ≡ 0
  pub owner_3 : refuse_deed Taking 1 0 (written 100) (shared (fresh 0) (set (replicate 20 0) 19 3)) ≡ 25
  pub owner_255 : refuse_deed Taking 1 0 (written 511) (shared (fresh 0) (set (replicate 20 0) 0 255)) ≡ 25
  -- "On another's triangle every call but get is 26"
  pub other_take : refuse_deed Taking 1 0 (written 101) three ≡ 26
  pub other_set : refuse_deed (Setting (pos 1)) 1 0 (written 101) three ≡ 26
  pub other_clear : refuse_deed Clearing 1 0 (written 101) three ≡ 26
  pub other_give : refuse_deed Giving 1 0 (written 101) three ≡ 26
  pub other_get : refuse_get 0 (written 101) three.readings ≡ 0
  -- "on a free one all but get and take are 27."
  pub free_take : refuse_deed Taking 1 0 (written 110) three ≡ 0
  pub free_set : refuse_deed (Setting (pos 1)) 1 0 (written 110) three ≡ 27
  pub free_clear : refuse_deed Clearing 1 0 (written 110) three ≡ 27
  pub free_give : refuse_deed Giving 1 0 (written 110) three ≡ 27
  pub free_get : refuse_get 0 (written 110) three.readings ≡ 0
  -- "The new refusals are checked in number order after 23." (26 and 27 never hold together.)
  pub twentyone_before_24 : refuse_deed (Setting (pos 100001)) 3 0 (written 101) (shared (fresh 0) []) ≡ 21
  pub twentytwo_before_24 : refuse_deed Taking 3 0 (written 101) (shared [] []) ≡ 22
  pub twentythree_before_24 : TakeAnswer 3 0 (written 101) (shared (none ∷ replicate 19 bad) [])
      leaves (table_answer 23 1, shared (none ∷ replicate 19 bad) [])
  pub twentyfour_before_25 : refuse_deed Taking 3 0 (written 101) (shared (fresh 0) []) ≡ 24
  pub twentyfour_before_26 : refuse_deed Taking 3 0 (written 101) three ≡ 24
  pub twentyfour_before_27 : refuse_deed Giving 0 0 (written 110) three ≡ 24
  pub twentyfive_before_26 :
      refuse_deed Taking 1 0 (written 101) (shared (fresh 0) (set three.owners 19 3)) ≡ 25
  pub twentyfive_before_27 :
      refuse_deed Giving 1 0 (written 110) (shared (fresh 0) (set three.owners 19 3)) ≡ 25
  -- an owner that is none is 25, and neither the other desk's nor nobody's
  pub own_3 : refuse_deed Clearing 1 0 (written 100) (shared (fresh 0) (replicate 20 3)) ≡ 25
  -- 25 answers no place
  pub no_place : GiveAnswer 1 0 (written 100) (shared (fresh 0) (set (replicate 20 1) 7 3))
      leaves (table_answer 25 0, shared (fresh 0) (set (replicate 20 1) 7 3))

-- Wrong answers that the promises refuse.
pub record Mistakes : Type 0 where
  -- taking another's triangle
  pub stolen : TakeAnswer 1 0 (written 101) three (table_answer 0 0)
      (shared three.readings (1 ∷ 1 ∷ replicate 18 0)) → ⊥
  -- clearing on taking
  pub cleared_on_taking : TakeAnswer 1 0 (written 110) three (table_answer 0 0)
      (shared (pos 5 ∷ pos 6 ∷ replicate 18 none) (1 ∷ 2 ∷ 1 ∷ replicate 17 0)) → ⊥
  -- refusing to take one's own
  pub own_refused : TakeAnswer 1 0 (written 100) three (table_answer 26 0) three → ⊥
  -- taking and writing nothing
  pub untaken : TakeAnswer 1 0 (written 110) three (table_answer 0 0) three → ⊥
  -- set takes a free triangle by itself
  pub taken_by_setting : SetAnswer 1 0 (written 110) (pos 1) three (table_answer 0 0)
      (shared (pos 5 ∷ pos 6 ∷ pos 1 ∷ replicate 17 none) (1 ∷ 2 ∷ 1 ∷ replicate 17 0)) → ⊥
  -- another's triangle set, or cleared, or given back
  pub other_set : SetAnswer 1 0 (written 101) (pos 1) three (table_answer 0 0)
      (shared (pos 5 ∷ pos 1 ∷ pos 7 ∷ replicate 17 none) three.owners) → ⊥
  pub other_cleared : ClearAnswer 1 0 (written 101) three (table_answer 0 0)
      (shared (pos 5 ∷ none ∷ pos 7 ∷ replicate 17 none) three.owners) → ⊥
  pub other_given : GiveAnswer 1 0 (written 101) three (table_answer 0 0)
      (shared (pos 5 ∷ none ∷ pos 7 ∷ replicate 17 none) (1 ∷ replicate 19 0)) → ⊥
  -- clear gives back
  pub given_by_clearing : ClearAnswer 1 0 (written 100) three (table_answer 0 0)
      (shared (none ∷ pos 6 ∷ pos 7 ∷ replicate 17 none) (0 ∷ 2 ∷ replicate 18 0)) → ⊥
  -- giving back keeps the reading, or the owner
  pub kept_reading : GiveAnswer 1 0 (written 100) three (table_answer 0 0)
      (shared three.readings (0 ∷ 2 ∷ replicate 18 0)) → ⊥
  pub kept_owner : GiveAnswer 1 0 (written 100) three (table_answer 0 0)
      (shared (none ∷ pos 6 ∷ pos 7 ∷ replicate 17 none) three.owners) → ⊥
  -- 25 looked for at the triangle's own place alone
  pub own_place_alone : TakeAnswer 1 0 (written 100) (shared (fresh 0) (set (replicate 20 0) 19 3)) (table_answer 0 0)
      (shared (fresh 0) (set (1 ∷ replicate 19 0) 19 3)) → ⊥
  -- desks 0 and 3
  pub nobody_takes : TakeAnswer 0 0 (written 110) three (table_answer 0 0) three → ⊥
  pub third_takes : TakeAnswer 3 0 (written 110) three (table_answer 0 0)
      (shared three.readings (1 ∷ 2 ∷ 3 ∷ replicate 17 0)) → ⊥
