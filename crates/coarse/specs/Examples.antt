-- Document 02, 2026-08: what a stranger would try, each refusal at its bound, and wrong answers. Assumes nothing.
use Rattle.std.specs.Prelude.{◌≡◌, List, [], ◌∷◌, ◌++◌, ℕ, ℤ, pos, replicate}
use Rattle.frame.specs.Promises.{◌leaves◌}
use Rattle.words.specs.Writing.{written}
use Rattle.tables.specs.Tables.{none, fresh}
use Rattle.tables.specs.Owners.{shared, fresh_shared}
use Rattle.tables.specs.Answers.{table_answer}
use Rattle.tables.specs.Histories.{Call, answers, after}
use Rattle.tables.specs.Examples.{takes, sets, clears, gets, ok, millimetres, bad}
use Rattle.tables.specs.DeskExamples.{gives_back, no}
use Rattle.tables.specs.declared.Deed.TheVariants.{Taking, Setting, Clearing, Giving}
use Rattle.coarse.specs.Sums.{Coarse, coarse, Chart, chart, fresh_chart}
use Rattle.coarse.specs.Refusals.{refuse_kept, refuse_work_out}
use Rattle.coarse.specs.Answers.{TakeAnswer, SetAnswer, ClearAnswer, GiveAnswer, WorkOutAnswer}
use Rattle.coarse.specs.Histories.{on_chart, no_readings, told_by, present_by}

-- ---- how examples are written

-- the first counts and sums, and 0 for all other triangles of degree 0
abbrev pub two : (count₀ count₁ sum₀ sum₁ : ℕ) → Coarse
two a b x y = coarse (a ∷ b ∷ replicate 18 0) (x ∷ y ∷ replicate 18 0)

-- a table of degree 1 with these numbers for 1000 to 1003; the ice desk owns all; and any counts and sums
abbrev pub four : (a b c d : ℤ) → Coarse → Chart
four a b c d = chart (shared (a ∷ b ∷ c ∷ d ∷ replicate 76 none) (replicate 80 1))

-- three readings, which come to 107, one of them 0; 1003 has none
abbrev pub three : Chart
three = four (pos 100) (pos 0) (pos 7) none (two 3 0 107 0)

-- the same with a wrong count, and with a wrong sum, for 100
abbrev pub miscounted : Chart
miscounted = four (pos 100) (pos 0) (pos 7) none (two 2 0 107 0)

abbrev pub missummed : Chart
missummed = four (pos 100) (pos 0) (pos 7) none (two 3 0 7 0)

-- the ice desk takes three children of 100 and one of 101 and sets them; then it clears one and gives one back
abbrev pub morning : List Call
morning =
    takes 1 1 1000 ∷ takes 1 1 1003 ∷ takes 1 1 1002 ∷ takes 1 1 1011
    ∷ sets 1 1 1000 10 ∷ sets 1 1 1003 100000 ∷ sets 1 1 1002 0 ∷ sets 1 1 1011 7 ∷ []

abbrev pub noon : List Call
noon = clears 1 1 1003 ∷ gives_back 1 1 1011 ∷ []

-- the readings present by the history of these calls on a fresh table of degree 1
abbrev pub heard : List Call → List ℕ
heard cs = present_by 1 (told_by cs (answers on_chart cs (fresh_chart 1)) no_readings)

pub record Examples : Type 0 where
  -- 100 has three readings then that come to 100,010, a reading of 0 among them, and 101 has one
  pub counted : (after on_chart morning (fresh_chart 1)).coarse ≡ two 3 1 100010 7
  -- setting again counts once; clearing and giving back take away
  pub again : (after on_chart (morning ++ (sets 1 1 1000 4 ∷ [])) (fresh_chart 1)).coarse ≡ two 3 1 100004 7
  pub less : (after on_chart (morning ++ noon) (fresh_chart 1)).coarse ≡ two 2 0 10 0
  -- "the total over all parents equals the count and sum of readings present according to the history of calls": four,
  -- then two; what is refused tells nothing
  pub heard_4 : heard morning ≡ 10 ∷ 0 ∷ 100000 ∷ 7 ∷ []
  pub heard_2 : heard (morning ++ noon) ≡ 10 ∷ 0 ∷ []
  pub heard_0 : heard (sets 1 1 1000 5 ∷ takes 1 1 1000 ∷ sets 2 1 1000 5 ∷ gets 1 1 1000 ∷ []) ≡ []
  -- each call on its own, and what it leaves
  pub take : TakeAnswer 1 1 (written 1003) three leaves (table_answer 0 0, three)
  pub set_new : SetAnswer 1 1 (written 1003) (pos 9) three
      leaves (table_answer 0 0, four (pos 100) (pos 0) (pos 7) (pos 9) (two 4 0 116 0))
  pub set_again : SetAnswer 1 1 (written 1000) (pos 4) three
      leaves (table_answer 0 0, four (pos 4) (pos 0) (pos 7) none (two 3 0 11 0))
  pub clear_0 : ClearAnswer 1 1 (written 1001) three
      leaves (table_answer 0 0, four (pos 100) none (pos 7) none (two 2 0 107 0))
  pub give : GiveAnswer 1 1 (written 1000) three
      leaves (
        table_answer 0 0,
        chart (shared (none ∷ pos 0 ∷ pos 7 ∷ replicate 77 none) (0 ∷ replicate 79 1)) (two 2 0 7 0),
      )
  -- a free triangle that has a reading is taken with it
  pub take_free : TakeAnswer 2 1 (written 1000)
      (chart (shared (pos 5 ∷ replicate 79 none) (replicate 80 0)) (two 1 0 5 0))
      leaves (table_answer 0 0, chart (shared (pos 5 ∷ replicate 79 none) (2 ∷ replicate 79 0)) (two 1 0 5 0))
  -- 29 where the parent's count is off; a call on another parent's child, and get, are answered
  pub off :
      answers on_chart (sets 1 1 1000 5 ∷ sets 1 1 1010 5 ∷ gets 1 1 1000 ∷ []) miscounted
      ≡ no 29 ∷ ok ∷ millimetres 100 ∷ []
  -- the parent has all digits but the last
  pub degree_2 : (after on_chart (takes 1 2 10012 ∷ sets 1 2 10012 7 ∷ []) (fresh_chart 2)).coarse
      ≡ coarse (0 ∷ 1 ∷ replicate 78 0) (0 ∷ 7 ∷ replicate 78 0)
  -- worked out afresh they come to the same, whatever lay there
  pub afresh : WorkOutAnswer 1 three.shared.readings (coarse (replicate 20 9) (replicate 20 9))
      leaves (table_answer 0 0, two 3 0 107 0)
  pub afresh_miscounted : WorkOutAnswer 1 miscounted.shared.readings miscounted.coarse
      leaves (table_answer 0 0, three.coarse)
  -- "For tables of degree 0 the lists are empty."
  pub degree_0 : after on_chart (takes 1 0 100 ∷ sets 1 0 100 5 ∷ []) (fresh_chart 0)
      ≡ chart (shared (pos 5 ∷ replicate 19 none) (1 ∷ replicate 19 0)) (coarse [] [])
  pub afresh_0 : WorkOutAnswer 0 (pos 5 ∷ replicate 19 none) (coarse [] []) leaves (table_answer 0 0, coarse [] [])

pub record Bounds : Type 0 where
  -- "Lists of wrong length are refusal 28": either of them
  pub counts_19 :
      refuse_kept Taking 1 1 (written 1000) (chart (fresh_shared 1) (coarse (replicate 19 0) (replicate 20 0))) ≡ 28
  pub counts_21 :
      refuse_kept Taking 1 1 (written 1000) (chart (fresh_shared 1) (coarse (replicate 21 0) (replicate 20 0))) ≡ 28
  pub sums_19 :
      refuse_kept Taking 1 1 (written 1000) (chart (fresh_shared 1) (coarse (replicate 20 0) (replicate 19 0))) ≡ 28
  pub sums_21 :
      refuse_kept Taking 1 1 (written 1000) (chart (fresh_shared 1) (coarse (replicate 20 0) (replicate 21 0))) ≡ 28
  pub counts_1 : refuse_kept Taking 1 0 (written 100) (chart (fresh_shared 0) (coarse (0 ∷ []) [])) ≡ 28
  pub sums_1 : refuse_kept Taking 1 0 (written 100) (chart (fresh_shared 0) (coarse [] (0 ∷ []))) ≡ 28
  pub empty : refuse_kept Taking 1 0 (written 100) (chart (fresh_shared 0) (coarse [] [])) ≡ 0
  -- "Where the stored count or sum of the parent concerned differs from its children's readings, these four calls are
  -- refusal 29": of that parent alone, for a count and for a sum, also where the call would leave the right ones
  pub take_29 : refuse_kept Taking 1 1 (written 1003) miscounted ≡ 29
  pub set_29 : refuse_kept (Setting (pos 1)) 1 1 (written 1003) miscounted ≡ 29
  pub clear_29 : refuse_kept Clearing 1 1 (written 1001) miscounted ≡ 29
  pub give_29 : refuse_kept Giving 1 1 (written 1001) miscounted ≡ 29
  pub sum_29 : refuse_kept Clearing 1 1 (written 1000) missummed ≡ 29
  pub last_child : refuse_kept Taking 1 1 (written 1003) missummed ≡ 29
  pub other_parent : refuse_kept Taking 1 1 (written 1010) miscounted ≡ 0
  pub other_sum : refuse_kept Giving 1 1 (written 5113) missummed ≡ 0
  pub degree_2 :
      refuse_kept Taking 1 2 (written 10012)
      (chart (fresh_shared 2) (coarse (0 ∷ 1 ∷ replicate 78 0) (replicate 80 0))) ≡ 29
  pub degree_2_other :
      refuse_kept Taking 1 2 (written 10012)
      (chart (fresh_shared 2) (coarse (1 ∷ replicate 79 0) (replicate 80 0))) ≡ 0
  -- "checked after 27", "checked last"
  pub twentyone_before_28 :
      refuse_kept (Setting (pos 100001)) 1 1 (written 1000) (chart three.shared (coarse [] [])) ≡ 21
  pub twentytwo_before_28 : refuse_kept Taking 1 1 (written 1000) (chart (shared [] []) (coarse [] [])) ≡ 22
  pub twentythree_before_28 :
      refuse_kept Taking 1 1 (written 1000) (chart (shared (replicate 80 bad) []) (coarse [] [])) ≡ 23
  pub twentyfour_before_28 : refuse_kept Taking 3 1 (written 1000) (chart (fresh_shared 1) (coarse [] [])) ≡ 24
  pub twentyfive_before_28 :
      refuse_kept Taking 1 1 (written 1000) (chart (shared (fresh 1) []) (coarse [] [])) ≡ 25
  pub twentysix_before_28 : refuse_kept Taking 2 1 (written 1000) (chart three.shared (coarse [] [])) ≡ 26
  pub twentyseven_before_28 :
      refuse_kept Clearing 1 1 (written 1000) (chart (fresh_shared 1) (coarse [] [])) ≡ 27
  pub twentyseven_before_29 :
      refuse_kept Giving 1 1 (written 1000) (chart (fresh_shared 1) (two 1 0 0 0)) ≡ 27
  pub twentyeight_before_29 :
      refuse_kept Taking 1 1 (written 1000) (chart three.shared (coarse (replicate 20 0) [])) ≡ 28
  -- working them out afresh: 1, 20, 22, 23 with its place, 28, and nothing of the owners
  pub afresh_25 : refuse_work_out 25 [] (coarse [] []) ≡ 1
  pub afresh_24 : refuse_work_out 24 [] (coarse [] []) ≡ 20
  pub afresh_7 : refuse_work_out 7 [] (coarse [] []) ≡ 20
  pub afresh_19 : refuse_work_out 0 (replicate 19 none) (coarse (0 ∷ []) []) ≡ 22
  pub afresh_bad : WorkOutAnswer 0 (none ∷ bad ∷ replicate 18 none) (coarse (7 ∷ []) [])
      leaves (table_answer 23 1, coarse (7 ∷ []) [])
  pub afresh_counts : WorkOutAnswer 1 (fresh 1) (coarse (replicate 19 7) (replicate 20 7))
      leaves (table_answer 28 0, coarse (replicate 19 7) (replicate 20 7))
  pub afresh_sums : WorkOutAnswer 1 (fresh 1) (coarse (replicate 20 7) (replicate 19 7))
      leaves (table_answer 28 0, coarse (replicate 20 7) (replicate 19 7))
  pub afresh_21 : refuse_work_out 1 (fresh 1) (coarse (replicate 21 0) (replicate 20 0)) ≡ 28
  pub afresh_1 : refuse_work_out 0 (fresh 0) (coarse (0 ∷ []) []) ≡ 28

-- Wrong answers that the promises refuse.
pub record Mistakes : Type 0 where
  -- a second set counted twice
  pub counted_twice : SetAnswer 1 1 (written 1000) (pos 4) three (table_answer 0 0)
      (four (pos 4) (pos 0) (pos 7) none (two 4 0 11 0)) → ⊥
  -- the sum not lowered on overwriting
  pub not_lowered : SetAnswer 1 1 (written 1000) (pos 4) three (table_answer 0 0)
      (four (pos 4) (pos 0) (pos 7) none (two 3 0 111 0)) → ⊥
  -- a reading of 0 not counted
  pub zero_not_counted : SetAnswer 1 1 (written 1003) (pos 0) three (table_answer 0 0)
      (four (pos 100) (pos 0) (pos 7) (pos 0) (two 3 0 107 0)) → ⊥
  pub zero_afresh : WorkOutAnswer 1 three.shared.readings (two 3 0 107 0) (table_answer 0 0) (two 2 0 107 0) → ⊥
  -- wrong sums mended in silence
  pub mended : SetAnswer 1 1 (written 1003) (pos 9) miscounted (table_answer 0 0)
      (four (pos 100) (pos 0) (pos 7) (pos 9) (two 4 0 116 0)) → ⊥
  pub mended_by_taking : TakeAnswer 1 1 (written 1003) missummed (table_answer 0 0) three → ⊥
  -- all parents looked at for 29
  pub all_looked_at : TakeAnswer 1 1 (written 1010) miscounted (table_answer 29 0) miscounted → ⊥
  -- the sums left as they were
  pub left : ClearAnswer 1 1 (written 1000) three (table_answer 0 0)
      (four none (pos 0) (pos 7) none (two 3 0 107 0)) → ⊥
  pub left_on_giving : GiveAnswer 1 1 (written 1000) three (table_answer 0 0)
      (chart (shared (none ∷ pos 0 ∷ pos 7 ∷ replicate 77 none) (0 ∷ replicate 79 1)) (two 3 0 107 0)) → ⊥
  -- the parent's place taken for the triangle's own
  pub own_place : ClearAnswer 1 1 (written 1001) three (table_answer 0 0)
      (four (pos 100) none (pos 7) none (two 3 2 107 107)) → ⊥
  -- a list touched on 28, or on 29
  pub touched : TakeAnswer 1 1 (written 1000) (chart three.shared (coarse (replicate 20 0) [])) (table_answer 28 0)
      (chart three.shared (coarse (3 ∷ replicate 19 0) [])) → ⊥
  pub touched_on_29 : TakeAnswer 1 1 (written 1003) miscounted (table_answer 29 0) three → ⊥
  pub touched_afresh : WorkOutAnswer 1 three.shared.readings (coarse (replicate 20 0) []) (table_answer 28 0)
      (coarse (3 ∷ replicate 19 0) []) → ⊥
  -- nothing worked out
  pub not_afresh : WorkOutAnswer 1 three.shared.readings (two 2 0 107 0) (table_answer 0 0) (two 2 0 107 0) → ⊥
