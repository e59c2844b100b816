-- Document 02, 2026-04: what a stranger would try, each refusal at its bound, and wrong answers. Assumes nothing.
use Rattle.std.specs.Prelude.{◌≡◌, List, [], ◌∷◌, ℕ, ℤ, pos, replicate}
use Rattle.frame.specs.Promises.{◌leaves◌}
use Rattle.words.specs.Writing.{written}
use Rattle.sweeps.specs.Sweeps.{sweep_answer, no_sweep, told}
use Rattle.sweeps.specs.Refusals.{refuse_sweep}
use Rattle.sweeps.specs.Answers.{SweepResult}
use Rattle.sweeps.specs.Promises.{joined}

-- the directions of E3 and E6, with (0,0,0) between them and one that is too far after them
abbrev pub four : List ℤ
four =
    pos 0 ∷ pos 0 ∷ pos 1
    ∷ pos 0 ∷ pos 0 ∷ pos 0
    ∷ pos 1 ∷ pos 0 ∷ pos 0
    ∷ pos 1 ∷ pos 1000000001 ∷ pos 0
    ∷ []

-- their codes
abbrev pub e3 : ℕ
e3 = (written 10003).0

abbrev pub e6 : ℕ
e6 = (written 11102).0

pub record Examples : Type 0 where
  -- two are filed as E3 and E6 are; two are refused, the first at place 1 by 7; the fifth place of the list stays
  pub swept : SweepResult 2 four (replicate 5 9) leaves (sweep_answer 0 2 1 7, e3 ∷ 0 ∷ e6 ∷ 0 ∷ 9 ∷ [])
  -- the first direction has the place 0, as none has; the number of refused tells them apart
  pub first_refused_lem : SweepResult 0 (pos 0 ∷ pos 0 ∷ pos 0 ∷ []) (9 ∷ []) leaves (sweep_answer 0 1 0 7, 0 ∷ [])
  pub none_refused : SweepResult 2 (pos 0 ∷ pos 0 ∷ pos 1 ∷ []) (9 ∷ []) leaves (no_sweep 0, e3 ∷ [])
  -- "An empty sweep is answered with no refused directions.", also into an empty list
  pub empty : SweepResult 24 [] (9 ∷ []) leaves (no_sweep 0, 9 ∷ [])
  pub empty_list : SweepResult 24 [] [] leaves (no_sweep 0, [])
  -- refused as a whole, "writing nothing"
  pub short : SweepResult 2 four (replicate 3 9) leaves (no_sweep 9, replicate 3 9)
  pub high : SweepResult 25 four (replicate 5 9) leaves (no_sweep 1, replicate 5 9)
  -- the number of refused, the first one's place and refusal, of six directions
  pub counts : told (0 ∷ 0 ∷ 8 ∷ 0 ∷ 7 ∷ 8 ∷ []) ≡ sweep_answer 0 3 2 8
  -- the same in two parts of three: the place counts directions of the whole sweep
  pub in_parts : joined 3 (told (0 ∷ 0 ∷ 8 ∷ [])) (told (0 ∷ 7 ∷ 8 ∷ [])) ≡ sweep_answer 0 3 2 8
  pub later_part : joined 3 (told (0 ∷ 0 ∷ 0 ∷ [])) (told (0 ∷ 7 ∷ 8 ∷ [])) ≡ sweep_answer 0 2 4 7

pub record Bounds : Type 0 where
  pub degree_24 : refuse_sweep 24 four (replicate 4 9) ≡ 0
  pub degree_25 : refuse_sweep 25 four (replicate 4 9) ≡ 1
  pub empty_25 : refuse_sweep 25 [] [] ≡ 1
  -- "9 if the input length isn't a multiple of 3 or the code list is shorter than the number of directions"
  pub one_number : refuse_sweep 0 (pos 1 ∷ []) (replicate 9 9) ≡ 9
  pub two_numbers : refuse_sweep 0 (pos 1 ∷ pos 1 ∷ []) (replicate 9 9) ≡ 9
  pub three_numbers : refuse_sweep 0 (pos 1 ∷ pos 1 ∷ pos 1 ∷ []) (replicate 9 9) ≡ 0
  pub four_numbers : refuse_sweep 0 (pos 1 ∷ pos 1 ∷ pos 1 ∷ pos 1 ∷ []) (replicate 9 9) ≡ 9
  pub places_3 : refuse_sweep 0 four (replicate 3 9) ≡ 9
  pub places_4 : refuse_sweep 0 four (replicate 4 9) ≡ 0
  pub places_5 : refuse_sweep 0 four (replicate 5 9) ≡ 0
  -- "refusal 1 .., then 9"
  pub one_before_nine : refuse_sweep 25 (pos 1 ∷ []) [] ≡ 1

-- Wrong answers that the promise refuses: what is left of `four` in a list of five places.
pub record Mistakes : Type 0 where
  -- stopping at the first refused direction
  pub stops : SweepResult 2 four (replicate 5 9) (sweep_answer 0 1 1 7) (e3 ∷ 0 ∷ 9 ∷ 9 ∷ 9 ∷ []) → ⊥
  -- the whole sweep refused for one direction
  pub all_refused : SweepResult 2 four (replicate 5 9) (no_sweep 7) (replicate 5 9) → ⊥
  -- the old code left at a refused place, so that an older answer is shown again
  pub old_code : SweepResult 2 four (replicate 5 9) (sweep_answer 0 2 1 7) (e3 ∷ 9 ∷ e6 ∷ 9 ∷ 9 ∷ []) → ⊥
  -- refused directions left out, and the others moved up
  pub moved_up : SweepResult 2 four (replicate 5 9) (sweep_answer 0 2 1 7) (e3 ∷ e6 ∷ 9 ∷ 9 ∷ 9 ∷ []) → ⊥
  -- the place counted in numbers, or from 1
  pub in_numbers : SweepResult 2 four (replicate 5 9) (sweep_answer 0 2 3 7) (e3 ∷ 0 ∷ e6 ∷ 0 ∷ 9 ∷ []) → ⊥
  pub from_1 : SweepResult 2 four (replicate 5 9) (sweep_answer 0 2 2 7) (e3 ∷ 0 ∷ e6 ∷ 0 ∷ 9 ∷ []) → ⊥
  -- the last refused in place of the first
  pub last_refused : SweepResult 2 four (replicate 5 9) (sweep_answer 0 2 3 8) (e3 ∷ 0 ∷ e6 ∷ 0 ∷ 9 ∷ [])
      → ⊥
  -- the later places cleared
  pub cleared : SweepResult 2 four (replicate 5 9) (sweep_answer 0 2 1 7) (e3 ∷ 0 ∷ e6 ∷ 0 ∷ 0 ∷ []) → ⊥
  -- refusing a longer list
  pub longer : SweepResult 2 four (replicate 5 9) (no_sweep 9) (replicate 5 9) → ⊥
  -- refusing the empty sweep
  pub no_empty : SweepResult 2 [] (9 ∷ []) (no_sweep 9) (9 ∷ []) → ⊥
