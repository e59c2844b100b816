-- The examples of specs/Examples.antt: document 01's own, in a sweep. Assumes nothing.
use mathlib.Core.Path.{◌≡◌, refl}
use mathlib.Core.List.{List, [], ◌∷◌}
use Prim.Native.Nat.{ℕ, suc}
use native.Mathlib.Omega.{arith}
use lib.IntN.{ℤ, pos}
use lib.ListN.{get_or, replicate}
use Rattle.frame.specs.Refusals.{first_of}
use Rattle.frame.specs.Lists.{first_place}
use Rattle.frame.specs.Answers.{over}
use Rattle.frame.specs.Promises.{◌leaves◌}
use Rattle.frame.proofs.Answering.{refusing, answering, gives_one, no_other}
use Rattle.words.specs.Words.{path, word_in}
use Rattle.words.specs.Family.{code_answer, no_code}
use Rattle.words.specs.Family.{CodeAnswer}
use Rattle.filing.specs.declared.Direction.{Direction}
use Rattle.directions.specs.Refusals.{refuse_file}
use Rattle.directions.specs.Answers.{FileAnswer}
use Rattle.words.specs.Writing.{decimals, written}
use Rattle.grid.specs.Writing.{towards}
use Rattle.grid.proofs.Examples as grid
use Rattle.sweeps.specs.Sweeps.{SweepAnswer, Singles, done, then, codes_of, refusals_of, no_sweep, told}
use Rattle.sweeps.specs.Refusals.{refuse_sweep}
use Rattle.sweeps.specs.Answers.{SweepResult}
use Rattle.sweeps.specs.Examples.{four, Examples, Bounds, Mistakes}
use Rattle.sweeps.proofs.OneSweep.{sweep_one}

-- what the single calls answer is what is left
shows : (n : ℕ) (dirs : List ℤ) (out : List ℕ) {rs : List CodeAnswer} → refuse_sweep n dirs out ≡ 0
    → Singles n dirs rs
    → SweepResult n dirs out leaves (told (refusals_of rs), over (codes_of rs) out)
shows n dirs out {rs} z s =
    gives_one (sweep_one n dirs out)
    (answering z (record {
      codes = codes_of rs;
      swept = record { singles = rs; each = s; answer = refl; are = refl };
      put = refl;
    }))

refuses : (n : ℕ) (dirs : List ℤ) (out : List ℕ) (f : ℕ) → suc f ≡ refuse_sweep n dirs out
    → SweepResult n dirs out leaves (no_sweep (suc f), out)
refuses n dirs out f e = gives_one (sweep_one n dirs out) (refusing e (λ z. omega (arith, z)))

-- a single call that is refused
not_filed : (n : ℕ) (d : Direction) (f : ℕ) → suc f ≡ refuse_file n d → FileAnswer n d (no_code (suc f))
not_filed n d f e = refusing e (λ z. omega (arith, z))

four_singles : Singles 2 four
    (code_answer 0 (written 10003) ∷ no_code 7 ∷ code_answer 0 (written 11102) ∷ no_code 8 ∷ [])
unfolding first_of refuse_file
four_singles =
    then (grid.examples).e3.meets
    (then (not_filed 2 (towards (pos 0) (pos 0) (pos 0)) 6 refl)
    (then (grid.examples).e6.meets
    (then (not_filed 2 (towards (pos 1) (pos 1000000001) (pos 0)) 7 refl) done)))

pub examples : Examples
unfolding refuse_sweep first_of refuse_file told first_place
examples = record {
  swept = shows 2 four (replicate 5 9) refl four_singles;
  first_refused_lem = shows 0 _ _ refl (then (not_filed 0 (towards (pos 0) (pos 0) (pos 0)) 6 refl) done);
  none_refused = shows 2 _ _ refl (then (grid.examples).e3.meets done);
  empty = shows 24 [] (9 ∷ []) refl done;
  empty_list = shows 24 [] [] refl done;
  short = refuses 2 four (replicate 3 9) 8 refl;
  high = refuses 25 four (replicate 5 9) 0 refl;
  counts = refl;
  in_parts = refl;
  later_part = refl;
}

pub bounds : Bounds
unfolding refuse_sweep first_of
bounds = record {
  degree_24 = refl;
  degree_25 = refl;
  empty_25 = refl;
  one_number = refl;
  two_numbers = refl;
  three_numbers = refl;
  four_numbers = refl;
  places_3 = refl;
  places_4 = refl;
  places_5 = refl;
  one_before_nine = refl;
}

empty_2 : SweepResult 2 [] (9 ∷ []) leaves (no_sweep 0, 9 ∷ [])
unfolding refuse_sweep first_of told
empty_2 = shows 2 [] (9 ∷ []) refl done

-- a number of the answer, and place i of the list
abbrev told_by : (SweepAnswer → ℕ) → SweepAnswer × List ℕ → ℕ
told_by f x = f x.0

abbrev left_at : ℕ → SweepAnswer × List ℕ → ℕ
left_at i x = get_or x.1 i 0

pub mistakes : Mistakes
unfolding decimals written path word_in
mistakes = record {
  stops = no_other (told_by (λ r. r.refused)) examples.swept refl;
  all_refused = no_other (told_by (λ r. r.refusal)) examples.swept refl;
  old_code = no_other (left_at 1) examples.swept refl;
  moved_up = no_other (left_at 1) examples.swept refl;
  in_numbers = no_other (told_by (λ r. r.place)) examples.swept refl;
  from_1 = no_other (told_by (λ r. r.place)) examples.swept refl;
  last_refused = no_other (told_by (λ r. r.first)) examples.swept refl;
  cleared = no_other (left_at 4) examples.swept refl;
  longer = no_other (told_by (λ r. r.refusal)) examples.swept refl;
  no_empty = no_other (told_by (λ r. r.refusal)) empty_2 refl;
}
