-- The examples of specs/Examples.antt: one of document 01's own and a direction that is refused, as bytes. Assumes
-- nothing.
use mathlib.Core.Path.{◌≡◌, refl}
use mathlib.Core.List.{List, [], ◌∷◌}
use Prim.Native.Nat.{ℕ}
use native.Mathlib.Omega.{arith}
use lib.ListN.{get_or, replicate}
use Rattle.frame.specs.Refusals.{first_of}
use Rattle.frame.specs.Lists.{first_place}
use Rattle.frame.specs.Answers.{over}
use Rattle.frame.specs.Promises.{◌leaves◌}
use Rattle.frame.proofs.Answering.{gives_one, no_other, refusing, answering}
use Rattle.octets.specs.Bytes.{bytes, read_each, signed}
use Rattle.words.specs.Words.{first_digits, path, word_in}
use Rattle.words.specs.Family.{code_answer, no_code}
use Rattle.directions.specs.Refusals as directions
use Rattle.words.specs.Writing.{decimals, written}
use Rattle.grid.proofs.Examples as grid
use Rattle.sweeps.specs.Sweeps.{done, then, sweep_answer, told}
use Rattle.host_sweeps.specs.Refusals.{refuse_sweep}
use Rattle.host_sweeps.specs.Answers.{SweepBytes}
use Rattle.host_sweeps.specs.Examples.{two_directions, Examples, Bounds, Mistakes}
use Rattle.host_sweeps.proofs.OneByteSweep.{sweep_one}

-- E7 and (0,0,0) in a sweep

two_swept : (codes out : List ℕ) → refuse_sweep 2 two_directions codes out ≡ 0
    → SweepBytes 2 two_directions codes out
    leaves (0, (over (bytes 8 ((written 21003).0 ∷ 0 ∷ [])) codes, over (bytes 8 (1 ∷ 1 ∷ 7 ∷ [])) out))
unfolding told first_place read_each signed directions.refuse_file first_of
two_swept codes out z =
    gives_one (sweep_one 2 two_directions codes out)
    (answering z (record {
      told = sweep_answer 0 1 1 7;
      swept = record {
        written = (written 21003).0 ∷ 0 ∷ [];
        swept = record {
          singles = code_answer 0 (written 21003) ∷ no_code 7 ∷ [];
          each = then (grid.examples).e7.meets (then (refusing refl (λ z. omega (arith, z))) done);
          answer = refl;
          are = refl;
        };
        put = refl;
      };
      answered = refl;
      put = refl;
    }))

pub examples : Examples
unfolding bytes read_each signed refuse_sweep first_of decimals written first_digits path word_in
examples = record {
  minus_two = refl;
  swept = two_swept (replicate 17 9) (replicate 25 9) refl;
  swept_short = gives_one (sweep_one 2 two_directions (replicate 15 9) (replicate 24 9))
      (refusing refl (λ z. omega (arith, z)));
}

pub bounds : Bounds
unfolding refuse_sweep first_of
bounds = record {
  sweep_0 = refl;
  sweep_11 = refl;
  sweep_12 = refl;
  sweep_13 = refl;
  sweep_codes_7 = refl;
  sweep_out_23 = refl;
  sweep_25 = refl;
}

-- byte i of the codes that a sweep leaves, and of its answer
abbrev code_byte : ℕ → ℕ × (List ℕ × List ℕ) → ℕ
code_byte i x = get_or x.1.0 i 0

abbrev told_byte : ℕ → ℕ × (List ℕ × List ℕ) → ℕ
told_byte i x = get_or x.1.1 i 0

pub mistakes : Mistakes
unfolding bytes read_each signed refuse_sweep first_of decimals written first_digits path word_in
mistakes = record {
  old_code = no_other {s = (0, _)} (code_byte 8) (two_swept (replicate 17 9) (replicate 24 9) refl) refl;
  sweep_cleared = no_other {s = (0, _)} (code_byte 16) (two_swept (replicate 17 9) (replicate 24 9) refl) refl;
  in_bytes = no_other {s = (0, _)} (told_byte 15) (two_swept (replicate 16 9) (replicate 24 9) refl) refl;
  sweep_refused = no_other {s = (7, _)} (λ x. x.0) (two_swept (replicate 16 9) (replicate 24 9) refl) refl;
}
