-- The examples of specs/Examples.antt, by computing; crossing and filing by document 01's own. Assumes nothing.
use mathlib.Core.Path.{refl}
use native.Mathlib.Omega.{arith}
use lib.Dec.{eqb-suc-zero}
use lib.IntN.{pos}
use Rattle.frame.specs.Refusals.{first_of}
use Rattle.frame.specs.Promises.{◌gives◌}
use Rattle.frame.proofs.Answering.{answering, refusing, keeps_gives, known_gives, no_other}
use Rattle.words.specs.Forms.{first_digits, path, word_in, carried}
use Rattle.words.specs.Family.{code_answer}
use Rattle.words.specs.Writing.{decimals, written}
use Rattle.corners.specs.Refusals.{refuse_numbered}
use Rattle.corners.specs.Answers.{step_answer}
use Rattle.directions.specs.Refusals.{refuse_file}
use Rattle.grid.specs.Writing.{towards, up}
use Rattle.grid.proofs.Examples as grid
use Rattle.harbour.specs.Small.{small_code}
use Rattle.harbour.specs.Refusals.{check_small, refuse_write, refuse_small_cross, refuse_small_file}
use Rattle.harbour.specs.Answers.{small_answer, small_step}
use Rattle.harbour.specs.Answers.{SmallCrossAnswer, SmallFileAnswer}
use Rattle.harbour.specs.Examples.{Examples, Bounds, Mistakes}
use Rattle.harbour.proofs.Promises.{one_answer}

crosses : SmallCrossAnswer (small_code 0x20A00000) 2 gives small_step 0 (small_code 0x40A00000) 3 1 2
unfolding first_of decimals written first_digits path word_in carried refuse_small_cross refuse_numbered
crosses =
    keeps_gives (one_answer.cross (small_code 0x20A00000) 2) (answering refl (record {
      answer = step_answer 0 (written 2001) 3 1 2;
      large = (grid.examples).e8.meets.answered refl;
      is = refl;
    }))

files : SmallFileAnswer 2 up gives small_answer 0 (small_code 0x21180000)
unfolding first_of decimals written first_digits path word_in carried refuse_small_file refuse_file
files =
    keeps_gives (one_answer.file 2 up) (answering refl (record {
      answer = code_answer 0 (written 10003);
      large = (grid.examples).e3.meets.answered refl;
      is = refl;
    }))

pub examples : Examples
unfolding first_of decimals written first_digits path word_in carried check_small refuse_write refuse_small_cross
    refuse_small_file
examples = record {
  side_100 = known_gives refl;
  child_1001 = known_gives refl;
  deepest = known_gives refl;
  back = known_gives refl;
  back_deepest = known_gives refl;
  too_deep = known_gives refl;
  bit_set = known_gives refl;
  e8 = crosses;
  e3 = files;
  no_edge = keeps_gives (one_answer.cross (small_code 0x20A00000) 4) (refusing {k = 5} refl (λ e. omega (arith, e)));
  nowhere =
      keeps_gives (one_answer.file 2 (towards (pos 0) (pos 0) (pos 0)))
      (refusing {k = 7} refl (λ e. omega (arith, e)));
}

pub bounds : Bounds
unfolding first_of first_digits path word_in carried check_small refuse_write refuse_small_cross refuse_small_file
bounds = record {
  degree_11 = refl;
  degree_12 = refl;
  degree_15 = refl;
  write_11 = refl;
  write_12 = refl;
  write_24 = refl;
  write_25 = refl;
  file_11 = refl;
  file_12 = refl;
  file_24 = refl;
  file_25 = refl;
  word_0 = refl;
  a_5 = refl;
  a_6 = refl;
  beyond = refl;
  last_digit = refl;
  last_bit = refl;
  zero_bit = refl;
  edge_0 = refl;
  edge_3 = refl;
  edge_4 = refl;
  order_1_2 = refl;
  order_30_2 = refl;
  order_30_4 = refl;
  order_2_3 = refl;
  order_3_4 = refl;
  order_3_31 = refl;
  order_31_5 = refl;
  order_30_8 = refl;
  order_30_7 = refl;
}

pub mistakes : Mistakes
unfolding word_in
mistakes = record {
  five_bits = no_other (λ r. r.code.0) examples.child_1001 refl;
  upper_half = no_other (λ r. r.code.0) examples.child_1001 refl;
  cuts_off = no_other (λ r. r.refusal) examples.too_deep refl;
  one_for_30 = no_other (λ r. r.refusal) examples.too_deep refl;
  four_for_31 = no_other (λ r. r.refusal) examples.bit_set refl;
  ignores_bit = no_other (λ r. r.refusal) examples.bit_set refl;
  refuses = λ k. no_other (λ r. r.refusal) examples.back (eqb-suc-zero k);
  itself = λ k i j. no_other (λ r. r.code.0) examples.e8 refl;
  edge_kept = no_other (λ r. r.edge) examples.e8 refl;
  turn_dropped = no_other (λ r. r.first) examples.e8 refl;
  then_zeros = no_other (λ r. r.code.0) examples.e3 refl;
}
