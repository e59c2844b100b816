-- Document 02, 2026-11: examples, each refusal at its bound, and wrong answers. Assumes nothing.
use Rattle.std.specs.Prelude.{◌≡◌, ℕ, suc, ◌+◌, ◌-◌, ◌*◌, ◌^◌, pos}
use Rattle.frame.specs.Promises.{◌gives◌}
use Rattle.words.specs.Forms.{side, word_in}
use Rattle.words.specs.Family.{code_of, code_answer, no_code}
use Rattle.words.specs.Writing.{written, zero_digits}
use Rattle.grid.specs.Writing.{towards, up}
use Rattle.harbour.specs.Small.{small, small_code}
use Rattle.harbour.specs.Refusals.{check_small, refuse_write, refuse_small_cross, refuse_small_file}
use Rattle.harbour.specs.Answers.{small_answer, small_step, no_small, no_small_step}
use Rattle.harbour.specs.Answers.{ReadAnswer, WriteAnswer, SmallCrossAnswer, SmallFileAnswer}

-- the small word with the side 100, the degree n and digits that are all 0
abbrev pub small_zeros : (n : ℕ) → ℕ
small_zeros n = word_in small (side 1 0 0) n 0

pub record Examples : Type 0 where
  -- 100, 1001, and 511 with eleven digits 3
  pub side_100 : WriteAnswer (written 100) gives small_answer 0 (small_code 0x20000000)
  pub child_1001 : WriteAnswer (written 1001) gives small_answer 0 (small_code 0x20A00000)
  pub deepest : WriteAnswer (written 51133333333333) gives small_answer 0 (small_code 0xBDFFFFFE)
  pub back : ReadAnswer (small_code 0x20A00000) gives code_answer 0 (written 1001)
  pub back_deepest : ReadAnswer (small_code 0xBDFFFFFE) gives code_answer 0 (written 51133333333333)
  -- what is refused, with zeros
  pub too_deep : WriteAnswer (code_of (zero_digits 12)) gives no_small 30
  pub bit_set : ReadAnswer (small_code 0x20A00001) gives no_code 31
  -- E8 and E3 in the small form
  pub e8 : SmallCrossAnswer (small_code 0x20A00000) 2 gives small_step 0 (small_code 0x40A00000) 3 1 2
  pub e3 : SmallFileAnswer 2 up gives small_answer 0 (small_code 0x21180000)
  pub no_edge : SmallCrossAnswer (small_code 0x20A00000) 4 gives no_small_step 5
  pub nowhere : SmallFileAnswer 2 (towards (pos 0) (pos 0) (pos 0)) gives no_small 7

pub record Bounds : Type 0 where
  -- 30: degree 11 accepted and 12 refused, as field and as argument; 25 is 1
  pub degree_11 : check_small (small_code (small_zeros 11)) ≡ 0
  pub degree_12 : check_small (small_code (small_zeros 12)) ≡ 30
  pub degree_15 : check_small (small_code (small_zeros 15)) ≡ 30
  pub write_11 : refuse_write (code_of (zero_digits 11)) ≡ 0
  pub write_12 : refuse_write (code_of (zero_digits 12)) ≡ 30
  pub write_24 : refuse_write (code_of (zero_digits 24)) ≡ 30
  pub write_25 : refuse_write (code_of (zero_digits 25)) ≡ 1
  pub file_11 : refuse_small_file 11 up ≡ 0
  pub file_12 : refuse_small_file 12 up ≡ 30
  pub file_24 : refuse_small_file 24 up ≡ 30
  pub file_25 : refuse_small_file 25 up ≡ 1
  -- 2, 3 and 31 of a small word; 4 of a large one
  pub word_0 : check_small (small_code 0) ≡ 2
  pub a_5 : check_small (small_code (5 * 2 ^ 29)) ≡ 0
  pub a_6 : check_small (small_code (6 * 2 ^ 29)) ≡ 2
  pub beyond : check_small (small_code (small_zeros 10 + 2)) ≡ 3
  pub last_digit : check_small (small_code (small_zeros 11 + 2)) ≡ 0
  pub last_bit : check_small (small_code (small_zeros 11 + 1)) ≡ 31
  pub zero_bit : refuse_write (code_of (zero_digits 11 + 4)) ≡ 4
  pub edge_0 : refuse_small_cross (small_code (small_zeros 0)) 0 ≡ 5
  pub edge_3 : refuse_small_cross (small_code (small_zeros 0)) 3 ≡ 0
  pub edge_4 : refuse_small_cross (small_code (small_zeros 0)) 4 ≡ 5
  -- "30 directly after 1 and 31 directly after 4": 1 and 30 before 2, 2 before 3, 3 before 4 and 31, 31 before 5
  pub order_1_2 : refuse_write (code_of (25 * 2 ^ 54)) ≡ 1
  pub order_30_2 : check_small (small_code (2 ^ 32 - 1)) ≡ 30
  pub order_30_4 : refuse_write (code_of (zero_digits 12 + 1)) ≡ 30
  pub order_2_3 : check_small (small_code 2) ≡ 2
  pub order_3_4 : refuse_write (code_of (zero_digits 10 + 2 ^ 32 + 1)) ≡ 3
  pub order_3_31 : check_small (small_code (small_zeros 10 + 3)) ≡ 3
  pub order_31_5 : refuse_small_cross (small_code (small_zeros 0 + 1)) 4 ≡ 31
  -- and before 8 and 7
  pub order_30_8 : refuse_small_file 12 (towards (pos 1000000001) (pos 0) (pos 0)) ≡ 30
  pub order_30_7 : refuse_small_file 12 (towards (pos 0) (pos 0) (pos 0)) ≡ 30

-- Wrong programs, each by an answer of its own.
pub record Mistakes : Type 0 where
  -- writes the degree a bit too low, as if it had five bits
  pub five_bits : WriteAnswer (written 1001) (small_answer 0 (small_code 0x20600000)) → ⊥
  -- cuts the large word to its upper 32 bits
  pub upper_half : WriteAnswer (written 1001) (small_answer 0 (small_code 0x20500000)) → ⊥
  -- cuts off the digits beyond the eleventh
  pub cuts_off : WriteAnswer (code_of (zero_digits 12)) (small_answer 0 (small_code (small_zeros 11))) → ⊥
  -- answers 1 where 30 is due
  pub one_for_30 : WriteAnswer (code_of (zero_digits 12)) (no_small 1) → ⊥
  -- takes the last bit for one of the four zero bits
  pub four_for_31 : ReadAnswer (small_code 0x20A00001) (no_code 4) → ⊥
  -- reads a word with its last bit set as if it were not
  pub ignores_bit : ReadAnswer (small_code 0x20A00001) (code_answer 0 (written 1001)) → ⊥
  -- refuses everything
  pub refuses : (k : ℕ) → ReadAnswer (small_code 0x20A00000) (no_code (suc k)) → ⊥
  -- crosses to itself, or carries the edge's number over the seam, or drops how the corners turned
  pub itself : (k i j : ℕ) → SmallCrossAnswer (small_code 0x20A00000) 2 (small_step 0 (small_code 0x20A00000) k i j) → ⊥
  pub edge_kept : SmallCrossAnswer (small_code 0x20A00000) 2 (small_step 0 (small_code 0x40A00000) 2 1 2) → ⊥
  pub turn_dropped : SmallCrossAnswer (small_code 0x20A00000) 2 (small_step 0 (small_code 0x40A00000) 3 0 0) → ⊥
  -- finds the first digit and then writes zeros
  pub then_zeros : SmallFileAnswer 2 up (small_answer 0 (small_code (small_zeros 2))) → ⊥
