-- Document 02, 2026-12: examples, and wrong answers. Assumes nothing.
use Rattle.std.specs.Prelude.{◌≡◌, ℕ, suc}
use Rattle.frame.specs.Promises.{◌gives◌}
use Rattle.words.specs.Family.{code_of, code_answer, no_code}
use Rattle.words.specs.Writing.{written, zero_digits}
use Rattle.words.specs.Family.{CodeAnswer}
use Rattle.net.specs.Corners.{name_of}
use Rattle.corners.specs.Answers.{name_answer, no_name}
use Rattle.directions.specs.Answers.{FileAnswer}
use Rattle.grid.specs.Writing.{corner_in, up}
use Rattle.opposites.specs.Opposites.{negated_direction}
use Rattle.opposites.specs.Answers.{OppositeAnswer, OppositeNameAnswer}

pub record Examples : Type 0 where
  pub side : OppositeAnswer (written 100) gives code_answer 0 (written 310)
  pub side_back : OppositeAnswer (written 310) gives code_answer 0 (written 100)
  pub side_01 : OppositeAnswer (written 401) gives code_answer 0 (written 111)
  -- "exchanges 2 and 3, in digits too"
  pub digits : OppositeAnswer (written 2001230) gives code_answer 0 (written 4101320)
  pub deepest : OppositeAnswer (written 511333333333333333333333333)
      gives code_answer 0 (written 301222222222222222222222222)
  -- V(00) and V(01); V(20) and V(41)
  pub pole : OppositeNameAnswer (corner_in 100 1) gives name_answer 0 (corner_in 110 1)
  pub v20 : OppositeNameAnswer (name_of 0x2000000000000003) gives name_answer 0 (name_of 0x7000000000000002)
  -- the middle of V(00) and V(10), and that of V(01) and V(31): "the opposite name is canonical", and so it is not that
  -- of 3100, the triangle opposite to 1000
  pub middle : OppositeNameAnswer (corner_in 1000 3) gives name_answer 0 (corner_in 2100 3)
  -- "The filed code need not be the opposite": E3 files (0,0,1) in 10003, E7 (0,0,-1) in 21003
  pub e3 : OppositeAnswer (written 10003) gives code_answer 0 (written 31002)
  pub filed_elsewhere : (r s o : CodeAnswer) → FileAnswer 2 up r → FileAnswer 2 (negated_direction up) s
      → OppositeAnswer r.code o → s.code ≡ o.code → ⊥
  -- refused as checking the word is
  pub degree_25 : OppositeAnswer (code_of (zero_digits 25)) gives no_code 1
  pub word_0 : OppositeAnswer (code_of 0) gives no_code 2
  pub beyond : OppositeAnswer (code_of 0x2010000000000000) gives no_code 3
  pub name_for_code : OppositeAnswer (code_of 0x2000000000000003) gives no_code 4
  pub code_for_name : OppositeNameAnswer (name_of 0x2000000000000000) gives no_name 4
  pub not_canonical : OppositeNameAnswer (corner_in 200 2) gives no_name 10

-- Wrong programs, each by an answer of its own.
pub record Mistakes : Type 0 where
  -- answers the triangle itself
  pub itself : OppositeAnswer (written 100) (code_answer 0 (written 100)) → ⊥
  -- takes a+3 for a+2, or a11 for a10
  pub three_on : OppositeAnswer (written 100) (code_answer 0 (written 410)) → ⊥
  pub other_row : OppositeAnswer (written 100) (code_answer 0 (written 311)) → ⊥
  -- keeps the digits, or exchanges 1 and 3, or drops them
  pub digits_kept : OppositeAnswer (written 2001230) (code_answer 0 (written 4101230)) → ⊥
  pub one_and_three : OppositeAnswer (written 2001230) (code_answer 0 (written 4103210)) → ⊥
  pub dropped : OppositeAnswer (written 2001230) (code_answer 0 (written 4100000)) → ⊥
  -- refuses everything, or nothing
  pub refuses : (k : ℕ) → OppositeAnswer (written 100) (no_code (suc k)) → ⊥
  pub answers : OppositeNameAnswer (corner_in 200 2) (name_answer 0 (name_of 0x7000000000000002)) → ⊥
  -- keeps the number
  pub number_kept : OppositeNameAnswer (name_of 0x2000000000000003) (name_answer 0 (name_of 0x7000000000000003)) → ⊥
  -- names the corner by the opposite triangle, which is not the least
  pub not_least : OppositeNameAnswer (corner_in 1000 3) (name_answer 0 (corner_in 3100 2)) → ⊥
