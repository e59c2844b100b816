-- Document 01, 'Refusal numbers': what each call's refusal is told as. A call's contract and its promise take the zeros
-- from one definition; here they are written out beside it. Assumes nothing.
use Rattle.std.specs.Prelude.{◌≡◌, pos, None, Err}
use Rattle.frame.specs.declared.Refusal.{Refusal}
use Rattle.frame.specs.Refusals.{number}
use Rattle.golden.specs.Numbers.{golden}
use Rattle.words.specs.Family.{code_of, code_answer, code_told}
use Rattle.net.specs.Corners.{name_of}
use Rattle.filing.specs.Coordinates.{coordinates}
use Rattle.corners.specs.Answers.{step_answer, step_told, name_answer, name_told, count_answer, count_told}
use Rattle.points.specs.Answers.{place_told, ticks_told, point_told}
use Rattle.grid.specs.Writing.{point}
use Rattle.mending.specs.Answers.{mend_answer, mend_told}
use Rattle.harbour.specs.Small.{small_code}
use Rattle.harbour.specs.Answers.{small_answer, small_told, small_step, small_step_told}
use Rattle.sweeps.specs.Sweeps.{sweep_answer}
use Rattle.sweeps.specs.Answers.{sweep_told}
use Rattle.marks.specs.declared.Mark.TheVariants.{Nothing}
use Rattle.marks.specs.Answers.{mark_answer, mark_told, edge_mark_told}
use Rattle.tables.specs.declared.TableRefusal.TheVariants.{Call}
use Rattle.tables.specs.Answers.{table_answer, table_told, sounding_answer, sounding_told}

-- "Every refusal returns only its number and zeros": of any refusal.
pub record Zeros (f : Refusal) : Type 0 where
  pub code : code_told (Err f) ≡ code_answer (number f) (code_of 0)
  pub step : step_told (Err f) ≡ step_answer (number f) (code_of 0) 0 0 0
  pub name : name_told (Err f) ≡ name_answer (number f) (name_of 0)
  pub count : count_told (Err f) ≡ count_answer (number f) 0
  pub place : place_told (Err f) ≡ record {
    refusal = number f;
    at = coordinates (golden (pos 0) (pos 0)) (golden (pos 0) (pos 0)) (golden (pos 0) (pos 0));
  }
  pub ticks : ticks_told (Err f) ≡ record { refusal = number f; at = record { x = pos 0; y = pos 0; z = pos 0 } }
  -- "A zero, also in a refusal, is the positive zero.": all its bits are 0
  pub point : point_told (Err f) ≡ point (number f) 0 0 0
  pub sweep : sweep_told (Err f) ≡ sweep_answer (number f) 0 0 0
  pub mend : mend_told (Err f) ≡ mend_answer (number f) 0 0
  pub small : small_told (Err f) ≡ small_answer (number f) (small_code 0)
  pub small_step : small_step_told (Err f) ≡ small_step (number f) (small_code 0) 0 0 0
  pub edge_mark : edge_mark_told (Err f) ≡ mark_answer (number f) 0 Nothing
  pub table : table_told (Err (Call f)) ≡ table_answer (number f) 0
  pub sounding : sounding_told (Err (Call f)) ≡ sounding_answer (number f) 0 None
  pub mark : mark_told (Err (Call f)) ≡ mark_answer (number f) 0 Nothing
