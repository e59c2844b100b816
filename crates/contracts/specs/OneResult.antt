-- What a call's result is told as tells the result: two results that are told alike are one. So what is promised of an
-- answer, that it is exactly one among it, is promised of the function's own result. Assumes nothing.
use Rattle.std.specs.Prelude.{◌≡◌}
use Rattle.frame.specs.Refusals.{told_number}
use Rattle.words.specs.Family.{code_told}
use Rattle.cells.specs.Checking.{verdict_told}
use Rattle.corners.specs.Answers.{step_told, name_told, count_told}
use Rattle.points.specs.Answers.{place_told, ticks_told, point_told}
use Rattle.mending.specs.Answers.{mend_told}
use Rattle.harbour.specs.Answers.{small_told, small_step_told}
use Rattle.sweeps.specs.Answers.{sweep_told}
use Rattle.tables.specs.Answers.{table_told, sounding_told}
use Rattle.marks.specs.Answers.{mark_told, edge_mark_told}

abbrev pub AlikeIsOne : {A R : Type 0} → (A → R) → Type 0
AlikeIsOne {A} told = (r s : A) → told r ≡ told s → r ≡ s

pub record OneResult : Type 0 where
  pub number : AlikeIsOne (told_number {A = Unit {0}})
  pub code : AlikeIsOne code_told
  pub step : AlikeIsOne step_told
  pub name : AlikeIsOne name_told
  pub count : AlikeIsOne count_told
  pub place : AlikeIsOne place_told
  pub ticks : AlikeIsOne ticks_told
  pub point : AlikeIsOne point_told
  pub sweep : AlikeIsOne sweep_told
  pub table : AlikeIsOne table_told
  pub sounding : AlikeIsOne sounding_told
  pub mark : AlikeIsOne mark_told
  pub edge_mark : AlikeIsOne edge_mark_told
  pub verdict : AlikeIsOne verdict_told
  pub mend : AlikeIsOne mend_told
  pub small : AlikeIsOne small_told
  pub small_step : AlikeIsOne small_step_told
