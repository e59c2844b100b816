-- The refusals, the one word where the quick way is clear, and otherwise the least word of the exact way
-- (FilingCalls). Assumes nothing.
use mathlib.Core.Path.{sym}
use Rattle.frame.proofs.Told.{handed_on}
use Rattle.directions.proofs.Refused.{allowed}
use Rattle.directions.proofs.FilingCalls.{filed_answer}
use Rattle.directions.proofs.file.Goals as goal

pub returns-in_err-refuse_direction : goal.returns-in_err-refuse_direction
returns-in_err-refuse_direction c = handed_on _ _ _ c.from_residual.ensures c.in_err-refuse_direction.ensures

pub quick_word-requires : goal.quick_word-requires
quick_word-requires c = let m = allowed _ _ (sym c.in_ok-refuse_direction.ensures) in (m.low, m.level, m.some)

pub exact_word-requires : goal.exact_word-requires
exact_word-requires c = let m = allowed _ _ (sym c.in_ok-refuse_direction.ensures) in (m.low, m.level, m.some)

pub returns-in-None : goal.returns-in-None
returns-in-None c = filed_answer _ _ _ (sym c.in_ok-refuse_direction.ensures) c.exact_word.ensures

pub returns-in-Some : goal.returns-in-Some
returns-in-Some c = filed_answer _ _ _ (sym c.in_ok-refuse_direction.ensures) c.in-Some.ensures.filed
