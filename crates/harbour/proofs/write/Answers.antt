-- What is refused, or the small word. Assumes nothing.
use mathlib.Core.Path.{sym}
use Rattle.frame.proofs.Answering.{answering}
use Rattle.frame.proofs.Told.{handed_on}
use Rattle.harbour.specs.Small.{small_code}
use Rattle.harbour.specs.Answers.{small_answer}
use Rattle.harbour.proofs.write.Goals as goal

pub returns-in_err-refuse_write : goal.returns-in_err-refuse_write
returns-in_err-refuse_write c = handed_on _ _ _ c.from_residual.ensures c.in_err-refuse_write.ensures

pub small_word-requires : goal.small_word-requires
small_word-requires c = sym c.in_ok-refuse_write.ensures

pub returns : goal.returns
returns c =
    answering (sym c.in_ok-refuse_write.ensures) (λ i. small_answer 0 (small_code (c.small_word.ensures i)))
