-- What is refused, or the large word. Assumes nothing.
use mathlib.Core.Path.{sym}
use Rattle.frame.proofs.Answering.{answering}
use Rattle.frame.proofs.Told.{handed_on}
use Rattle.words.specs.Family.{code_of, code_answer}
use Rattle.harbour.proofs.SmallCode.read.Goals as goal

pub returns-in_err-check_word : goal.returns-in_err-check_word
returns-in_err-check_word c = handed_on _ _ _ c.from_residual.ensures c.in_err-check_word.ensures

pub large_word-requires : goal.large_word-requires
large_word-requires c = sym c.in_ok-check_word.ensures

pub returns : goal.returns
returns c = answering (sym c.in_ok-check_word.ensures) (λ i. code_answer 0 (code_of (c.large_word.ensures i)))
