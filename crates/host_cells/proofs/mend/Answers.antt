-- The refusals in turn (CellBytes), then the mended list. Assumes nothing.
use mathlib.Core.Path.{sym}
use native.Mathlib.Omega.{arith}
use Rattle.frame.proofs.Answering.{refusing, answering}
use Rattle.host_cells.proofs.CellBytes.{mend_long, mend_odd, mend_mended, mend_words, mend_reasons, mend_short}
use Rattle.host_cells.proofs.CellBytes.{mend_nothing}
use Rattle.host_cells.proofs.mend.Goals as goal

pub returns-then-n-gt4096 : goal.returns-then-n-gt4096
returns-then-n-gt4096 c = refusing (mend_long _ _ _ (omega arith)) (λ z. omega (arith, z))

pub returns-then-n-ne0 : goal.returns-then-n-ne0
returns-then-n-ne0 c = refusing (mend_odd _ _ _ (omega arith) c.if-n-ne0.true) (λ z. omega (arith, z))

pub returns-then-mended-n : goal.returns-then-mended-n
returns-then-mended-n c =
    refusing (mend_mended _ _ _ (omega arith) c.if-n-ne0.false (omega arith)) (λ z. omega (arith, z))

pub returns-then-words-n : goal.returns-then-words-n
returns-then-words-n c =
    refusing (mend_words _ _ _ (omega arith) c.if-n-ne0.false (omega arith) (omega arith))
    (λ z. omega (arith, z))

pub returns-then-reasons-n : goal.returns-then-reasons-n
returns-then-reasons-n c =
    refusing
    (mend_reasons _ _ _ (omega arith) c.if-n-ne0.false (omega arith) (omega arith) (omega arith))
    (λ z. omega (arith, z))

pub returns-then-out-lt16 : goal.returns-then-out-lt16
returns-then-out-lt16 c =
    refusing
    (mend_short _ _ _ (omega arith) c.if-n-ne0.false (omega arith) (omega arith)
    (omega arith) (omega arith))
    (λ z. omega (arith, z))

pub returns : goal.returns
returns c =
    answering
    (sym (mend_nothing _ _ _ (omega arith) c.if-n-ne0.false (omega arith) (omega arith)
    (omega arith) c.if-out-lt16.false))
    (λ i. (0, c.mend_bytes.ensures i))
