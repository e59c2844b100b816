-- `mender::mend` meets its contract: the refusals in turn (Refusals), and then the answer. Assumes nothing.
use mathlib.Core.Path.{sym}
use native.Mathlib.Omega.{arith}
use Rattle.frame.proofs.Answering.{refusing, answering}
use Rattle.mending.specs.Answers.{lists}
use Rattle.mender.proofs.Refusals.{refuse_long, refuse_out, refuse_words, refuse_reasons, refuse_none}
use Rattle.mender.proofs.mend.Goals as goal

pub returns-then-n-gt4096 : goal.returns-then-n-gt4096
returns-then-n-gt4096 c = refusing (refuse_long _ _ (omega arith)) (λ z. omega (arith, z))

pub returns-then-out-n : goal.returns-then-out-n
returns-then-out-n c = refusing (refuse_out _ _ (omega arith) (omega arith)) (λ z. omega (arith, z))

pub returns-then-words-n : goal.returns-then-words-n
returns-then-words-n c =
    refusing (refuse_words _ _ (omega arith) (omega arith) (omega arith)) (λ z. omega (arith, z))

pub returns-then-reasons-n : goal.returns-then-reasons-n
returns-then-reasons-n c =
    refusing (refuse_reasons _ _ (omega arith) (omega arith) (omega arith) (omega arith)) (λ z. omega (arith, z))

pub returns : goal.returns
returns c =
    let x = c.mend_all.ensures in
    answering (sym (refuse_none c.args.input.now
    (lists c.args.out.now c.args.words.now c.args.reasons.now)
    (omega arith) (omega arith) (omega arith) (omega arith)))
    (λ i. (x.0 i, lists (x.1 i) (x.2 i) (x.3 i)))
