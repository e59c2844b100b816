-- The refusals of the whole call in turn (Refused); then what is counted, and what it tells (CountedParts). Assumes
-- nothing.
use mathlib.Core.Path.{sym}
use native.Mathlib.Omega.{arith}
use Rattle.frame.proofs.Answering.{refusing, answering}
use Rattle.sweeps.proofs.Refused.{refuse_degree, refuse_threes, refuse_short, refuse_none}
use Rattle.sweeps.proofs.CountedParts.{zero_in, refused_in, tells_into}
use Rattle.sweeper.proofs.sweep.Goals as goal

pub returns-then-degree-gt24 : goal.returns-then-degree-gt24
returns-then-degree-gt24 c = refusing (refuse_degree _ _ _ (omega arith)) (λ z. omega (arith, z))

pub returns-then-dirs-ne0 : goal.returns-then-dirs-ne0
returns-then-dirs-ne0 c =
    refusing (refuse_threes _ _ _ (omega arith) (λ z. omega (arith, z))) (λ z. omega (arith, z))

pub returns-then-codes-n : goal.returns-then-codes-n
returns-then-codes-n c = refusing (refuse_short _ _ _ (omega arith) (omega arith)) (λ z. omega (arith, z))

pub tell-requires : goal.tell-requires
tell-requires c = λ some.
    (zero_in c.file_each-refused.ensures some, refused_in c.file_each-refused.ensures some)

pub returns-then-n-le64 : goal.returns-then-n-le64
returns-then-n-le64 c =
    answering (sym (refuse_none _ _ _ c.if-degree-gt24.false c.if-dirs-ne0.false c.if-codes-n.false))
    (tells_into c.file_each-refused.ensures c.tell.ensures)

pub tell-requires-2 : goal.tell-requires-2
tell-requires-2 c = λ some.
    (zero_in c.file_halves-refused.ensures some, refused_in c.file_halves-refused.ensures some)

pub returns : goal.returns
returns c =
    answering (sym (refuse_none _ _ _ c.if-degree-gt24.false c.if-dirs-ne0.false c.if-codes-n.false))
    (tells_into c.file_halves-refused.ensures c.tell-2.ensures)
