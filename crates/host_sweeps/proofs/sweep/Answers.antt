-- The refusals in turn, then the sweep, and the bytes of what it tells (ByteSweeps, FirstCodes). Assumes nothing.
use mathlib.Core.Path.{refl, sym}
use native.Mathlib.Omega.{arith}
use Rattle.frame.proofs.Answering.{refusing, answering}
use Rattle.host_sweeps.proofs.ByteSweeps.{refuse_degree, refuse_odd, refuse_codes, refuse_out, refuse_nothing}
use Rattle.host_sweeps.proofs.FirstCodes.{zero_in, tells_bytes}
use Rattle.host_sweeps.proofs.sweep.Goals as goal

pub returns-then-degree-gt24 : goal.returns-then-degree-gt24
returns-then-degree-gt24 c = refusing (refuse_degree _ _ _ _ (omega arith)) (λ z. omega (arith, z))

pub returns-then-dirs-ne0 : goal.returns-then-dirs-ne0
returns-then-dirs-ne0 c = refusing (refuse_odd _ _ _ _ (omega arith) c.if-dirs-ne0.true) (λ z. omega (arith, z))

pub returns-then-codes-dirs : goal.returns-then-codes-dirs
returns-then-codes-dirs c = refusing (refuse_codes _ _ _ _ (omega arith) c.if-dirs-ne0.false (omega arith))
    (λ z. omega (arith, z))

pub returns-then-out-lt24 : goal.returns-then-out-lt24
returns-then-out-lt24 c =
    refusing (refuse_out _ _ _ _ (omega arith) c.if-dirs-ne0.false (omega arith) (omega arith))
    (λ z. omega (arith, z))

pub tell_in-requires : goal.tell_in-requires
tell_in-requires c =
    let k = c.file_each_byte-refused.auto.codes in (
      c.if-out-lt24.false,
      omega (arith, k, c.if-codes-dirs.false),
      zero_in c.args.dirs.now c.file_each_byte-refused.ensures c.if-dirs-ne0.false,
    )

pub returns : goal.returns
returns c =
    let told = c.tell_in.ensures in
    answering
    (sym (refuse_nothing _ _ _ _ c.if-degree-gt24.false c.if-dirs-ne0.false
    c.if-codes-dirs.false
    c.if-out-lt24.false))
    (record {
      told = told.told;
      swept = tells_bytes _ c.file_each_byte-refused.ensures c.if-dirs-ne0.false told.tells;
      answered = refl;
      put = told.put;
    })
