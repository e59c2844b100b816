-- The places passed offend in nothing, and the reach is that of the last of them (OnePass). Assumes nothing.
use mathlib.Core.Path.{refl}
use Rattle.cells.proofs.OnePass.{reason_some, none_passed, stopped, passed_more, all_passed}
use Rattle.cells.proofs.check.Goals as goal

pub loop-i-init : goal.loop-i-init
loop-i-init c = none_passed c.args.words.now

pub returns-in-Err : goal.returns-in-Err
returns-in-Err c =
    stopped c.args.words.now c.loop-i.invariant c.loop-i-test.true refl c.in-Err.ensures.reason (reason_some _)

pub loop-i-preserved : goal.loop-i-preserved
loop-i-preserved c =
    let f = c.in-Ok.ensures in
    passed_more c.args.words.now c.loop-i.invariant c.loop-i-test.true refl f.reason f.own refl

pub returns : goal.returns
returns c = all_passed c.args.words.now c.loop-i.invariant c.loop-i-test.false
