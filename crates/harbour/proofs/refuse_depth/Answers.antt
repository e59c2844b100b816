-- The two rows in turn. Assumes nothing.
use borrow.Author.Tests.{le-ltb, lt-ltb}
use Rattle.frame.proofs.Refusing.{here, next, nothing, refuse_first}
use Rattle.harbour.specs.Refusals.{harbour_order, depth_rows}
use Rattle.harbour.proofs.SmallWords.{deep, not_deep}
use Rattle.harbour.proofs.refuse_depth.Goals as goal

pub returns-then-n-gt24 : goal.returns-then-n-gt24
returns-then-n-gt24 c =
    let n = c.args.n in
    refuse_first harbour_order (depth_rows n) tt (here (lt-ltb 24 n c.if-n-gt24.true))

pub returns-then-n-gt11 : goal.returns-then-n-gt11
returns-then-n-gt11 c =
    let n = c.args.n in
    refuse_first harbour_order (depth_rows n) tt
    (next (le-ltb 24 n c.if-n-gt24.false) (here (deep n c.if-n-gt11.true c.if-n-gt24.false)))

pub returns : goal.returns
returns c =
    let n = c.args.n in
    refuse_first harbour_order (depth_rows n) tt
    (next (le-ltb 24 n c.if-n-gt24.false) (next (not_deep n c.if-n-gt11.false) nothing))
