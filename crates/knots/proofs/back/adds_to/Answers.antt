-- A place more of the twelve; and a weight above what is left would be too much for the sum. Assumes nothing.
use Rattle.std.proofs.Common.{◌+◌, take, length, sym, arith}
use Rattle.std.proofs.lemmas.List.{take_all}
use borrow.Author.Tests.{ne_eqb}
use Rattle.net.specs.Division.{sum}
use Rattle.net.proofs.StateCode.{none_left, sum_more, sum_take}
use Rattle.knots.proofs.back.adds_to.Goals as goal

pub loop-x-init : goal.loop-x-init
unfolding sum
loop-x-init c = omega arith

pub returns-then-left-x : goal.returns-then-left-x
returns-then-left-x c =
    let xs = take 12 c.args.weights.now in
    let i = c.loop-x.x-index in
    sym (ne_eqb (sum xs) c.args.total
    (λ e. omega (arith, sum_more xs i (omega arith), rw (take_all (length xs) xs (omega arith)) at (sum_take xs (i + 1) (length xs) (omega arith)))))

pub loop-x-preserved : goal.loop-x-preserved
loop-x-preserved c = omega (arith, sum_more (take 12 c.args.weights.now) c.loop-x.x-index (omega arith))

pub returns : goal.returns
returns c =
    let l = c.loop-x in
    let xs = take 12 c.args.weights.now in
    none_left l.left _ _ (rw (take_all l.x-index xs (omega arith)) at l.invariant)
