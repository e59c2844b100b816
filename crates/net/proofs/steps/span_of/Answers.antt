-- `net::steps::span_of` meets its contract; flags of 27 digits, three times, and the unit leave room in 64 bits
-- (WordSteps). Assumes nothing.
use native.Mathlib.Omega.{arith}
use Prim.Native.Nat.{◌^◌, ◌<◌}
use Rattle.net.proofs.WordSteps.{others_small, spanned}
use Rattle.net.proofs.steps.span_of.Goals as goal
use Rattle.net.proofs.steps.span_of.Lts as lts
use Rattle.net.proofs.steps.span_of.Reads as reads
use Rattle.net.proofs.steps.span_of.Tie as tie

abbrev After-others_of-threes : Type 0
After-others_of-threes = lts.After-others_of tie.the-claims reads.Pre reads.Post

small : (c : After-others_of-threes) → c.others_of-threes.result < 2 ^ 54
small c = rw c.others_of-threes.ensures (others_small c.args.k c.requires.0 c.args.w)

pub overflow_mul-threes : goal.overflow_mul-threes
overflow_mul-threes c = omega (arith, small c)

pub overflow_add-result : goal.overflow_add-result
overflow_add-result c = omega (arith, small c)

pub returns : goal.returns
returns c = rw c.others_of-threes.ensures (spanned c.args.w c.args.unit c.args.k)
