-- The invariant takes a side more, and after the last none is left. Assumes nothing.
use Rattle.std.proofs.Common.{arith, below_more, sym, take, true≢false, ◌∙◌}
use Rattle.net.proofs.StateCode.{none_on}
use Rattle.knots.proofs.back.side_of.Goals as goal

pub loop-s-preserved : goal.loop-s-preserved
loop-s-preserved c = below_more _ _ c.loop-s.invariant (λ h o. true≢false (sym o ∙ sym c.lies_on.ensures ∙ c.if-lies_on.false))

pub returns : goal.returns
returns c = none_on (take 12 c.args.weights.now) (λ j h. c.loop-s.invariant j (omega arith) h)
