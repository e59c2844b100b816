-- The weights at the corners of the side have all of the total, or not (`Told`). Assumes nothing.
use Rattle.std.proofs.Common.{arith}
use Rattle.net.proofs.StateCode.{Told, tells, told}
use Rattle.knots.proofs.back.lies_on.Goals as goal
use Rattle.knots.proofs.back.lies_on.Goals.{After-point_on-p}

at_side : (c : After-point_on-p) → Told c.args.weights.now c.args.s c.args.total c.point_on-p.result
at_side c =
    let pre = c.requires in
    told _ _ _ c.point_on-p.result pre.3 pre.0 pre.2 c.point_on-p.ensures

pub overflow_add-result : goal.overflow_add-result
overflow_add-result c = omega (arith, (at_side (goal.at.overflow_add-result c).After-point_on-p).most)

pub overflow_add-result-2 : goal.overflow_add-result-2
overflow_add-result-2 c = omega (arith, (at_side (goal.at.overflow_add-result-2 c).After-point_on-p).most)

pub returns : goal.returns
returns c = tells _ _ _ _ (at_side (goal.at.returns c).After-point_on-p)
