-- `knots::back::point_on` meets its contract: the corners of a side are below 12. Assumes nothing.
use Prim.Native.Nat.{◌<◌}
use native.Mathlib.Omega.{arith}
use Rattle.net.proofs.StateCode.{point_take, vertex_12}
use Rattle.knots.proofs.back.point_on.Goals as goal
use Rattle.knots.proofs.back.point_on.Lts as lts
use Rattle.knots.proofs.back.point_on.Reads as reads
use Rattle.knots.proofs.back.point_on.Tie as tie

abbrev After-corner_vertex-c : Type 0
After-corner_vertex-c = lts.After-corner_vertex3 tie.the-claims reads.Pre reads.Post

-- the three corners are vertices
small : (c : After-corner_vertex-c)
    → (c.corner_vertex-a.result < 12) × (c.corner_vertex-b.result < 12)
    × (c.corner_vertex-c.result < 12)
small c = (
  vertex_12 c.args.s 1 c.requires.1 (omega arith) c.corner_vertex-a.ensures,
  vertex_12 c.args.s 2 c.requires.1 (omega arith) c.corner_vertex-b.ensures,
  vertex_12 c.args.s 3 c.requires.1 (omega arith) c.corner_vertex-c.ensures,
)

pub offset_bounds-weights-a : goal.offset_bounds-weights-a
offset_bounds-weights-a c = omega (arith, (small c.before).0)

pub bounds-weights-a : goal.bounds-weights-a
bounds-weights-a c = omega (arith, (small c.before.before).0)

pub offset_bounds-weights-b : goal.offset_bounds-weights-b
offset_bounds-weights-b c = omega (arith, (small c.before.before).1)

pub bounds-weights-b : goal.bounds-weights-b
bounds-weights-b c = omega (arith, (small c.before.before.before).1)

pub offset_bounds-weights-c : goal.offset_bounds-weights-c
offset_bounds-weights-c c = omega (arith, (small c.before.before.before).2)

pub bounds-weights-c : goal.bounds-weights-c
bounds-weights-c c = omega (arith, (small c.before.before.before.before).2)

pub returns : goal.returns
returns c =
    point_take c.args.weights.now c.args.s c.requires.1 c.corner_vertex-a.ensures
    c.corner_vertex-b.ensures c.corner_vertex-c.ensures
