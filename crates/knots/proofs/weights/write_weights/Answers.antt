-- `knots::weights::write_weights` meets its contract: the corners of a side are three of the twelve vertices
-- (`Writing`). Assumes nothing.
use Prim.Native.Nat.{◌<◌}
use lib.ListN.{length-set}
use native.Mathlib.Omega.{arith}
use Rattle.net.proofs.StateCode.{vertex_12}
use Rattle.net.proofs.Writing.{put_three}
use Rattle.knots.proofs.weights.write_weights.Goals as goal
use Rattle.knots.proofs.weights.write_weights.Lts as lts
use Rattle.knots.proofs.weights.write_weights.Reads as reads
use Rattle.knots.proofs.weights.write_weights.Tie as tie

abbrev After-corner_vertex : Type 0
After-corner_vertex = lts.After-corner_vertex tie.the-claims reads.Pre reads.Post

abbrev After-corner_vertex-2 : Type 0
After-corner_vertex-2 = lts.After-corner_vertex2 tie.the-claims reads.Pre reads.Post

abbrev After-corner_vertex-3 : Type 0
After-corner_vertex-3 = lts.After-corner_vertex3 tie.the-claims reads.Pre reads.Post

abbrev Start : Type 0
Start = lts.Start tie.the-claims reads.Pre reads.Post

-- the three corners are vertices
abbrev start : After-corner_vertex → Start
start c = c.before.before.before.before.before.before

first : (c : After-corner_vertex) → c.corner_vertex.result < 12
first c = vertex_12 _ 1 (start c).requires.0 (omega arith) c.corner_vertex.ensures

second : (c : After-corner_vertex-2) → c.corner_vertex-2.result < 12
second c = vertex_12 _ 2 (start c.before).requires.0 (omega arith) c.corner_vertex-2.ensures

third : (c : After-corner_vertex-3) → c.corner_vertex-3.result < 12
third c = vertex_12 _ 3 (start c.before.before).requires.0 (omega arith) c.corner_vertex-3.ensures

pub offset_bounds-out-corner_vertex : goal.offset_bounds-out-corner_vertex
offset_bounds-out-corner_vertex c = omega (arith, first c)

pub bounds-out-corner_vertex : goal.bounds-out-corner_vertex
bounds-out-corner_vertex c = omega (arith, first c)

pub offset_bounds-out-corner_vertex-2 : goal.offset_bounds-out-corner_vertex-2
offset_bounds-out-corner_vertex-2 c = omega (arith, second c)

pub bounds-out-corner_vertex-2 : goal.bounds-out-corner_vertex-2
bounds-out-corner_vertex-2 c = simp length-set (omega (arith, second c))

pub offset_bounds-out-corner_vertex-3 : goal.offset_bounds-out-corner_vertex-3
offset_bounds-out-corner_vertex-3 c = omega (arith, third c)

pub bounds-out-corner_vertex-3 : goal.bounds-out-corner_vertex-3
bounds-out-corner_vertex-3 c = simp length-set (omega (arith, third c))

pub returns : goal.returns
returns c =
    let s = start c.before.before in
    let zeros = c.clear_twelve.ensures in
    put_three s.args.s s.requires.0 s.args.p s.args.out.now zeros
    c.corner_vertex.ensures c.corner_vertex-2.ensures c.corner_vertex-3.ensures
