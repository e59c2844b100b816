-- `notation::base_state`: in a side of either orientation, the weights that it lessens are not 0. Assumes nothing.
use Prim.Native.Nat.{◌≤◌}
use Rattle.notation.proofs.Computing.{state_down, state_up, weight_up, weights_down}
use Rattle.notation.proofs.base_state.Goals as goal
use Rattle.notation.proofs.base_state.Lts as lts
use Rattle.notation.proofs.base_state.Reads as reads
use Rattle.notation.proofs.base_state.Tie as tie

abbrev Else-orientation_of-eq0 : Type 0
Else-orientation_of-eq0 = lts.Else1 tie.the-claims reads.Pre reads.Post

pub overflow_sub-result : goal.overflow_sub-result
overflow_sub-result c =
    weight_up c.args.s c.args.p c.orientation_of.ensures c.if-orientation_of-eq0.true c.requires.1

pub returns-then-orientation_of-eq0 : goal.returns-then-orientation_of-eq0
returns-then-orientation_of-eq0 c =
    state_up c.args.s c.args.p c.orientation_of.ensures c.if-orientation_of-eq0.true

both : (c : Else-orientation_of-eq0) → (let p = c.args.p in (1 ≤ p.w1) × (1 ≤ p.w3))
both c =
    weights_down c.args.s c.args.p c.orientation_of.ensures c.if-orientation_of-eq0.false c.requires.1

pub overflow_sub-result-else-orientation_of-eq0 : goal.overflow_sub-result-else-orientation_of-eq0
overflow_sub-result-else-orientation_of-eq0 c = (both c.before).0

pub overflow_sub-result-else-orientation_of-eq0-2 : goal.overflow_sub-result-else-orientation_of-eq0-2
overflow_sub-result-else-orientation_of-eq0-2 c = (both c.before.before).1

pub returns-else-orientation_of-eq0 : goal.returns-else-orientation_of-eq0
returns-else-orientation_of-eq0 c =
    state_down c.args.s c.args.p c.orientation_of.ensures c.if-orientation_of-eq0.false
