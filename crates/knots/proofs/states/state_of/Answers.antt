-- `knots::states::state_of` meets its contract: the bits of all digits tell the state (`StateBits`). Assumes nothing.
use mathlib.Core.Path.{◌≡◌}
use Prim.Native.Nat.{◌-◌, ◌/◌, ◌%◌, ◌^◌}
use native.Mathlib.Omega.{arith}
use lib.Bits.{bit_or, bit_xor}
use lib.Pow.{pow_pos}
use Rattle.net.proofs.StateBits.{AreBits, are_bits, some_small, state_by, zeros_small}
use Rattle.knots.proofs.states.state_of.Goals as goal
use Rattle.knots.proofs.states.state_of.Lts as lts
use Rattle.knots.proofs.states.state_of.Reads as reads
use Rattle.knots.proofs.states.state_of.Tie as tie

abbrev After-parities-down : Type 0
After-parities-down = lts.After-parities tie.the-claims reads.Pre reads.Post

abbrev After-power : Type 0
After-power = lts.After-power tie.the-claims reads.Pre reads.Post

abbrev Start : Type 0
Start = lts.Start tie.the-claims reads.Pre reads.Post

-- the two words are the bits of the path's digits
abbrev start : After-power → Start
start c = c.before.before.before

bits : (c : After-power)
    → AreBits (start c).args.n (start c).args.v c.gathered-low.result
    c.gathered-high.result
bits c =
    let h = (start c).requires in
    are_bits h.0 h.1 c.gathered-low.ensures c.gathered-high.ensures

-- and the third tells where the triangles point down
downs : (c : After-parities-down)
    → let w = c.parities-down.result in
    bit_xor w (w / 2) ≡ 2 ^ (start c.before).args.n - 1 - bit_or c.gathered-low.result c.gathered-high.result
downs c = rw c.power.ensures at c.parities-down.ensures

pub overflow_sub-power : goal.overflow_sub-power
overflow_sub-power c = rw c.power.ensures (pow_pos (start c).args.n)

pub overflow_sub-power-2 : goal.overflow_sub-power-2
overflow_sub-power-2 c = rw c.power.ensures (some_small (bits c))

pub parities-down-requires : goal.parities-down-requires
parities-down-requires c = rw c.power.ensures (zeros_small (bits c) (start c).requires.0)

pub returns-then-down-eq0 : goal.returns-then-down-eq0
returns-then-down-eq0 c = state_by (bits c.before.before) _ 0 (downs c.before) c.if-down-eq0.true

pub returns-else-down-eq0 : goal.returns-else-down-eq0
returns-else-down-eq0 c =
    let odd : c.parities-down.result % 2 ≡ 1 = omega (arith, c.if-down-eq0.false) in
    state_by (bits c.before.before) _ 1 (downs c.before) odd
