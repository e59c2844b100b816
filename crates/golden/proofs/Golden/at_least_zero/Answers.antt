-- `golden::Golden::at_least_zero` meets its contract: the three cases of the sign by w and v, and the question of √5
-- on their sizes. Assumes nothing.
-- w is 2u + v, and small
use native.Mathlib.Omega.{arith}
use mathlib.Core.Path.{◌≡◌}
use mathlib.Core.Bool.{Bool}
use Prim.Native.Nat.{◌<◌, ◌≤◌, ◌*◌, ◌^◌}
use lib.IntN.{pos, nat_abs, ◌*ℤ◌}
use lib.Signed.{◌≤ℤ◌, ◌<ℤ◌}
use Rattle.golden.specs.Decisions.{Decides}
use Rattle.golden.specs.Order.{w_of}
use Rattle.golden.proofs.Magnitudes.{abs_add, abs_mul}
use Rattle.golden.proofs.Machine.{again_is, below, not_below, size_is}
use Rattle.golden.proofs.Signs.{pos_pos, neg_neg, pos_neg, neg_pos}
use Rattle.golden.proofs.Golden.at_least_zero.Goals as goal
use Rattle.golden.proofs.Golden.at_least_zero.Lts as lts
use Rattle.golden.proofs.Golden.at_least_zero.Reads as reads
use Rattle.golden.proofs.Golden.at_least_zero.Tie as tie

abbrev After-magnitude-a : Type 0
After-magnitude-a = lts.After-magnitude tie.the-claims reads.Pre reads.Post

abbrev After-magnitude-b : Type 0
After-magnitude-b = lts.After-magnitude2 tie.the-claims reads.Pre reads.Post

abbrev After-w-w : Type 0
After-w-w = lts.After-w tie.the-claims reads.Pre reads.Post

abbrev Else-w-lt0 : Type 0
Else-w-lt0 = lts.Else1 tie.the-claims reads.Pre reads.Post

abbrev Then-w-lt0 : Type 0
Then-w-lt0 = lts.Then1 tie.the-claims reads.Pre reads.Post

w-small : (c : After-w-w) → nat_abs c.w-w.result < 2 ^ 59
w-small c =
    let x = c.before.args.self in
    rw c.w-w.ensures (omega (arith, abs_mul (pos 2) x.u, abs_add (pos 2 *ℤ x.u) x.v))

-- the two sizes, what is asked of `at_least_root_five`, and what it says
a_is : (c : After-magnitude-a) → c.magnitude-a.result ≡ nat_abs c.before.before.w-w.result
a_is c = size_is c.before.before.w-w.result (omega (arith, w-small c.before.before)) c.magnitude-a.ensures

b_is : (c : After-magnitude-b) → c.magnitude-b.result
    ≡ nat_abs c.before.before.before.before.args.self.v
b_is c = size_is c.before.before.before.before.args.self.v (omega arith) c.magnitude-b.ensures

asked : (c : After-magnitude-b) → (c.before.magnitude-a.result < 2 ^ 60) × (c.magnitude-b.result < 2 ^ 60)
asked c = rw (a_is c.before, b_is c) (omega (arith, w-small c.before.before.before))

told : (c : After-magnitude-b) (r : Bool) → Decides r
    (5 * (c.magnitude-b.result * c.magnitude-b.result) ≤ c.before.magnitude-a.result * c.before.magnitude-a.result) → Decides r (5 * (nat_abs c.before.before.before.before.args.self.v * nat_abs
    c.before.before.before.before.args.self.v) ≤ nat_abs
    (w_of c.before.before.before.before.args.self) * nat_abs
    (w_of c.before.before.before.before.args.self))
told c r d = rw (a_is c.before, b_is c, c.before.before.before.w-w.ensures) at d

pub magnitude-a-requires : goal.magnitude-a-requires
magnitude-a-requires c = rw (again_is c.before.w-w.result (omega (arith, w-small c.before)))
    (omega (arith, w-small c.before))

pub magnitude-b-requires : goal.magnitude-b-requires
magnitude-b-requires c = rw (again_is c.before.before.before.args.self.v (omega arith)) (omega arith)

-- the sign of w, as the first test found it
w-neg : (c : Then-w-lt0) → w_of c.before.before.before.before.before.args.self <ℤ pos 0
w-neg c =
    let s = c.before.before.before.before in
    rw s.w-w.ensures at (below s.w-w.result (omega (arith, w-small s)) c.if-w-lt0.true)

w-pos : (c : Else-w-lt0) → pos 0 ≤ℤ w_of c.before.before.before.before.before.args.self
w-pos c =
    let s = c.before.before.before.before in
    rw s.w-w.ensures at (not_below s.w-w.result (omega (arith, w-small s)) c.if-w-lt0.false)

pub returns-then-v-lt0 : goal.returns-then-v-lt0
returns-then-v-lt0 c =
    let v = c.before.before.before.before.before.before.args.self.v in
    neg_neg _ _ (w-neg c.before) (below v (omega arith) c.if-v-lt0.true)

pub at_least_root_five-requires : goal.at_least_root_five-requires
at_least_root_five-requires c = asked c.before.before

pub returns-then-w-lt0 : goal.returns-then-w-lt0
returns-then-w-lt0 c =
    let v = c.before.before.before.before.before.before.before.args.self.v in
    neg_pos _ _ _ (w-neg c.before.before) (not_below v (omega arith) c.before.if-v-lt0.false)
    (told c.before.before.before _ c.at_least_root_five.ensures)

pub at_least_root_five-requires-then-v-lt0-2 : goal.at_least_root_five-requires-then-v-lt0-2
at_least_root_five-requires-then-v-lt0-2 c = asked c.before.before

pub returns-then-v-lt0-2 : goal.returns-then-v-lt0-2
returns-then-v-lt0-2 c =
    let v = c.before.before.before.before.before.before.before.args.self.v in
    pos_neg _ _ _ (w-pos c.before.before) (below v (omega arith) c.before.if-v-lt0-2.true)
    (told c.before.before.before _ c.at_least_root_five-then-v-lt0-2.ensures)

pub returns : goal.returns
returns c =
    let v = c.before.before.before.before.before.before.args.self.v in
    pos_pos _ _ (w-pos c.before) (not_below v (omega arith) c.if-v-lt0-2.false)
