-- `holders::exact::part_at` meets its contract, by one sign. Assumes nothing.
use mathlib.Core.Path.{◌≡◌, ◌∙◌}
use Prim.Native.Nat.{◌^◌}
use native.Mathlib.Omega.{arith}
use Rattle.golden.specs.Numbers.{Below, ◌+φ◌, negφ}
use Rattle.filing.specs.Holding.{◌-φ◌}
use Rattle.shares.specs.Means.Shares.{times}
use Rattle.seats.proofs.ExactParts.{wide, over_small, on, above, below_some, below}
use Rattle.holders.proofs.exact.part_at.Goals as goal
use Rattle.holders.proofs.exact.part_at.Lts as lts
use Rattle.holders.proofs.exact.part_at.Reads as reads
use Rattle.holders.proofs.exact.part_at.Tie as tie

abbrev After-sub-over : Type 0
After-sub-over = lts.After-sub tie.the-claims reads.Pre reads.Post

abbrev Start : Type 0
Start = lts.Start tie.the-claims reads.Pre reads.Post

x_small : (c : Start) → Below 8000000001 c.args.x
x_small c = let b = c.requires.1 in record { u_below = omega (arith, b.u_beside); v_below = omega (arith, b.v_beside) }

s-small : (c : Start) → Below 8000000001 c.args.s
s-small c = let b = c.requires.1 in record { u_below = omega (arith, b.u_beside); v_below = omega (arith, b.v_beside) }

pub many-requires : goal.many-requires
many-requires c = (omega arith, x_small c)

pub many-requires-2 : goal.many-requires-2
many-requires-2 c = (omega (arith, c.requires.0), s-small c.before)

pub sub-over-requires : goal.sub-over-requires
sub-over-requires c = (
  wide 16777216 c.args.x _ (omega arith) (x_small c.before.before) c.many.ensures,
  wide c.args.g c.args.s _ c.requires.0 (s-small c.before.before) c.many-2.ensures,
)

over_is :
    (c : After-sub-over)
    → let a = c.args in
    c.sub-over.result ≡ times 16777216 a.x -φ times a.g a.s
over_is c = c.sub-over.ensures ∙ (λ i. c.many.ensures i +φ negφ (c.many-2.ensures i))

over_below : (c : After-sub-over) → Below (2 ^ 57) c.sub-over.result
over_below c =
    over_small c.args.g c.args.s c.args.x _ c.requires.0 c.requires.1 (over_is c)

pub is_zero-requires : goal.is_zero-requires
is_zero-requires c = over_below c

pub returns-then-is_zero : goal.returns-then-is_zero
returns-then-is_zero c =
    let a = c.args in
    on a.g a.s a.x _ (over_is c.before.before) (c.is_zero.ensures.holds c.if-is_zero.true)

pub at_least_zero-requires : goal.at_least_zero-requires
at_least_zero-requires c = over_below c.before.before

pub returns-then-at_least_zero : goal.returns-then-at_least_zero
returns-then-at_least_zero c =
    above c.args.g c.args.s c.args.x _ (over_is c.before.before.before.before) c.requires.2
    (c.at_least_zero.ensures.holds c.if-at_least_zero.true)
    (c.is_zero.ensures.fails c.if-is_zero.false)

pub overflow_sub-result : goal.overflow_sub-result
overflow_sub-result c =
    below_some c.args.g c.args.s c.args.x _ (over_is c.before.before.before.before) c.requires.2
    (c.at_least_zero.ensures.fails c.if-at_least_zero.false)

pub returns : goal.returns
returns c =
    below c.args.g c.args.s c.args.x _ (over_is c.before.before.before.before) c.requires.2
    (c.at_least_zero.ensures.fails c.if-at_least_zero.false)
