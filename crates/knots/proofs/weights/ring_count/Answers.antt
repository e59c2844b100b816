-- `knots::weights::ring_count` meets its contract: the three signs add to 1, or `ring_size` is 6. Assumes nothing.
use mathlib.Core.Path.{◌≡◌}
use Prim.Native.Nat.{◌+◌}
use native.Mathlib.Omega.{arith}
use Rattle.net.specs.Means.Spreads.{sign}
use Rattle.net.proofs.StateCode.{ring_rest}
use Rattle.net.proofs.Rings.{sign_low}
use Rattle.knots.proofs.weights.ring_count.Goals as goal

pub overflow_add-sign_of : goal.overflow_add-sign_of
overflow_add-sign_of c = let p = c.args.p in omega (arith, sign_low p.w1, sign_low p.w2)

pub overflow_add-sign_of-2 : goal.overflow_add-sign_of-2
overflow_add-sign_of-2 c =
    let p = c.args.p in
    omega (arith, sign_low p.w1, sign_low p.w2, sign_low p.w3)

pub returns-then-sign_of-eq1 : goal.returns-then-sign_of-eq1
returns-then-sign_of-eq1 c =
    let p = c.args.p in
    let e : sign p.w1 + sign p.w2 + sign p.w3 ≡ 1 = omega arith in
    rw e

pub returns-else-sign_of-eq1 : goal.returns-else-sign_of-eq1
returns-else-sign_of-eq1 c =
    let p = c.args.p in
    ring_rest (sign p.w1 + sign p.w2 + sign p.w3) (λ e. c.if-sign_of-eq1.false (omega arith))
