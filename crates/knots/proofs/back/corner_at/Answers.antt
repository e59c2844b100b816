-- `knots::back::corner_at` meets its contract: the point is a corner of the triangle that points up from it with one
-- less, and the path leads there. Assumes nothing.
use Prim.Native.Nat.{◌-◌}
use native.Mathlib.Omega.{arith}
use lib.Pow.{pow_mono, pow_pos}
use Rattle.net.specs.declared.State.TheVariants.{Up}
use Rattle.net.proofs.Spread.{same_point}
use Rattle.net.proofs.StateCode.{at_corner}
use Rattle.knots.proofs.back.corner_at.Goals as goal

pub path-requires : goal.path-requires
path-requires c = omega (arith, pow_mono {i = c.args.n} {j = 24} c.requires.0)

pub returns-then-x-gt0 : goal.returns-then-x-gt0
returns-then-x-gt0 c =
    let a = c.args in
    at_corner a.s a.n 1 (Up (a.p.w1 - 1) a.p.w2 a.p.w3) a.p (omega arith) (omega arith)
    (same_point _ _ (omega arith) (omega arith) (omega arith)) c.path.ensures

pub path-requires-then-y-gt0 : goal.path-requires-then-y-gt0
path-requires-then-y-gt0 c = omega (arith, pow_mono {i = c.args.n} {j = 24} c.requires.0)

pub returns-then-y-gt0 : goal.returns-then-y-gt0
returns-then-y-gt0 c =
    let a = c.args in
    at_corner a.s a.n 2 (Up a.p.w1 (a.p.w2 - 1) a.p.w3) a.p (omega arith) (omega arith)
    (same_point _ _ (omega arith) (omega arith) (omega arith)) c.path-then-y-gt0.ensures

pub overflow_sub-z : goal.overflow_sub-z
overflow_sub-z c = omega (arith, pow_pos c.args.n)

pub path-requires-2 : goal.path-requires-2
path-requires-2 c =
    omega (arith, pow_mono {i = c.args.n} {j = 24} c.requires.0, pow_pos c.args.n)

pub returns : goal.returns
returns c =
    let a = c.args in
    at_corner a.s a.n 3 (Up a.p.w1 a.p.w2 (a.p.w3 - 1)) a.p (omega arith)
    (omega (arith, pow_pos a.n)) (same_point _ _ (omega arith) (omega arith) (omega (arith, pow_pos a.n)))
    c.path-2.ensures
