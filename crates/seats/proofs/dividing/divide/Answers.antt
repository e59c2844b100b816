-- `seats::dividing::divide` meets its contract. Assumes nothing.
use native.Mathlib.Omega.{arith}
use Rattle.seats.proofs.Divisions.{a_rest, b_rest, a_small, b_small, two_steps}
use Rattle.seats.proofs.dividing.divide.Goals as goal

pub overflow_mul-b : goal.overflow_mul-b
overflow_mul-b c = record { fits = omega (arith, a_rest c.args.x c.args.s c.requires.0 c.requires.1) }

pub overflow_mul-result : goal.overflow_mul-result
overflow_mul-result c = record { fits = omega (arith, a_small c.args.x c.args.s c.requires.0 c.requires.1) }

pub overflow_add-result : goal.overflow_add-result
overflow_add-result c =
    let x = c.args.x in
    let s = c.args.s in
    record { fits = omega (arith, a_small x s c.requires.0 c.requires.1, b_small x s c.requires.0 c.requires.1) }

pub returns : goal.returns
returns c =
    let x = c.args.x in
    let s = c.args.s in
    (two_steps x s c.requires.0 c.requires.1, b_rest x s c.requires.0 c.requires.1)
