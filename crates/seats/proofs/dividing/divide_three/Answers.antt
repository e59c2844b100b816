-- `seats::dividing::divide_three` meets its contract. Assumes nothing.
use native.Mathlib.Omega.{arith}
use Rattle.seats.proofs.Divisions.{parts_most}
use Rattle.seats.proofs.dividing.divide_three.Goals as goal

pub overflow_add-q1 : goal.overflow_add-q1
overflow_add-q1 c =
    let a = c.args in
    let h = c.requires in
    let p = c.divide-q1.ensures.0 in
    let q = c.divide-q2.ensures.0 in
    let l1 = parts_most _ _ a.x1 a.sum (omega (arith, h.0)) h.1 p in
    let l2 = parts_most _ _ a.x2 a.sum (omega (arith, h.0)) h.1 q in
    record { fits = omega arith }
