-- `seats::dividing::third` meets its contract. Assumes nothing.
use native.Mathlib.Omega.{arith}
use Prim.Native.Nat.{◌-◌, ◌<◌}
use Rattle.seats.proofs.Divisions.{parts_under, third_is}
use Rattle.seats.proofs.dividing.third.Goals as goal

pub overflow_sub-result : goal.overflow_sub-result
overflow_sub-result c =
    let a = c.args in
    let l = c.if-s-t.true in
    omega (arith, parts_under 16777215 a.f (a.t - a.s) a.s (omega arith) (omega (arith, c.requires.2)))

pub returns-then-s-t : goal.returns-then-s-t
returns-then-s-t c =
    let l = c.if-s-t.true in
    let h = c.requires in
    (third_is 16777214 _ _ _ _ (overflow_sub-result c) (omega (arith, h.0)), omega arith)

pub overflow_sub-result-then-t-eq0 : goal.overflow_sub-result-then-t-eq0
overflow_sub-result-then-t-eq0 c =
    let a = c.args in
    let h = c.requires in
    let z : 0 < a.s = omega (arith, h.0) in
    omega (arith, parts_under 16777217 a.f a.s a.s z (omega (arith, h.2)))

pub returns-then-t-eq0 : goal.returns-then-t-eq0
returns-then-t-eq0 c =
    let e = c.if-t-eq0.true in
    (third_is 16777216 _ _ _ _ (overflow_sub-result-then-t-eq0 c) (omega arith), omega arith)

pub overflow_sub-result-2 : goal.overflow_sub-result-2
overflow_sub-result-2 c =
    let a = c.args in
    let n = c.if-t-eq0.false in
    omega (arith, parts_under 16777216 a.f a.t a.s (omega arith) c.requires.2)

pub returns : goal.returns
returns c =
    let l = c.if-s-t.false in
    (third_is 16777215 _ _ _ _ (overflow_sub-result-2 c) (omega arith), omega arith)
