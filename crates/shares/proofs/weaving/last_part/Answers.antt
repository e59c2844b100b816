-- `shares::weaving::last_part` meets its contract. Assumes nothing.
use native.Mathlib.Omega.{arith}
use Rattle.shares.proofs.Spreading.{spread_small, spread_8, shift_small, byte_small}
use Rattle.shares.proofs.weaving.last_part.Goals as goal

pub overflow_mul-result : goal.overflow_mul-result
overflow_mul-result c =
    let a = c.args in
    let h = c.requires in
    record { fits = omega (arith, rw (← c.power.ensures) at (shift_small a.n a.v (omega arith) h.3)) }

pub eight-requires : goal.eight-requires
eight-requires c =
    let a = c.args in
    let h = c.requires in
    (byte_small a.n a.low h.0 h.1, byte_small a.n a.high h.0 h.2)

pub overflow_add-result : goal.overflow_add-result
overflow_add-result c =
    let a = c.args in
    let h = c.requires in
    let s = rw (← c.power.ensures) at (shift_small a.n a.v (omega arith) h.3) in
    record { fits = omega (arith, s, c.eight.ensures, spread_small 8 a.low, spread_small 8 a.high) }

pub returns : goal.returns
returns c =
    let a = c.args in
    let h = c.requires in
    let low = spread_8 a.n a.low h.0 h.1 in
    let high = spread_8 a.n a.high h.0 h.2 in
    rw (c.power.ensures, c.eight.ensures, low, high)
