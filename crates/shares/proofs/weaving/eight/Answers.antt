-- `shares::weaving::eight` meets its contract. Assumes nothing.
use native.Mathlib.Omega.{arith}
use Rattle.shares.proofs.Spreading.{spread_small}
use Rattle.shares.proofs.weaving.eight.Goals as goal

pub overflow_mul-result : goal.overflow_mul-result
overflow_mul-result c =
    let a = c.args in
    record { fits = omega (arith, c.spread_byte-2.ensures, spread_small 8 a.high) }

pub overflow_add-result : goal.overflow_add-result
overflow_add-result c =
    let a = c.args in
    let l = c.spread_byte.ensures in
    let h = c.spread_byte-2.ensures in
    record { fits = omega (arith, l, spread_small 8 a.low, h, spread_small 8 a.high) }
