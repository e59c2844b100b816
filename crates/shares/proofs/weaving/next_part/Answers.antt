-- `shares::weaving::next_part` meets its contract. Assumes nothing.
use native.Mathlib.Omega.{arith}
use Rattle.shares.proofs.Spreading.{spread_small}
use Rattle.shares.proofs.weaving.next_part.Goals as goal

pub overflow_add-result : goal.overflow_add-result
overflow_add-result c =
    let a = c.args in
    record { fits = omega (arith, c.eight.ensures, spread_small 8 a.low, spread_small 8 a.high) }
