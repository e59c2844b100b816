-- `shares::weaving::spread_byte` meets its contract. Assumes nothing.
use native.Mathlib.Omega.{arith}
use Rattle.shares.proofs.Spreading.{fours_small, twos_small, spread_masks}
use Rattle.shares.proofs.weaving.spread_byte.Goals as goal

pub overflow_mul-twos : goal.overflow_mul-twos
overflow_mul-twos c = record { fits = omega (arith, fours_small c.args.b) }

pub overflow_mul-result : goal.overflow_mul-result
overflow_mul-result c = record { fits = omega (arith, twos_small c.args.b) }

pub returns : goal.returns
returns c = spread_masks c.args.b c.requires
