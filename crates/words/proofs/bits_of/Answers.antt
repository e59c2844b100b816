-- Both divisors are powers, so above 0. Assumes nothing.
use native.Mathlib.Omega.{arith}
use lib.Pow.{pow_pos}
use Rattle.words.proofs.bits_of.Goals as goal

pub nonzero_div-result : goal.nonzero_div-result
nonzero_div-result c = omega (arith, pow_pos c.before.args.k)

pub nonzero_rem-result : goal.nonzero_rem-result
nonzero_rem-result c = omega (arith, pow_pos c.before.before.args.b)

pub returns : goal.returns
returns c = cc
