-- `shares::weaving::bits_of` meets its contract. Assumes nothing.
use mathlib.Core.Path.{sym}
use native.Mathlib.Omega.{arith}
use Rattle.shares.proofs.Turning.{mix, odd3, X-small, low_24, high_24}
use Rattle.shares.proofs.weaving.bits_of.Goals as goal

pub overflow_sub-down : goal.overflow_sub-down
unfolding odd3
overflow_sub-down c = omega (arith, X-small c.args.f c.requires)

pub returns : goal.returns
unfolding mix odd3
returns c = (sym (low_24 c.args.f c.requires), sym (high_24 c.args.f c.requires))
