-- `golden::signed` meets its contract. Assumes nothing.
use native.Mathlib.Omega.{arith}
use lib.IntN.{pos}
use Rattle.golden.proofs.Machine.{again_is}
use Rattle.golden.proofs.signed.Goals as goal

pub returns : goal.returns
returns c = again_is (pos c.args.x) (omega arith)
