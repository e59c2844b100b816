-- `notation::other_of`: the eight cases, by computation (`other_xor`). Assumes nothing.
use native.Mathlib.Omega.{arith}
use Rattle.notation.proofs.Computing.{other_xor}
use Rattle.notation.proofs.other_of.Goals as goal

pub returns : goal.returns
returns c = other_xor c.args.o (omega arith) c.args.d (omega arith)
