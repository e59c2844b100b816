-- The machine's shift of 1 is the power. Assumes nothing.
use mathlib.Core.Path.{◌∙◌}
use native.Mathlib.Nat.{one-mul}
use native.Mathlib.Omega.{arith}
use lib.Dec.{lit<}
use lib.Pow.{shl_exact}
use Rattle.words.proofs.power.Goals as goal

pub returns : goal.returns
returns c = shl_exact {a = 1} 1 c.args.k 64 (lit< tt) (omega arith) ∙ one-mul _
