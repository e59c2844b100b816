-- Degree 6 has the most. Assumes nothing.
use native.Mathlib.Omega.{arith}
use Rattle.tablecalls.proofs.Parents.{parents_most}
use Rattle.tablecalls.proofs.held.parents_of.Goals as goal

pub returns : goal.returns
returns c = rw c.parents_of.ensures (parents_most _ (omega (arith, c.if-degree-gt6.false)))
