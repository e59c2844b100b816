-- The places passed offend in nothing, and the reach is that of the last of them (OnePass). Assumes nothing.
use Rattle.cells.proofs.OnePass.{Passed}
use Rattle.cells.proofs.check.Given as goal

abbrev pub invariant-loop-i : goal.invariant-loop-i
invariant-loop-i l = Passed l.words l.i l.last
