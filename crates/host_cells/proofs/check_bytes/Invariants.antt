-- As `cells::check` does: the words passed offend in nothing, and the reach is that of the last of them (OnePass of the
-- crate cells). Assumes nothing.
use Rattle.octets.specs.Bytes.{words_in}
use Rattle.cells.proofs.OnePass.{Passed}
use Rattle.host_cells.proofs.check_bytes.Given as goal

abbrev pub invariant-loop-i : goal.invariant-loop-i
invariant-loop-i l = Passed (words_in l.list) l.i l.last
