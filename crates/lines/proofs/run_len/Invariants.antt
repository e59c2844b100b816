-- What is left has the rest of the run. Assumes nothing.
use Rattle.std.proofs.Common.{◌≡◌, ◌+◌, drop}
use Rattle.lines.specs.Splitting.{run}
use Rattle.lines.proofs.run_len.Given as goal

abbrev pub invariant-loop-i : goal.invariant-loop-i
invariant-loop-i l = l.i + run l.separators (drop l.i l.bytes) ≡ run l.separators l.bytes
