-- After i directions the list has what a sweep of them leaves (CountedParts). Assumes nothing.
use Rattle.std.proofs.Common.{◌*◌, take}
use Rattle.sweeps.specs.Means.Counted.{CountedInto}
use Rattle.sweeper.proofs.file_each.Given as goal

abbrev pub invariant-loop-i : goal.invariant-loop-i
invariant-loop-i l = CountedInto l.degree (take (3 * l.i) l.dirs) l.initial.codes l.refused l.codes
