-- After i directions the bytes are what a sweep of them leaves (ByteSweeps). Assumes nothing.
use Rattle.std.proofs.Common.{◌*◌}
use Rattle.octets.specs.Bytes.{signed_numbers}
use Rattle.host_sweeps.specs.Means.CountedBytes.{CountedBytes}
use Rattle.host_sweeps.proofs.file_each_byte.Given as goal

abbrev pub invariant-loop-i : goal.invariant-loop-i
invariant-loop-i l = CountedBytes l.degree (signed_numbers 4 (3 * l.i) l.dirs) l.initial.codes l.refused l.codes
