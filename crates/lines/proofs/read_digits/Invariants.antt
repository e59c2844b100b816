-- What is left of the digits, after the number so far, reads as all of them. Assumes nothing.
use Rattle.std.proofs.Common.{◌≡◌, Some, drop}
use Rattle.lines.specs.Reading.{reads}
use Rattle.lines.proofs.read_digits.Given as goal

abbrev pub invariant-loop-c : goal.invariant-loop-c
invariant-loop-c l = reads l.base (Some l.n) (drop l.c-index l.s) ≡ reads l.base (Some 0) l.s
