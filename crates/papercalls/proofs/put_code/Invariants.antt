-- Each digit so far took one byte. Assumes nothing.
use Prim.Native.Nat.{◌+◌, ◌≤◌}
use lib.ListN.{length}
use Rattle.papercalls.proofs.put_code.Given as goal

abbrev pub invariant-loop-d : goal.invariant-loop-d
invariant-loop-d g l = length l.out ≤ length l.initial.out + l.d-index
