-- Each place that is shown takes at most 90 bytes, and none is shown after the 7900th. Assumes nothing.
use Rattle.std.proofs.Common.{◌+◌, ◌-◌, ◌*◌, ◌≤◌, length}
use Rattle.tablecalls.proofs.showing.put_places.Given as goal

abbrev pub invariant-loop-place : goal.invariant-loop-place
invariant-loop-place g l =
    (length l.out ≤ l.start + 7990) × (length l.out ≤ l.start + (100 + 90 * (l.place - l.first)))
