use Rattle.std.proofs.Common.{◌+◌, ◌*◌, ◌≤◌, length}
use Rattle.stream.proofs.results.put_all.Given as goal

abbrev pub invariant-loop-code : goal.invariant-loop-code
invariant-loop-code g l =
    (goal.iterator-loop-code g).can_next l.code-iterator × (goal.iterator-loop-code g).is_finite l.code-iterator
    × (length l.out ≤ length l.initial.out + 29 * length l.yielded)
