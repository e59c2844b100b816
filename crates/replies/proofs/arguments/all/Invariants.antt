-- The places that are filled stand in the list. Assumes nothing.
use Rattle.std.proofs.Common.{◌≡◌, ◌≤◌, length}
use Rattle.replies.proofs.arguments.all.Given as goal

abbrev pub invariant-loop-word : goal.invariant-loop-word
invariant-loop-word g l = (l.n ≤ length l.list) × (length l.list ≡ length l.initial.list)
