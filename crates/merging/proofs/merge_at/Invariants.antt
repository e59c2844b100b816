-- What is written and what is left make the whole, in the list itself and in both change lists (Written, Passes). The
-- measure is how many are left. Assumes nothing.
use mathlib.Core.List.{map}
use Prim.Native.Nat.{◌-◌}
use lib.ListN.{take, drop}
use Rattle.merging.specs.Means.Joining.{word_at, joined_at, joins_at, fives}
use Rattle.merging.proofs.Written.{Writing}
use Rattle.merging.proofs.Written.{Shrinking}
use Rattle.merging.proofs.merge_at.Given as goal

abbrev pub invariant-loop-i : goal.invariant-loop-i
invariant-loop-i l =
    Shrinking l.initial.ranks l.ranks l.count l.i l.j (joined_at l.d (drop l.i (take l.count l.initial.ranks))) (joined_at l.d (take l.count l.initial.ranks))
    × Writing l.initial.changed l.changed l.changes l.c (map word_at (joins_at l.d (drop l.i (take l.count l.initial.ranks))))
    (map word_at (joins_at l.d (take l.count l.initial.ranks)))
    × Writing l.initial.reasons l.reasons l.changes l.c (fives (joins_at l.d (drop l.i (take l.count l.initial.ranks))))
    (fives (joins_at l.d (take l.count l.initial.ranks)))

abbrev pub decreases-loop-i : goal.decreases-loop-i
decreases-loop-i l = l.count - l.i
