-- What is done and what is left make the whole, in the list and in both change lists (Written, Passes). Assumes nothing.
use Rattle.std.proofs.Common.{◌≡◌, ◌≤◌, map, take}
use Rattle.merging.specs.Means.Joining.{Small, word_at, joined_below, joins_below, fives}
use Rattle.merging.proofs.Written.{Writing}
use Rattle.merging.proofs.merge_all.Given as goal

abbrev pub invariant-loop-d : goal.invariant-loop-d
invariant-loop-d l =
    (l.n ≤ l.count) × Small (take l.n l.ranks)
    × (joined_below l.d (take l.n l.ranks) ≡ joined_below 24 (take l.count l.initial.ranks))
    × Writing l.initial.changed l.changed l.changes l.c (map word_at (joins_below l.d (take l.n l.ranks)))
    (map word_at (joins_below 24 (take l.count l.initial.ranks)))
    × Writing l.initial.reasons l.reasons l.changes l.c (fives (joins_below l.d (take l.n l.ranks)))
    (fives (joins_below 24 (take l.count l.initial.ranks)))
