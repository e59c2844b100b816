-- What is written and what is left make the whole, in both lists (Written, Dropped). Assumes nothing.
use Rattle.std.proofs.Common.{drop}
use Rattle.merging.specs.Means.Joining.{dropped_words, dropped_reasons}
use Rattle.merging.proofs.Written.{Writing}
use Rattle.merging.proofs.put_dropped.Given as goal

abbrev pub invariant-loop-i : goal.invariant-loop-i
invariant-loop-i l =
    Writing l.initial.changed l.changed 0 l.c (dropped_words (drop l.i l.words) (drop l.i l.why)) (dropped_words l.words l.why)
    × Writing l.initial.reasons l.reasons 0 l.c (dropped_reasons (drop l.i l.words) (drop l.i l.why)) (dropped_reasons l.words l.why)
