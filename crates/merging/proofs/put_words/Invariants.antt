-- The codes of the places passed are written (Written). Assumes nothing.
use Rattle.std.proofs.Common.{map, drop}
use Rattle.merging.specs.Means.Joining.{word_at}
use Rattle.merging.proofs.Written.{Writing}
use Rattle.merging.proofs.put_words.Given as goal

abbrev pub invariant-loop-k : goal.invariant-loop-k
invariant-loop-k l = Writing l.initial.out l.out 0 l.k (map word_at (drop l.k l.ranks)) (map word_at l.ranks)
