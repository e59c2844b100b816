-- The words read so far stand over the front (WordLists). Assumes nothing.
use mathlib.Core.Path.{◌≡◌}
use Rattle.frame.specs.Answers.{over}
use Rattle.octets.specs.Bytes.{numbers}
use Rattle.octets.proofs.read_words.Given as goal

abbrev pub invariant-loop-i : goal.invariant-loop-i
invariant-loop-i l = l.words ≡ over (numbers 8 l.i l.bytes) l.initial.words
