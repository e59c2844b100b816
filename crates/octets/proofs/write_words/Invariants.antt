-- The bytes of the words so far stand over the front (WordLists). Assumes nothing.
use mathlib.Core.Path.{◌≡◌}
use lib.ListN.{take}
use Rattle.frame.specs.Answers.{over}
use Rattle.octets.specs.Bytes.{bytes}
use Rattle.octets.proofs.write_words.Given as goal

abbrev pub invariant-loop-i : goal.invariant-loop-i
invariant-loop-i l = l.out ≡ over (bytes 8 (take l.i l.words)) l.initial.out
