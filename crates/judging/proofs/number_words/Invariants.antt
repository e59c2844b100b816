-- After i words the lists are as NumberedTo says (WordKeys). Assumes nothing.
use mathlib.Core.List.{map}
use Rattle.judging.specs.Means.Keys.{key, NumberedTo}
use Rattle.judging.proofs.number_words.Given as goal

abbrev pub invariant-loop-i : goal.invariant-loop-i
invariant-loop-i l = NumberedTo (map key l.words) l.i l.keys l.places l.why l.codes
