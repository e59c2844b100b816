-- The fields of a rank fit those of a word. Assumes nothing.
use mathlib.Core.Path.{refl}
use Rattle.merging.specs.Means.Joining.{word_at}
use Rattle.merging.proofs.word_at.Goals as goal

pub returns : goal.returns
unfolding word_at
returns c = refl
