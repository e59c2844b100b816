-- Assumes nothing.
use Rattle.judging.proofs.WordKeys.{end_is}
use Rattle.judging.proofs.end_of.Goals as goal

pub returns : goal.returns
returns c = end_is _ c.power.ensures
