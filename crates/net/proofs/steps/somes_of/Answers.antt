-- `net::steps::somes_of` meets its contract (WordSteps). Assumes nothing.
use Rattle.net.proofs.WordSteps.{somes_flagged}
use Rattle.net.proofs.steps.somes_of.Goals as goal

pub returns : goal.returns
returns c = somes_flagged c.args.w
