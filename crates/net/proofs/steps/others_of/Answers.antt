-- `net::steps::others_of` meets its contract (WordSteps). Assumes nothing.
use Rattle.net.proofs.WordSteps.{others_flagged}
use Rattle.net.proofs.steps.others_of.Goals as goal

pub returns : goal.returns
returns c =
    rw (c.somes_of.ensures, c.somes_of-2.ensures) (others_flagged c.args.w c.args.c c.requires)
