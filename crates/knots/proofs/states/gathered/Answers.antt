-- `knots::states::gathered` meets its contract: five times two fields become one (`Gathering`). Assumes nothing.
use Rattle.net.proofs.Gathering.{gathered_is}
use Rattle.knots.proofs.states.gathered.Goals as goal

pub returns : goal.returns
returns c = gathered_is c.args.v
