-- `knots::states::parities` meets its contract: five sums reach all 32 bits (`Summing`). Assumes nothing.
use Rattle.net.proofs.Summing.{sums_32}
use Rattle.knots.proofs.states.parities.Goals as goal

pub returns : goal.returns
returns c = sums_32 c.args.z c.requires
