-- `seats::placing::times_phi` meets its contract. Assumes nothing.
use Rattle.seats.proofs.NearNumbers.{near_phi}
use Rattle.seats.proofs.placing.times_phi.Goals as goal

pub returns : goal.returns
returns c = near_phi c.args.n c.requires
