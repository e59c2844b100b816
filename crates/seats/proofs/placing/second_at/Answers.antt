-- `seats::placing::second_at` meets its contract. Assumes nothing.
use Rattle.seats.proofs.PackedTables.{packed_second}
use Rattle.seats.proofs.placing.second_at.Goals as goal

pub returns : goal.returns
returns c = packed_second c.args.k c.requires
