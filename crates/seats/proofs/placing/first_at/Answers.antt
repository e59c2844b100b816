-- `seats::placing::first_at` meets its contract. Assumes nothing.
use Rattle.seats.proofs.PackedTables.{packed_first}
use Rattle.seats.proofs.placing.first_at.Goals as goal

pub returns : goal.returns
returns c = packed_first c.args.k c.requires
