-- `seats::placing::row_of` meets its contract. Assumes nothing.
use Rattle.seats.proofs.PackedTables.{row_last}
use Rattle.seats.proofs.placing.row_of.Goals as goal

pub returns-in_default : goal.returns-in_default
returns-in_default c = row_last _ c.in_default.in_default-own.rest.0.0.1 c.in_default.in_default-own.rest.0.1 c.in_default.in_default-own.rest.1
