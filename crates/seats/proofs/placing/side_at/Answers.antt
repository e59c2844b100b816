-- `seats::placing::side_at` meets its contract. Assumes nothing.
use Rattle.seats.proofs.PackedTables.{packed_side}
use Rattle.seats.proofs.placing.side_at.Goals as goal

pub returns : goal.returns
returns c =
    let a = c.args in
    rw c.row_of.ensures (packed_side a.octant c.requires.0 a.kind c.requires.1)
