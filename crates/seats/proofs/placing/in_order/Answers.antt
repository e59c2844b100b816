-- `seats::placing::in_order` meets its contract. Assumes nothing.
use Rattle.seats.proofs.placing.in_order.Goals as goal

pub returns : goal.returns
returns c = cc
