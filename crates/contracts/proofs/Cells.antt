-- What the function that checks a cell list asks and ensures is what specs/Cells.antt says: the two are the same, by
-- computation. Assumes nothing.
use Rattle.frame.proofs.Answering.{says_itself}
use Rattle.contracts.specs.Cells.{Contracts}

pub contracts : Contracts
contracts = record { check = λ κs words new r. says_itself }
