-- What the function that mends a cell list asks and ensures is what specs/Mending.antt says: the two are the same, by
-- computation. Assumes nothing.
use Rattle.frame.proofs.Answering.{says_itself}
use Rattle.contracts.specs.Mending.{Contracts}

pub contracts : Contracts
contracts = record { mend = λ κs input out words reasons input' out' words' reasons' r. says_itself }
