-- What the function of a sweep asks and ensures is what specs/Sweeps.antt says: the two are the same, by computation.
-- Assumes nothing.
use Rattle.frame.proofs.Answering.{says_itself}
use Rattle.contracts.specs.Sweeps.{Contracts}

pub contracts : Contracts
contracts = record { sweep = λ κs n dirs dirs' codes new r. says_itself }
