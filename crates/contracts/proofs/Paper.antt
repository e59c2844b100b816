-- What each of the four functions asks and ensures is what specs/Paper.antt says: the two are the same, by computation.
-- Assumes nothing.
use Rattle.frame.proofs.Answering.{says_itself}
use Rattle.contracts.specs.Paper.{Contracts}

pub contracts : Contracts
contracts = record {
  from_domain = λ κs code new r. says_itself;
  from_vertex = λ κs code new r. says_itself;
  to_domain = λ κs t out new r. says_itself;
  to_vertex = λ κs q out new r. says_itself;
}
