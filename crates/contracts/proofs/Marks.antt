-- What each of the two functions asks and ensures is what specs/Marks.antt says: the two are the same, by computation.
-- Assumes nothing.
use Rattle.frame.proofs.Answering.{says_itself}
use Rattle.contracts.specs.Marks.{Contracts}

pub contracts : Contracts
contracts = record {
  table = λ κs n t list new r. says_itself;
  edge = λ κs t k r. says_itself;
}
