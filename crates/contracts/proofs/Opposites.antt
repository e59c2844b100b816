-- What each of the two functions asks and ensures is what specs/Opposites.antt says: the two are the same, by
-- computation. Assumes nothing.
use Rattle.frame.proofs.Answering.{says_itself}
use Rattle.contracts.specs.Opposites.{Contracts}

pub contracts : Contracts
contracts = record {
  opposite = λ κs t r. says_itself;
  opposite_name = λ κs q r. says_itself;
}
