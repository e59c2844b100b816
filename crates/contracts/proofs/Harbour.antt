-- What each function on the small form asks and ensures is what specs/Harbour.antt says: the two are the same, by
-- computation. Assumes nothing.
use Rattle.frame.proofs.Answering.{says_itself}
use Rattle.contracts.specs.Harbour.{Contracts}

pub contracts : Contracts
contracts = record {
  check = λ κs s r. says_itself;
  read = λ κs s r. says_itself;
  write = λ κs t r. says_itself;
  cross = λ κs s k r. says_itself;
  file = λ κs n d r. says_itself;
}
