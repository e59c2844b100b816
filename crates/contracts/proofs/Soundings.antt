-- What each function of a table asks and ensures is what specs/Soundings.antt says: the two are the same, by
-- computation. Assumes nothing.
use Rattle.frame.proofs.Answering.{says_itself}
use Rattle.contracts.specs.Soundings.{Contracts}

pub contracts : Contracts
contracts = record {
  get = λ κs n t list new r. says_itself;
  take = λ κs d n t lists new r. says_itself;
  set = λ κs d n t x lists new r. says_itself;
  clear = λ κs d n t lists new r. says_itself;
  give = λ κs d n t lists new r. says_itself;
  work_out = λ κs n list list' sums new r. says_itself;
}
