-- What each exported function asks and ensures is what specs/Host.antt says: the two are the same, by computation.
-- Assumes nothing.
use Rattle.frame.proofs.Answering.{says_itself}
use Rattle.contracts.specs.Host.{Contracts}

pub contracts : Contracts
contracts = record {
  check_triangle = λ κs word r. says_itself;
  check_names = λ κs word r. says_itself;
  cross = λ κs code edge out new r. says_itself;
  file = λ κs degree x y z out new r. says_itself;
  list = λ κs degree x y z out new r. says_itself;
  sweep = λ κs degree dirs dirs' codes new out told r. says_itself;
  check_cells = λ κs list list' out new r. says_itself;
  mend_cells = λ κs list list' mended new words words' reasons reasons' out told r. says_itself;
  small = λ κs code out new r. says_itself;
  large = λ κs word out new r. says_itself;
  check_smalls = λ κs word r. says_itself;
  cross_small = λ κs word edge out new r. says_itself;
  file_small = λ κs degree x y z out new r. says_itself;
  opposite = λ κs code out new r. says_itself;
  opposite_name = λ κs name out new r. says_itself;
}
