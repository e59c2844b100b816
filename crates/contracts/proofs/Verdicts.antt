-- What the functions of the program's line ask and ensure is what specs/Verdicts.antt says: the two are the same, by
-- computation. Assumes nothing.
use mathlib.Core.Logic.{◌↔◌}
use Rattle.contracts.specs.Verdicts.{Contracts}

itself : {P : Type 0} → P ↔ P
itself = (λ p. p, λ p. p)

pub contracts : Contracts
contracts = record {
  take_in = λ κs next head next' head' size r. (itself, itself);
  put_line = λ κs head out head' out' size r. (itself, itself);
}
