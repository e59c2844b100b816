-- `of_three`: 1 and 2 compute, and any other number gives the third (`nth_rest`). Assumes nothing.
use Rattle.net.proofs.SeamCode.{nth_rest}
use Rattle.net.proofs.seams.of_three.Goals as goal

pub returns-in_default : goal.returns-in_default
returns-in_default c = nth_rest _ _ _ _ c.in_default.in_default-own.rest.0.1 c.in_default.in_default-own.rest.1
