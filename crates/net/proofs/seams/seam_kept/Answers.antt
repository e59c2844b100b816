-- `seam_kept`: the last bit is 0 or not (`kept_even`, `kept_odd`). Assumes nothing.
use Rattle.net.proofs.SeamCode.{kept_even, kept_odd}
use Rattle.net.proofs.seams.seam_kept.Goals as goal

pub returns-in-0 : goal.returns-in-0
returns-in-0 c = kept_even _ _ c.in-0.is

pub returns-in_default : goal.returns-in_default
returns-in_default c = kept_odd _ _ c.in_default.in_default-own.rest.1
