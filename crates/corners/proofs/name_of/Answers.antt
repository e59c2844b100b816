-- The refusals in turn; the least name round the corner (Calls). Assumes nothing.
use native.Mathlib.Omega.{arith}
use mathlib.Core.Path.{sym}
use Rattle.frame.proofs.Told.{handed_on}
use Rattle.corners.proofs.Refused.{numbered_passes}
use Rattle.net.proofs.WordSteps.{numbered_fields, numbered_fits}
use Rattle.corners.proofs.Calls.{naming_answers}
use Rattle.corners.proofs.name_of.Goals as goal

pub returns-in_err-refuse_numbered : goal.returns-in_err-refuse_numbered
returns-in_err-refuse_numbered c = handed_on _ _ _ c.from_residual.ensures c.in_err-refuse_numbered.ensures

pub overflow_add-t : goal.overflow_add-t
overflow_add-t c =
    let p = (numbered_passes _ _).0 (sym c.in_ok-refuse_numbered.ensures) in omega (arith, numbered_fits _ p.0 _ p.1)

pub least_name-requires : goal.least_name-requires
least_name-requires c =
    let p = (numbered_passes _ _).0 (sym c.in_ok-refuse_numbered.ensures) in numbered_fields _ p.0 _ p.1

pub returns : goal.returns
returns c = naming_answers _ _ (sym c.in_ok-refuse_numbered.ensures) c.least_name.ensures
