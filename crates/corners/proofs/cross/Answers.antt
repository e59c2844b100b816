-- The refusals in turn; the step to the neighbour (Calls). Assumes nothing.
use mathlib.Core.Path.{refl, sym}
use Rattle.frame.proofs.Told.{handed_on}
use Rattle.corners.proofs.Refused.{numbered_passes}
use Rattle.corners.proofs.Calls.{cross_answers}
use Rattle.corners.proofs.cross.Goals as goal

pub returns-in_err-refuse_numbered : goal.returns-in_err-refuse_numbered
returns-in_err-refuse_numbered c = handed_on _ _ _ c.from_residual.ensures c.in_err-refuse_numbered.ensures

pub neighbour-there-requires : goal.neighbour-there-requires
neighbour-there-requires c = (numbered_passes _ _).0 (sym c.in_ok-refuse_numbered.ensures)

pub returns : goal.returns
returns c =
    cross_answers _ _ _ (sym c.in_ok-refuse_numbered.ensures) c.neighbour-there.ensures c.next_of-next.ensures refl
    c.of_three.ensures c.of_three-2.ensures
