-- t on each axis, from the exact coordinates (PlaceCalls). Assumes nothing.
use Rattle.frame.proofs.Told.{handed_on}
use Rattle.points.proofs.PlaceCalls.{numbered_small, refusal_is, place_small, ticks_answers}
use Rattle.points.proofs.ticks_of.Goals as goal

pub returns-in_err-coordinates_of : goal.returns-in_err-coordinates_of
returns-in_err-coordinates_of c = handed_on _ _ _ c.from_residual.ensures (refusal_is c.in_err-coordinates_of.ensures)

pub ticks_at-requires : goal.ticks_at-requires
ticks_at-requires c = place_small c.in_ok-coordinates_of.ensures (numbered_small _ _)

pub returns : goal.returns
returns c = ticks_answers c.in_ok-coordinates_of.ensures c.ticks_at.ensures
