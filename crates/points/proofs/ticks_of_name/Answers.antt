-- t on each axis, from the exact coordinates (PlaceCalls). Assumes nothing.
use Rattle.frame.proofs.Told.{handed_on}
use Rattle.points.proofs.PlaceCalls.{name_small, refusal_is, place_small, ticks_answers}
use Rattle.points.proofs.ticks_of_name.Goals as goal

pub returns-in_err-coordinates_of_name : goal.returns-in_err-coordinates_of_name
returns-in_err-coordinates_of_name c = handed_on _ _ _ c.from_residual.ensures (refusal_is c.in_err-coordinates_of_name.ensures)

pub ticks_at-requires : goal.ticks_at-requires
ticks_at-requires c = place_small c.in_ok-coordinates_of_name.ensures (name_small _)

pub returns : goal.returns
returns c = ticks_answers c.in_ok-coordinates_of_name.ensures c.ticks_at.ensures
