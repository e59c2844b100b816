-- The weights, into twelve places, and the exact coordinates of them (PlaceCalls). Assumes nothing.
use mathlib.Core.Path.{refl}
use Rattle.frame.proofs.Told.{handed_on}
use Rattle.points.proofs.PlaceCalls.{numbered_serves, number_found, weights_twelve, place_answers}
use Rattle.points.proofs.coordinates_of.Goals as goal

pub returns-in_err-weights_of : goal.returns-in_err-weights_of
returns-in_err-weights_of c =
    handed_on _ _ _ c.from_residual.ensures (number_found (numbered_serves _ _ _ refl) c.in_err-weights_of.ensures)

pub exact_of-requires : goal.exact_of-requires
exact_of-requires c = weights_twelve (numbered_serves _ _ _ refl) c.in_ok-weights_of.ensures refl

pub returns : goal.returns
returns c = place_answers (numbered_serves _ _ _ refl) c.in_ok-weights_of.ensures refl c.exact_of.ensures
