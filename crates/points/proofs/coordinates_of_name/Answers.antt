-- The weights, into twelve places, and the exact coordinates of them (PlaceCalls). Assumes nothing.
use mathlib.Core.Path.{refl}
use Rattle.frame.proofs.Told.{handed_on}
use Rattle.points.proofs.PlaceCalls.{name_serves, number_found, weights_twelve, place_answers}
use Rattle.points.proofs.coordinates_of_name.Goals as goal

pub returns-in_err-weights_of_name : goal.returns-in_err-weights_of_name
returns-in_err-weights_of_name c =
    handed_on _ _ _ c.from_residual.ensures (number_found (name_serves _ _ refl) c.in_err-weights_of_name.ensures)

pub exact_of-requires : goal.exact_of-requires
exact_of-requires c = weights_twelve (name_serves _ _ refl) c.in_ok-weights_of_name.ensures refl

pub returns : goal.returns
returns c = place_answers (name_serves _ _ refl) c.in_ok-weights_of_name.ensures refl c.exact_of.ensures
