-- A quarter of the triangle's own (ChildPlaces). Assumes nothing.
use Rattle.words.proofs.ChildPlaces.{parent_place}
use Rattle.ordering.proofs.parent_place.Goals as goal

pub returns : goal.returns
returns c = parent_place c.args.t c.requires.0 c.requires.1 c.place_of.ensures
