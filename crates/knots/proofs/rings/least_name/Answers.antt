-- `knots::rings::least_name` meets its contract: a word with a name's fields has a degree of at most 24 (WordSteps).
-- Assumes nothing.
use mathlib.Core.Path.{ap}
use Rattle.net.specs.Corners.{name_of}
use Rattle.net.proofs.WordSteps.{low_degree}
use Rattle.knots.proofs.rings.least_name.Goals as goal

pub unit_of-requires : goal.unit_of-requires
unit_of-requires c = low_degree c.args.r.0 c.requires

pub returns : goal.returns
returns c = ap name_of c.least_of.ensures
