-- `corner_vertex` is `side_corner` at the fields of the side. Assumes nothing.
use Rattle.net.specs.Sides.{corner_vertex}
use Rattle.net.proofs.seams.corner_vertex.Goals as goal

pub returns : goal.returns
unfolding corner_vertex
returns c = c.side_corner.ensures
