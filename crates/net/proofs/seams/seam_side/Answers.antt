-- `seam_side` is `seam_of` at the fields of the side. Assumes nothing.
use Rattle.net.specs.Means.Seams.{seam_side}
use Rattle.net.proofs.seams.seam_side.Goals as goal

pub returns : goal.returns
unfolding seam_side
returns c = c.seam_of.ensures
