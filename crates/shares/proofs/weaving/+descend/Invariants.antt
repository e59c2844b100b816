-- `shares::weaving::descend` meets its contract; the measure is the degree that remains. Assumes nothing.
use Rattle.shares.proofs.weaving.+descend.Given as goal

abbrev pub decreases-descend : goal.decreases-descend
decreases-descend l = l.n
