-- `shares::descent::descend` meets its contract; the measure is the degree that remains. Assumes nothing.
use Rattle.shares.proofs.descent.+descend.Given as goal

abbrev pub decreases-descend : goal.decreases-descend
decreases-descend l = l.n
