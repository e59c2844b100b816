-- `notation::directions_of` by recursion on n: the last digit after the others. Assumes nothing.
use Rattle.notation.proofs.+directions_of.Given as goal

abbrev pub decreases-directions_of : goal.decreases-directions_of
decreases-directions_of l = l.n
