-- `notation::parts_of` by recursion on n: the last digit after the others. Assumes nothing.
use Rattle.notation.proofs.+parts_of.Given as goal

abbrev pub decreases-parts_of : goal.decreases-parts_of
decreases-parts_of l = l.n
