-- `least_of` by recursion on m: the next word has a name's fields, and its place is the next round the corner
-- (WordSteps). Assumes nothing.
use Rattle.knots.proofs.rings.+least_of.Given as goal

abbrev pub decreases-least_of : goal.decreases-least_of
decreases-least_of l = l.m
