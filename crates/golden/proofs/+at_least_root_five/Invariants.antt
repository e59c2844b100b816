-- `golden::at_least_root_five` meets its contract. The measure is `b`. Assumes nothing.
use Rattle.golden.proofs.+at_least_root_five.Given as goal

abbrev pub decreases-at_least_root_five : goal.decreases-at_least_root_five
decreases-at_least_root_five l = l.b
