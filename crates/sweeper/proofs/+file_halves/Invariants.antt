-- By halves: what two parts leave is what the whole does (CountedParts). The measure is the length of the directions.
-- Assumes nothing.
use lib.ListN.{length}
use Rattle.sweeper.proofs.+file_halves.Given as goal

abbrev pub decreases-file_halves : goal.decreases-file_halves
decreases-file_halves l = length l.dirs.now
