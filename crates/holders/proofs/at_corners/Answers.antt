-- Each is the one of the three that the table names. Assumes nothing.
use Rattle.holders.proofs.at_corners.Goals as goal

pub returns : goal.returns
returns c = cc
