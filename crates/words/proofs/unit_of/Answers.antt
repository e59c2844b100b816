-- A digit of two bits for each degree, the first of them below 2^54. Assumes nothing.
use Rattle.words.proofs.unit_of.Goals as goal

pub returns : goal.returns
returns c = cc
