-- The digits beyond the degree are the bits between the degree's digits and the low bits. Assumes nothing.
use Rattle.words.proofs.beyond_of.Goals as goal

pub returns : goal.returns
returns c = cc
