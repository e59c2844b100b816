-- The tests in turn. Assumes nothing.
use Rattle.std.proofs.Common.{arith}
use Rattle.std.proofs.lemmas.Bool.Decides.{nat_tests}
use Rattle.frame.specs.Refusals.{first_of}
use Rattle.judging.specs.Means.Turns.{why_next}
use Rattle.judging.proofs.why_next.Goals as goal

pub returns-then-key-last : goal.returns-then-key-last
unfolding why_next first_of
returns-then-key-last c = grind (arith, nat_tests)

pub returns-then-key-end : goal.returns-then-key-end
unfolding why_next first_of
returns-then-key-end c = grind (arith, nat_tests)

pub returns : goal.returns
unfolding why_next first_of
returns c = grind (arith, nat_tests)
