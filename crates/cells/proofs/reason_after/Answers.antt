-- The tests in turn. Assumes nothing.
use Rattle.std.proofs.Common.{arith}
use Rattle.std.proofs.lemmas.Bool.Decides.{nat_tests}
use Rattle.frame.specs.Refusals.{first_of}
use Rattle.cells.specs.Means.Ranks.{reason_by}
use Rattle.cells.proofs.reason_after.Goals as goal

pub returns-then-own-last : goal.returns-then-own-last
unfolding reason_by first_of
returns-then-own-last c = grind (arith, nat_tests)

pub returns-then-own-last-2 : goal.returns-then-own-last-2
unfolding reason_by first_of
returns-then-own-last-2 c = grind (arith, nat_tests)

pub returns-then-own-last-3 : goal.returns-then-own-last-3
unfolding reason_by first_of
returns-then-own-last-3 c = grind (arith, nat_tests)

pub returns : goal.returns
unfolding reason_by first_of
returns c = grind (arith, nat_tests)
