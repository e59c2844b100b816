-- `net::states::digit_by` meets its contract: each case of the two numbers is one of `parity`. Assumes nothing.
use Rattle.net.proofs.StateCode.{parity_0, parity_1, parity_2}
use Rattle.net.proofs.states.digit_by.Goals as goal

pub returns-in_default-q : goal.returns-in_default-q
returns-in_default-q c = parity_2 _ _ c.in-0.is c.in_default-q.in_default-q-own.rest.1

pub returns-in-0-q-2 : goal.returns-in-0-q-2
returns-in-0-q-2 c = parity_1 _ _ c.in_default.in_default-own.rest.1 c.in-0-q-2.is

pub returns-in_default-q-2 : goal.returns-in_default-q-2
returns-in_default-q-2 c = parity_0 _ _ c.in_default.in_default-own.rest.1 c.in_default-q-2.in_default-q-2-own.rest.1
