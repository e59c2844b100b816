-- `net::State::parent` meets its contract: half of the floor, by the four cases of `halves`. Assumes nothing.
use Rattle.net.proofs.StateCode.{half_down, half_up}
use Rattle.net.proofs.State.parent.Goals as goal

pub returns-then-d-eq0 : goal.returns-then-d-eq0
returns-then-d-eq0 c = simp (c.if-d-eq0.true, c.in-Up.is)

pub returns-then-d-eq0-2 : goal.returns-then-d-eq0-2
returns-then-d-eq0-2 c = simp (c.if-d-eq0-2.true, c.in-Down.is)

pub returns-else-d-eq0 : goal.returns-else-d-eq0
returns-else-d-eq0 c = rw c.in-Up.is (half_up _ _ _ _ c.if-d-eq0.false)

pub returns-else-d-eq0-2 : goal.returns-else-d-eq0-2
returns-else-d-eq0-2 c = rw c.in-Down.is (half_down _ _ _ _ c.if-d-eq0-2.false)
