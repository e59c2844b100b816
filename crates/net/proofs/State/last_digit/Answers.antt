-- `net::State::last_digit` meets its contract: it hands the parities of the floor to `digit_by`. Assumes nothing.
use native.Mathlib.Numerals.{add-one}
use native.Mathlib.Omega.{arith}
use Rattle.net.proofs.State.last_digit.Goals as goal

pub overflow_add-x : goal.overflow_add-x
overflow_add-x c = omega (arith, rw c.in-Down.is at c.requires)

pub overflow_add-y : goal.overflow_add-y
overflow_add-y c = omega (arith, rw c.in-Down.is at c.requires)

pub returns-in-Up : goal.returns-in-Up
returns-in-Up c = simp c.in-Up.is c.digit_by.ensures

pub returns-in-Down : goal.returns-in-Down
returns-in-Down c = simp c.in-Down.is (simp add-one at c.digit_by-in-Down.ensures)
