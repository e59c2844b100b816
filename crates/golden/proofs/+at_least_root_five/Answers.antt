-- `golden::at_least_root_five` meets its contract. The measure is `b`. Assumes nothing.
use Rattle.golden.proofs.RootFive.{ge_thrice, le_twice, ge_half_five, turn}
use native.Mathlib.Omega.{arith}
use Rattle.golden.proofs.+at_least_root_five.Goals as goal

pub returns-then-a-b2 : goal.returns-then-a-b2
returns-then-a-b2 t c = ge_thrice _ _ (omega arith)

pub returns-then-a-b2-2 : goal.returns-then-a-b2-2
returns-then-a-b2-2 t c = le_twice _ _ (omega arith) (omega arith)

pub returns-then-a2-b5 : goal.returns-then-a2-b5
returns-then-a2-b5 t c = ge_half_five _ _ (omega arith)

pub returns : goal.returns
returns t c = turn _ _ _ (omega arith) (omega arith) c.at_least_root_five.ensures
