-- `shares::descent::least_child` meets its contract. Assumes nothing.
use Rattle.shares.proofs.LeastSteps.{step_1, step_2, step_3, step_0}
use Rattle.shares.proofs.descent.least_child.Goals as goal

pub returns-then-h-a : goal.returns-then-h-a
returns-then-h-a c = step_1 _ _ _ c.if-h-a.true

pub returns-then-h-b : goal.returns-then-h-b
returns-then-h-b c = step_2 _ _ _ c.if-h-a.false c.if-h-b.true

pub returns-then-h-c : goal.returns-then-h-c
returns-then-h-c c = step_3 _ _ _ c.if-h-a.false c.if-h-b.false c.if-h-c.true

pub returns : goal.returns
returns c = step_0 _ _ _ c.if-h-a.false c.if-h-b.false c.if-h-c.false
