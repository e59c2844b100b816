-- `notation::turned_by`: the part is 0, or it is not. Assumes nothing.
use Rattle.notation.proofs.Computing.{turned_zero, turned_else}
use Rattle.notation.proofs.turned_by.Goals as goal

pub returns-then-r-eq0 : goal.returns-then-r-eq0
returns-then-r-eq0 c = turned_zero _ _ c.if-r-eq0.true

pub returns-else-r-eq0 : goal.returns-else-r-eq0
returns-else-r-eq0 c = turned_else _ _ c.if-r-eq0.false
