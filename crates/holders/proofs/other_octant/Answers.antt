-- One sign turned over, by the kind. Assumes nothing.
use mathlib.Core.Path.{refl}
use Rattle.seats.proofs.EdgeSides.{other_last}
use Rattle.holders.proofs.other_octant.Goals as goal

pub returns-in-1 : goal.returns-in-1
returns-in-1 c = rw c.in-1.is refl

pub returns-in-2 : goal.returns-in-2
returns-in-2 c = rw c.in-2.is refl

pub returns-in_default : goal.returns-in_default
returns-in_default c = other_last _ _ c.in_default.in_default-own.rest.0.1 c.in_default.in_default-own.rest.1
