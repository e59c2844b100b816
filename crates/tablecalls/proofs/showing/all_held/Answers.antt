-- What is not refused has a degree from 0 to 6. Assumes nothing.
use mathlib.Core.Path.{refl}
use Rattle.tables.proofs.Refused.{large}
use Rattle.tablecalls.proofs.showing.all_held.Goals as goal

pub all-all-requires : goal.all-all-requires
all-all-requires c = (large _ c.in_ok-refuse_degree.ensures).small refl
