-- Whether there are four (Passes). Assumes nothing.
use mathlib.Core.Path.{◌∙◌}
use Rattle.merging.proofs.Passes.{short, long}
use Rattle.merging.proofs.four.Goals as goal

pub returns-in_default : goal.returns-in_default
returns-in_default c = short c.args.d c.args.ranks.now c.in_default.len_below

pub returns-in-len4-up : goal.returns-in-len4-up
returns-in-len4-up c = c.in_row.ensures ∙ long c.args.d c.args.ranks.now c.in-len4-up.len_at_least
