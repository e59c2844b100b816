-- Twenty digits are enough. Assumes nothing.
use Rattle.lines.specs.Writing.{decimal}
use Rattle.lines.proofs.text.Text.push_decimal.Goals as goal

pub returns-clause-text : goal.returns-clause-text
unfolding decimal
returns-clause-text g c = c.push_decimals.ensures.text
