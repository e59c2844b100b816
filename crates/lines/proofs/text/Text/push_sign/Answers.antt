-- A minus, or nothing. Assumes nothing.
use Rattle.lines.proofs.Appending.{appended_none, appended_as}
use Rattle.lines.proofs.Minus.{minus_signed, plus_unsigned}
use Rattle.lines.proofs.text.Text.push_sign.Goals as goal

pub returns-then-x-lt0-clause-text : goal.returns-then-x-lt0-clause-text
returns-then-x-lt0-clause-text g c =
    appended_as _ (minus_signed c.args.x c.ranges.x c.if-x-lt0.true) c.push.ensures.text

pub returns-else-x-lt0-clause-text : goal.returns-else-x-lt0-clause-text
returns-else-x-lt0-clause-text g c = appended_none _ (plus_unsigned c.args.x c.ranges.x c.if-x-lt0.false)
