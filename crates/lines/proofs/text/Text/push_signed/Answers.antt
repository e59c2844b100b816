-- The sign, and then the size. Assumes nothing.
use Rattle.lines.proofs.Appending.{appended_after}
use Rattle.lines.proofs.Spelling.{signed_is}
use Rattle.lines.proofs.text.Text.push_signed.Goals as goal

pub returns-clause-text : goal.returns-clause-text
returns-clause-text g c =
    appended_after _ _ _ (signed_is c.args.x _ c.ranges.x c.unsigned_abs.ensures.value) c.push_sign.ensures.text c.push_decimal.ensures.text
