-- A dot and the decimals, or nothing. Assumes nothing.
use Rattle.lines.proofs.Appending.{appended_none, appended_after}
use Rattle.lines.proofs.Spelling.{fraction_none, fraction_some}
use Rattle.lines.proofs.text.Text.push_fraction.Goals as goal

pub returns-then-f-ne0-clause-text : goal.returns-then-f-ne0-clause-text
returns-then-f-ne0-clause-text g c =
    let a = c.args in
    appended_after _ _ _ (fraction_some a.k a.m a.f c.if-f-ne0.true) c.push.ensures.text c.push_places.ensures.text

pub returns-else-f-ne0-clause-text : goal.returns-else-f-ne0-clause-text
returns-else-f-ne0-clause-text g c =
    let a = c.args in
    appended_none _ (fraction_none a.k a.m a.f c.if-f-ne0.false)
