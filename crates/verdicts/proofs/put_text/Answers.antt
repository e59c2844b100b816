-- `verdicts::put_text` meets its contract (Holding). Assumes nothing.
use mathlib.Core.Path.{◌∙◌, ap}
use Rattle.lines.proofs.Appending.{appended_as}
use Rattle.verdicts.specs.Program.{verdict_text}
use Rattle.verdicts.proofs.Holding.{text_bad, text_long, text_checked}
use Rattle.verdicts.proofs.put_text.Goals as goal

pub returns-then-size-ne0-clause-text : goal.returns-then-size-ne0-clause-text
returns-then-size-ne0-clause-text g c file h = appended_as _ (text_bad h c.if-size-ne0.true) c.push_bytes.ensures.text

pub returns-then-size-gt4096-clause-text : goal.returns-then-size-gt4096-clause-text
returns-then-size-gt4096-clause-text g c file h =
    appended_as _ (text_long h c.if-size-ne0.false c.if-size-gt4096.true) c.push_bytes-then-size-gt4096.ensures.text

pub returns-clause-text : goal.returns-clause-text
returns-clause-text g c file h =
    appended_as _ (ap verdict_text c.check_words.ensures ∙ text_checked h c.if-size-ne0.false c.if-size-gt4096.false) c.put_verdict.ensures.text
