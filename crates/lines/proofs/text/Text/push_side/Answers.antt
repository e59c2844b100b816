-- One digit after the other. Assumes nothing.
use mathlib.Core.Path.{refl}
use Rattle.lines.proofs.Appending.{appended_after}
use Rattle.lines.specs.Writing.{side}
use Rattle.lines.proofs.text.Text.push_side.Goals as goal

pub returns-clause-text : goal.returns-clause-text
unfolding side
returns-clause-text g c =
    appended_after _ _ _ refl (appended_after _ _ _ refl c.push_digits.ensures.text c.push_digits-2.ensures.text) c.push_digits-3.ensures.text
