-- 0x, and then the digits. Assumes nothing.
use mathlib.Core.Path.{refl}
use Rattle.lines.proofs.Appending.{appended_after}
use Rattle.lines.specs.Writing.{hexadecimal}
use Rattle.lines.proofs.text.Text.push_hexadecimal.Goals as goal

pub returns-clause-text : goal.returns-clause-text
unfolding hexadecimal
returns-clause-text g c = appended_after _ _ _ refl c.push_bytes.ensures.text c.push_digits.ensures.text
