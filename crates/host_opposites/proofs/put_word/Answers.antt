-- 9, or the eight bytes (Exporting). Assumes nothing.
use mathlib.Core.Path.{◌∙◌, refl}
use native.Mathlib.Omega.{arith}
use Rattle.octets.proofs.Laying.{laid_one}
use Rattle.exports.proofs.Exporting.{sent_on, short_on}
use Rattle.host_opposites.proofs.put_word.Goals as goal

pub returns-then-out-lt8 : goal.returns-then-out-lt8
returns-then-out-lt8 c = short_on _ refl (omega arith)

pub returns : goal.returns
returns c = sent_on _ refl (omega arith) (c.put8.ensures ∙ laid_one 8 _ _)
