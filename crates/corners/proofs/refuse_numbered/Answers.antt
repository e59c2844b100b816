-- The code's refusal first, then 5 (Calls). Assumes nothing.
use mathlib.Core.Path.{sym}
use native.Mathlib.Omega.{arith}
use Rattle.frame.proofs.Told.{number_some, told_handed}
use Rattle.corners.proofs.Refused.{numbered_passes}
use Rattle.corners.proofs.Calls.{numbered_code, numbered_low, numbered_high}
use Rattle.corners.proofs.refuse_numbered.Goals as goal

pub returns-in_err-check : goal.returns-in_err-check
returns-in_err-check c =
    told_handed _ _ c.from_residual.ensures (numbered_code _ _ c.in_err-check.ensures (number_some _))

pub returns-then-i-eq0 : goal.returns-then-i-eq0
returns-then-i-eq0 c = numbered_low _ _ (sym c.in_ok-check.ensures) (omega arith)

pub returns-then-i-gt3 : goal.returns-then-i-gt3
returns-then-i-gt3 c = numbered_high _ _ (sym c.in_ok-check.ensures) (omega arith)

pub returns : goal.returns
returns c = sym ((numbered_passes _ _).1 (sym c.in_ok-check.ensures, omega arith))
