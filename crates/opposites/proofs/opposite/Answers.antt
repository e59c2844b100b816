-- What checking the code refuses; else its opposite, seen from corner 1 (Calls). Assumes nothing.
use mathlib.Core.Path.{sym}
use native.Mathlib.Omega.{arith}
use Rattle.frame.proofs.Told.{handed_on}
use Rattle.opposites.proofs.Calls.{opposite_answers}
use Rattle.opposites.proofs.opposite.Goals as goal

pub returns-in_err-check : goal.returns-in_err-check
returns-in_err-check c = handed_on _ _ _ c.from_residual.ensures c.in_err-check.ensures

pub opposite-there-requires : goal.opposite-there-requires
opposite-there-requires c = (sym c.in_ok-check.ensures, omega arith)

pub returns : goal.returns
returns c = opposite_answers _ (sym c.in_ok-check.ensures) c.opposite-there.ensures.0
