-- The refusals in turn; the corner's weights over the list (Calls). Assumes nothing.
use mathlib.Core.Path.{refl, sym}
use native.Mathlib.Omega.{arith}
use Rattle.frame.proofs.Answering.{refusing, answering}
use Rattle.frame.proofs.Told.{number_some, handed_lent}
use Rattle.corners.proofs.Refused.{numbered_passes, weights_then}
use Rattle.twelves.proofs.weights_of.Goals as goal

pub returns-in_err-refuse_numbered : goal.returns-in_err-refuse_numbered
returns-in_err-refuse_numbered c =
    handed_lent _ _ _ c.from_residual.ensures ((weights_then _ _ _).first c.in_err-refuse_numbered.ensures (number_some _))

pub returns-then-out-lt-WEIGHTS : goal.returns-then-out-lt-WEIGHTS
returns-then-out-lt-WEIGHTS c =
    refusing ((weights_then _ _ _).nine (sym c.in_ok-refuse_numbered.ensures) (omega arith)) (λ e. omega arith)

pub write_corner-requires : goal.write_corner-requires
write_corner-requires c =
    let p = (numbered_passes _ _).0 (sym c.in_ok-refuse_numbered.ensures) in (p.0, p.1, omega arith)

pub returns : goal.returns
returns c =
    answering ((weights_then _ _ _).passes.1 (sym c.in_ok-refuse_numbered.ensures, omega arith))
    (refl, c.write_corner.ensures)
