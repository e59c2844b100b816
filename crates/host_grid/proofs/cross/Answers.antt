-- What crossing refuses, then 9, then the bytes of the neighbour's code and of the edge there (Calls). Assumes nothing.
use mathlib.Core.Path.{◌∙◌, refl, sym}
use mathlib.Core.List.{[], ◌∷◌}
use Prim.Native.Nat.{ℕ}
use native.Mathlib.Omega.{arith}
use Rattle.frame.proofs.Told.{number_some}
use Rattle.octets.proofs.Laying.{laid_one, laid_next}
use Rattle.corners.proofs.Refused.{numbered_passes}
use Rattle.exports.specs.Answers.{CrossBytes}
use Rattle.exports.proofs.Exporting.{handed_number}
use Rattle.exports.proofs.Calls.{step_returns}
use Rattle.host_grid.proofs.cross.Goals as goal

pub returns-in_err-refuse_numbered : goal.returns-in_err-refuse_numbered
returns-in_err-refuse_numbered c =
    let a = c.args in
    handed_number (λ (k : ℕ). CrossBytes a.code a.edge a.out.now k a.out.now) _ _ c.from_residual.ensures
    ((step_returns _ _ _ c.in_err-refuse_numbered.ensures refl).refused (number_some _))

pub returns-then-out-lt16 : goal.returns-then-out-lt16
returns-then-out-lt16 c =
    (step_returns _ _ _ c.in_ok-refuse_numbered.ensures refl).short refl (omega arith)

pub neighbour-there-requires : goal.neighbour-there-requires
neighbour-there-requires c = (numbered_passes _ _).0 (sym c.in_ok-refuse_numbered.ensures)

pub returns : goal.returns
returns c =
    (step_returns _ _ _ c.in_ok-refuse_numbered.ensures c.neighbour-there.ensures).sent refl (omega arith)
    (laid_next 8 _ (_ ∷ []) _ c.put8.new.out c.put8-2.new.out c.put8.ensures
    (c.put8-2.ensures ∙ laid_one 8 _ _))
