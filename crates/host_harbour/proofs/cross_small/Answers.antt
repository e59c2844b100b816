-- The harbour's refusal, then 9, then the bytes of the small code and of the edge (HarbourCalls). Assumes nothing.
use mathlib.Core.Path.{◌∙◌, refl}
use mathlib.Core.List.{[], ◌∷◌}
use Prim.Native.Nat.{ℕ}
use native.Mathlib.Omega.{arith}
use Rattle.frame.proofs.Told.{number_some}
use Rattle.frame.proofs.Lengths.{two_parts}
use Rattle.octets.specs.Bytes.{bytes_of, bytes}
use Rattle.octets.proofs.Laying.{bytes_of_long, laid_one}
use Rattle.host_harbour.specs.Answers.{CrossSmallBytes}
use Rattle.exports.proofs.Exporting.{handed_number}
use Rattle.host_harbour.proofs.HarbourCalls.{cross_returns}
use Rattle.host_harbour.proofs.cross_small.Goals as goal

pub returns-in_err-step : goal.returns-in_err-step
returns-in_err-step c =
    let a = c.args in
    handed_number (λ (k : ℕ). CrossSmallBytes a.code a.edge a.out.now k a.out.now) _ _ c.from_residual.ensures
    ((cross_returns _ _ _ c.in_err-step.ensures).refused (number_some _))

pub returns-then-out-lt12 : goal.returns-then-out-lt12
returns-then-out-lt12 c = (cross_returns _ _ _ c.in_ok-step.ensures).short refl (omega arith)

pub returns : goal.returns
returns c =
    let a = c.in_ok-step.step in
    (cross_returns _ _ _ c.in_ok-step.ensures).sent refl (omega arith)
    (two_parts c.args.out.now c.put4.new.out c.put8.new.out (bytes_of 4 a.code.0) (bytes 8 (a.edge ∷ [])) 4
    (bytes_of_long 4 a.code.0) c.put4.ensures (c.put8.ensures ∙ laid_one 8 _ _))
