-- The grid's refusal, then 9, then the eight bytes (Calls). Assumes nothing.
use mathlib.Core.Path.{◌∙◌, refl}
use Prim.Native.Nat.{ℕ}
use native.Mathlib.Omega.{arith}
use Rattle.frame.proofs.Told.{number_some}
use Rattle.octets.proofs.Laying.{laid_one}
use Rattle.exports.specs.Answers.{FileBytes}
use Rattle.exports.proofs.Exporting.{handed_number}
use Rattle.exports.proofs.Calls.{file_returns}
use Rattle.host_filing.proofs.file.Goals as goal

pub returns-in_err-code : goal.returns-in_err-code
returns-in_err-code c =
    let a = c.args in
    handed_number (λ (k : ℕ). FileBytes a.degree a.d a.out.now k a.out.now) _ _ c.from_residual.ensures
    ((file_returns _ _ _ c.in_err-code.ensures).refused (number_some _))

pub returns-then-out-lt8 : goal.returns-then-out-lt8
returns-then-out-lt8 c = (file_returns _ _ _ c.in_ok-code.ensures).short refl (omega arith)

pub returns : goal.returns
returns c =
    (file_returns _ _ _ c.in_ok-code.ensures).sent refl (omega arith) (c.put8.ensures ∙ laid_one 8 _ _)
