-- The harbour's refusal, then 9, then the bytes of the small code (HarbourCalls). Assumes nothing.
use mathlib.Core.Path.{◌∙◌, refl}
use Prim.Native.Nat.{ℕ}
use native.Mathlib.Omega.{arith}
use Rattle.frame.proofs.Told.{number_some}
use Rattle.octets.proofs.Laying.{laid_one}
use Rattle.host_harbour.specs.Answers.{FileSmallBytes}
use Rattle.exports.proofs.Exporting.{handed_number}
use Rattle.host_harbour.proofs.HarbourCalls.{file_returns}
use Rattle.host_harbour.proofs.file_small.Goals as goal

pub returns-in_err-filed : goal.returns-in_err-filed
returns-in_err-filed c =
    let a = c.args in
    handed_number (λ (k : ℕ). FileSmallBytes a.degree a.d a.out.now k a.out.now) _ _ c.from_residual.ensures
    ((file_returns _ _ _ c.in_err-filed.ensures).refused (number_some _))

pub returns-then-out-lt4 : goal.returns-then-out-lt4
returns-then-out-lt4 c = (file_returns _ _ _ c.in_ok-filed.ensures).short refl (omega arith)

pub returns : goal.returns
returns c =
    (file_returns _ _ _ c.in_ok-filed.ensures).sent refl (omega arith) (c.put4.ensures ∙ laid_one 4 _ _)
