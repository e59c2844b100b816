-- The harbour's refusal, then 9, then the bytes of the code (HarbourCalls). Assumes nothing.
use mathlib.Core.Path.{◌∙◌, refl}
use Prim.Native.Nat.{ℕ}
use native.Mathlib.Omega.{arith}
use Rattle.frame.proofs.Told.{number_some}
use Rattle.octets.proofs.Laying.{laid_one}
use Rattle.host_harbour.specs.Answers.{LargeBytes}
use Rattle.exports.proofs.Exporting.{handed_number}
use Rattle.host_harbour.proofs.HarbourCalls.{large_returns}
use Rattle.host_harbour.proofs.large.Goals as goal

pub returns-in_err-read : goal.returns-in_err-read
returns-in_err-read c =
    let a = c.args in
    handed_number (λ (k : ℕ). LargeBytes a.code a.out.now k a.out.now) _ _ c.from_residual.ensures
    ((large_returns _ _ c.in_err-read.ensures).refused (number_some _))

pub returns-then-out-lt8 : goal.returns-then-out-lt8
returns-then-out-lt8 c = (large_returns _ _ c.in_ok-read.ensures).short refl (omega arith)

pub returns : goal.returns
returns c =
    (large_returns _ _ c.in_ok-read.ensures).sent refl (omega arith) (c.put8.ensures ∙ laid_one 8 _ _)
