-- The harbour's refusal, then 9, then the bytes of the small code (HarbourCalls). Assumes nothing.
use mathlib.Core.Path.{◌∙◌, refl}
use Prim.Native.Nat.{ℕ}
use native.Mathlib.Omega.{arith}
use Rattle.frame.proofs.Told.{number_some}
use Rattle.octets.proofs.Laying.{laid_one}
use Rattle.host_harbour.specs.Answers.{SmallBytes}
use Rattle.exports.proofs.Exporting.{handed_number}
use Rattle.host_harbour.proofs.HarbourCalls.{small_returns}
use Rattle.host_harbour.proofs.small.Goals as goal

pub returns-in_err-written : goal.returns-in_err-written
returns-in_err-written c =
    let a = c.args in
    handed_number (λ (k : ℕ). SmallBytes a.code a.out.now k a.out.now) _ _ c.from_residual.ensures
    ((small_returns _ _ c.in_err-written.ensures).refused (number_some _))

pub returns-then-out-lt4 : goal.returns-then-out-lt4
returns-then-out-lt4 c = (small_returns _ _ c.in_ok-written.ensures).short refl (omega arith)

pub returns : goal.returns
returns c =
    (small_returns _ _ c.in_ok-written.ensures).sent refl (omega arith) (c.put4.ensures ∙ laid_one 4 _ _)
