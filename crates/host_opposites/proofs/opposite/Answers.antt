-- The code of the crate opposites, handed on (OppositeCalls). Assumes nothing.
use Prim.Native.Nat.{ℕ}
use Rattle.frame.proofs.Told.{number_some}
use Rattle.exports.proofs.Exporting.{handed_number, refused_on}
use Rattle.host_opposites.specs.Answers.{OppositeBytes}
use Rattle.host_opposites.proofs.OppositeCalls.{code_handed}
use Rattle.host_opposites.proofs.opposite.Goals as goal

pub returns-in_err-triangle : goal.returns-in_err-triangle
returns-in_err-triangle c =
    let a = c.args in
    handed_number (λ (k : ℕ). OppositeBytes a.code a.out.now k a.out.now) _ _ c.from_residual.ensures
    (code_handed _ _ c.in_err-triangle.ensures (refused_on _ (number_some _)))

pub returns : goal.returns
returns c = code_handed _ _ c.in_ok-triangle.ensures c.put_word.ensures
