-- The name of the crate opposites, handed on (OppositeCalls). Assumes nothing.
use Prim.Native.Nat.{ℕ}
use Rattle.frame.proofs.Told.{number_some}
use Rattle.exports.proofs.Exporting.{handed_number, refused_on}
use Rattle.host_opposites.specs.Answers.{OppositeNameBytes}
use Rattle.host_opposites.proofs.OppositeCalls.{name_handed}
use Rattle.host_opposites.proofs.opposite_name.Goals as goal

pub returns-in_err-corner : goal.returns-in_err-corner
returns-in_err-corner c =
    let a = c.args in
    handed_number (λ (k : ℕ). OppositeNameBytes a.name a.out.now k a.out.now) _ _ c.from_residual.ensures
    (name_handed _ _ c.in_err-corner.ensures (refused_on _ (number_some _)))

pub returns : goal.returns
returns c = name_handed _ _ c.in_ok-corner.ensures c.put_word.ensures
