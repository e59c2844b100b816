-- The number of the result. Assumes nothing.
use mathlib.Core.Path.{sym, subst}
use Prim.Native.Nat.{ℕ}
use Rattle.words.specs.Family.{code_of}
use Rattle.exports.specs.Answers.{CrossBytes}
use Rattle.host_grid.proofs.grid_cross.Goals as goal

pub returns : goal.returns
returns c =
    let a = c.args in
    subst (λ (k : ℕ). CrossBytes (code_of a.code) a.edge a.out.now k c.cross.new.out) (sym c.number_of.ensures)
    c.cross.ensures
