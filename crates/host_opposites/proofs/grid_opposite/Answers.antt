-- The number of the result. Assumes nothing.
use mathlib.Core.Path.{sym, subst}
use Prim.Native.Nat.{ℕ}
use Rattle.words.specs.Family.{code_of}
use Rattle.host_opposites.specs.Answers.{OppositeBytes}
use Rattle.host_opposites.proofs.grid_opposite.Goals as goal

pub returns : goal.returns
returns c =
    let a = c.args in
    subst (λ (k : ℕ). OppositeBytes (code_of a.code) a.out.now k c.opposite.new.out) (sym c.number_of.ensures) c.opposite.ensures
