-- The number of the result. Assumes nothing.
use mathlib.Core.Path.{sym, subst}
use Prim.Native.Nat.{ℕ}
use Rattle.net.specs.Corners.{name_of}
use Rattle.host_opposites.specs.Answers.{OppositeNameBytes}
use Rattle.host_opposites.proofs.grid_opposite_name.Goals as goal

pub returns : goal.returns
returns c =
    let a = c.args in
    subst (λ (k : ℕ). OppositeNameBytes (name_of a.name) a.out.now k c.opposite_name.new.out) (sym c.number_of.ensures) c.opposite_name.ensures
