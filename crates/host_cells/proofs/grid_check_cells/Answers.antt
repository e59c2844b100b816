-- The number of the result. Assumes nothing.
use mathlib.Core.Path.{sym, subst}
use Prim.Native.Nat.{ℕ}
use Rattle.host_cells.specs.Answers.{CheckBytes}
use Rattle.host_cells.proofs.grid_check_cells.Goals as goal

pub returns : goal.returns
returns c =
    let a = c.args in
    subst (λ (k : ℕ). CheckBytes a.list.now a.out.now k c.check.new.out) (sym c.number_of.ensures) c.check.ensures
