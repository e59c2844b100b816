-- The number of the result. Assumes nothing.
use mathlib.Core.Path.{sym, subst}
use Prim.Native.Nat.{ℕ}
use Rattle.mending.specs.Answers.{lists}
use Rattle.host_cells.specs.Answers.{MendBytes}
use Rattle.host_cells.proofs.grid_mend_cells.Goals as goal

pub returns : goal.returns
returns c =
    let a = c.args in
    let m = c.mend.new in
    subst (λ (k : ℕ). MendBytes a.list.now (lists a.mended.now a.words.now a.reasons.now) a.out.now k
    (lists m.mended m.words m.reasons, m.out)) (sym c.number_of.ensures) c.mend.ensures
