-- The number of the result. Assumes nothing.
use mathlib.Core.Path.{sym, subst}
use Prim.Native.Nat.{ℕ}
use Rattle.host_sweeps.specs.Answers.{SweepBytes}
use Rattle.host_sweeps.proofs.grid_sweep.Goals as goal

pub returns : goal.returns
returns c =
    let a = c.args in
    subst (λ (k : ℕ). SweepBytes a.degree a.dirs.now a.codes.now a.out.now k (c.sweep.new.codes, c.sweep.new.out))
    (sym c.number_of.ensures) c.sweep.ensures
