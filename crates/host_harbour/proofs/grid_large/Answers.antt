-- The number of the result. Assumes nothing.
use mathlib.Core.Path.{sym, subst}
use Prim.Native.Nat.{ℕ}
use Rattle.harbour.specs.Small.{small_code}
use Rattle.host_harbour.specs.Answers.{LargeBytes}
use Rattle.host_harbour.proofs.grid_large.Goals as goal

pub returns : goal.returns
returns c =
    let a = c.args in
    subst (λ (k : ℕ). LargeBytes (small_code a.word) a.out.now k c.large.new.out) (sym c.number_of.ensures)
    c.large.ensures
