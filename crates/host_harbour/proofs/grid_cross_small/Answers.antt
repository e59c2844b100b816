-- The number of the result. Assumes nothing.
use mathlib.Core.Path.{sym, subst}
use Prim.Native.Nat.{ℕ}
use Rattle.harbour.specs.Small.{small_code}
use Rattle.host_harbour.specs.Answers.{CrossSmallBytes}
use Rattle.host_harbour.proofs.grid_cross_small.Goals as goal

pub returns : goal.returns
returns c =
    let a = c.args in
    subst (λ (k : ℕ). CrossSmallBytes (small_code a.word) a.edge a.out.now k c.cross_small.new.out) (sym c.number_of.ensures)
    c.cross_small.ensures
