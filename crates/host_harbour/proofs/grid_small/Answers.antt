-- The number of the result. Assumes nothing.
use mathlib.Core.Path.{sym, subst}
use Prim.Native.Nat.{ℕ}
use Rattle.words.specs.Family.{code_of}
use Rattle.host_harbour.specs.Answers.{SmallBytes}
use Rattle.host_harbour.proofs.grid_small.Goals as goal

pub returns : goal.returns
returns c =
    let a = c.args in
    subst (λ (k : ℕ). SmallBytes (code_of a.code) a.out.now k c.small.new.out) (sym c.number_of.ensures)
    c.small.ensures
