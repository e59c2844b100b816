-- The number of the result, of the direction of the three numbers. Assumes nothing.
use mathlib.Core.Path.{sym, subst}
use Prim.Native.Nat.{ℕ}
use mir.Syntax.{w32}
use mir.ValLaws.{to_z-of_z}
use Rattle.grid.specs.Writing.{towards}
use Rattle.host_harbour.specs.Answers.{FileSmallBytes}
use Rattle.host_harbour.proofs.grid_file_small.Goals as goal

pub returns : goal.returns
returns c =
    let a = c.args in
    let f = c.ranges in
    subst (λ (k : ℕ). FileSmallBytes a.degree (towards a.x a.y a.z) a.out.now k c.file_small.new.out) (sym c.number_of.ensures)
    (rw (to_z-of_z w32 a.x f.x, to_z-of_z w32 a.y f.y, to_z-of_z w32 a.z f.z) at c.file_small.ensures)
