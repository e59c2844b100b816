-- Four numbers, one after the other (Tallying, Adding). Assumes nothing.
use mathlib.Core.Path.{◌∙◌}
use mathlib.Core.List.{[], ◌∷◌}
use Prim.Native.Nat.{ℕ, ◌+◌}
use native.Mathlib.Omega.{arith}
use lib.IntN.{ℤ, pos}
use lib.ListN.{length, get_or}
use mir.Syntax.{w32}
use mir.ValLaws.{to_z-of_z}
use Rattle.net.specs.Division.{sum}
use Rattle.tables.specs.Tables.{none}
use Rattle.coarse.specs.Sums.{present}
use Rattle.coarse.proofs.Adding.{counting, summing, of_four}
use Rattle.coarse.proofs.Tallying.{read}
use Rattle.coarse.proofs.tally_from.Goals as goal

pub returns : goal.returns
returns c =
    let list = c.args.list.now in
    let i = c.args.i in
    let at : ℕ → ℤ = λ k. get_or list k none in
    let count : ℤ → ℕ = λ x. length (present (x ∷ [])) in
    let total : ℤ → ℕ = λ x. sum (present (x ∷ [])) in
    let e1 = rw (to_z-of_z w32 (get_or list i (pos 0)) (record { sfits = c.tally_of-arg-1.given }))
    at c.tally_of-a.ensures in
    let e2 = rw (to_z-of_z w32 (get_or list (i + 1) (pos 0)) (record { sfits = c.tally_of-arg-2-1.given }))
    at c.tally_of-b.ensures in
    let e3 = rw (to_z-of_z w32 (get_or list (i + 2) (pos 0)) (record { sfits = c.tally_of-arg-3-1.given }))
    at c.tally_of-c.ensures in
    let e4 = rw (to_z-of_z w32 (get_or list (i + 3) (pos 0)) (record { sfits = c.tally_of-arg-4-1.given }))
    at c.tally_of-d.ensures in (
      (λ j. read count list i (omega arith) e1.0 j + read count list (i + 1) (omega arith) e2.0 j
          + read count list (i + 2) (omega arith) e3.0 j + read count list (i + 3) (omega arith) e4.0 j)
          ∙ of_four counting (at i) (at (i + 1)) (at (i + 2)) (at (i + 3)),
      (λ j. read total list i (omega arith) e1.1 j + read total list (i + 1) (omega arith) e2.1 j
          + read total list (i + 2) (omega arith) e3.1 j + read total list (i + 3) (omega arith) e4.1 j)
          ∙ of_four summing (at i) (at (i + 1)) (at (i + 2)) (at (i + 3)),
    )
