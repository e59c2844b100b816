-- The least name round the corner (corners' `made_named`). Assumes nothing.
use mathlib.Core.Path.{◌∙◌, refl, ap}
use Prim.Native.Nat.{ℕ, ◌+◌}
use native.Mathlib.Omega.{arith}
use Rattle.net.specs.Corners.{name_of}
use Rattle.net.specs.Means.Walks.{least_name, place_at}
use Rattle.net.proofs.WordSteps.{made_fields, made_fits}
use Rattle.corners.proofs.Calls.{made_named}
use Rattle.paper.proofs.name_at.Goals as goal

pub overflow_add-word_of : goal.overflow_add-word_of
overflow_add-word_of c =
    let fits = made_fits _ c.args.n _ _ c.requires.0 c.requires.1 c.requires.2 c.requires.3 in
    rw c.word_of.ensures (omega (arith, fits))

pub least_name-requires : goal.least_name-requires
least_name-requires c =
    rw c.word_of.ensures (made_fields _ c.args.n _ _ c.requires.0 c.requires.1 c.requires.2 c.requires.3)

pub returns : goal.returns
returns c =
    let a = c.args in
    made_named a.s a.n a.v a.i c.requires.0 c.requires.1 c.requires.2 c.requires.3 refl
    (c.least_name.ensures ∙ ap (λ (w : ℕ). name_of (least_name 5 (place_at (w + a.i)))) c.word_of.ensures)
