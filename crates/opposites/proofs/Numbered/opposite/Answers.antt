-- The word renumbered on the opposite side (Calls). Assumes nothing.
use mathlib.Core.Path.{◌∙◌, ap}
use native.Mathlib.Omega.{arith}
use Rattle.net.specs.Sides.{IsSide}
use Rattle.net.proofs.WordSteps.{numbered_fields, numbered_fits, side_is}
use Rattle.filing.specs.Means.Opposites.{opposite_side}
use Rattle.filing.proofs.OppositeCorners.{opposite_side_lem}
use Rattle.opposites.proofs.Calls.{code_there, number_there}
use Rattle.opposites.proofs.Numbered.opposite.Goals as goal
use Rattle.opposites.proofs.Numbered.opposite.Lts as lts
use Rattle.opposites.proofs.Numbered.opposite.Reads as reads
use Rattle.opposites.proofs.Numbered.opposite.Tie as tie

abbrev After-side_of : Type 0
After-side_of = lts.After-side_of tie.the-claims reads.Pre reads.Post

pub overflow_add-w : goal.overflow_add-w
overflow_add-w c =
    omega (arith, numbered_fits c.args.self.code c.requires.0 c.args.self.number c.requires.1)

a_side : (c : After-side_of) → IsSide c.side_of.result
a_side c =
    rw c.side_of.ensures
    (side_is _ (numbered_fields c.args.self.code c.requires.0 c.args.self.number c.requires.1))

pub opposite_side-requires : goal.opposite_side-requires
opposite_side-requires c = a_side c

pub renumbered-r-requires : goal.renumbered-r-requires
renumbered-r-requires c = (
  numbered_fields c.args.self.code c.requires.0 c.args.self.number c.requires.1,
  omega arith,
  rw c.opposite_side.ensures (opposite_side_lem _ (a_side c.before)).1,
)

pub returns : goal.returns
returns c =
    let t = c.args.self.code in
    let k = c.args.self.number in
    let e = c.opposite_side.ensures ∙ ap opposite_side c.side_of.ensures in (
      code_there t k c.requires.0 c.requires.1 e c.renumbered-r.ensures,
      number_there t k c.requires.0 c.requires.1 e c.renumbered-r.ensures,
    )
