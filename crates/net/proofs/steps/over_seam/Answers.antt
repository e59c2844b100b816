-- `net::steps::over_seam` meets its contract: renumbered, on the side across the seam. Assumes nothing.
use mathlib.Core.Path.{◌∙◌, ap}
use Prim.Native.Nat.{ℕ}
use Rattle.net.specs.Sides.{IsSide}
use Rattle.net.specs.Means.Seams.{seam_kept, seam_side}
use Rattle.net.specs.Means.Walks.{name_at, place_at, renumbered}
use Rattle.net.proofs.SharedVertices.{seam_kept_lem, seam_side_lem}
use Rattle.net.proofs.WordSteps.{side_here, side_is}
use Rattle.net.proofs.steps.over_seam.Goals as goal
use Rattle.net.proofs.steps.over_seam.Lts as lts
use Rattle.net.proofs.steps.over_seam.Reads as reads
use Rattle.net.proofs.steps.over_seam.Tie as tie

abbrev After-side_of-s : Type 0
After-side_of-s = lts.After-side_of tie.the-claims reads.Pre reads.Post

a_side : (c : After-side_of-s) → IsSide c.side_of-s.result
a_side c = rw c.side_of-s.ensures (side_is c.args.r c.requires.0)

pub seam_side-requires : goal.seam_side-requires
seam_side-requires c = (a_side c.before).1

pub renumbered-requires : goal.renumbered-requires
renumbered-requires c =
    let k = c.args.k in
    let p = c.requires in (
      p.0,
      rw c.seam_kept.ensures (seam_kept_lem _ (a_side c.before.before) k p.1),
      rw c.seam_side.ensures (seam_side_lem _ (a_side c.before.before) k p.1).1,
    )

pub returns : goal.returns
returns c =
    let r = c.args.r in
    let k = c.args.k in
    let e = c.side_of-s.ensures ∙ side_here r c.requires.0 in
    let f = c.seam_kept.ensures ∙ ap (λ (n : ℕ). seam_kept n k) e in
    let g = c.seam_side.ensures ∙ ap (λ (n : ℕ). seam_side n k) e in
    c.renumbered.ensures ∙ (λ i. name_at (renumbered (f i) (g i) (place_at r)))
