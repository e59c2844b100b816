-- The parent's place, and the four below it (Children). Assumes nothing.
use mathlib.Core.Path.{◌∙◌, ap}
use native.Mathlib.Omega.{arith}
use lib.ListN.{length}
use Rattle.net.specs.Division.{sum}
use Rattle.coarse.specs.Sums.{count_in, sum_in, coarse}
use Rattle.coarse.proofs.Children.{Above, above, kept_set}
use Rattle.keeping.proofs.keep.Goals as goal
use Rattle.keeping.proofs.keep.Lts as lts
use Rattle.keeping.proofs.keep.Reads as reads
use Rattle.keeping.proofs.keep.Tie as tie

abbrev After-parent_place : Type 0
After-parent_place = lts.After-parent_place tie.the-claims reads.Pre reads.Post

-- the parent's place
up : (c : After-parent_place) → (let a = c.args in
    Above a.degree a.t a.list.now c.parent_place.result)
up c =
    above c.args.degree c.args.list.now c.parent_place.ensures c.if-degree-eq0.false c.requires.0
    c.requires.1 c.requires.2

pub store-requires : goal.store-requires
store-requires c =
    let u = up c.before.before in
    let w = c.requires in
    (u.four, omega (arith, u.here, w.3), omega (arith, u.here, w.4))

pub returns : goal.returns
returns c =
    let a = c.args in
    let list = a.list.now in
    let some = c.if-degree-eq0.false in
    let u = up c.before.before.before.before.before.before.before.before in
    let e = c.store.ensures in
    λ i. coarse
    ((e.0 ∙ kept_set a.degree some a.t (λ q. count_in q list) a.counts.now c.parent_place.ensures
    (ap length u.present_is)) i)
    ((e.1 ∙ kept_set a.degree some a.t (λ q. sum_in q list) a.sums.now c.parent_place.ensures
    (ap sum u.present_is)) i)
