-- `least_of` by recursion on m: the next word has a name's fields, and its place is the next round the corner
-- (WordSteps). Assumes nothing.
use mathlib.Core.Path.{◌∙◌, ap}
use native.Mathlib.Omega.{arith}
use Prim.Native.Nat.{◌-◌, min}
use Rattle.net.specs.Means.Walks.{least_name, place_at}
use Rattle.net.proofs.WordSteps.{at_next, fields_there, unit_there, least_more, least_none, low_degree}
use Rattle.net.proofs.WordSteps.{place_name, place_there}
use Rattle.knots.proofs.rings.+least_of.Goals as goal

pub returns-then-m-eq0 : goal.returns-then-m-eq0
returns-then-m-eq0 t c = place_name c.args.r c.requires.0 ∙ least_none _ _ c.if-m-eq0.true

pub around-requires : goal.around-requires
around-requires t c = c.requires

pub least_of-requires : goal.least_of-requires
least_of-requires t c =
    let r = c.args.r in
    let p = c.requires in
    let a = at_next r p.0 in
    let l = low_degree r p.0 in
    (omega arith, (fields_there a l c.around.ensures, unit_there a l c.around.ensures p.1))

pub returns : goal.returns
returns t c =
    let r = c.args.r in
    let p = c.requires in
    let e = c.least_of.ensures ∙ ap (least_name (c.args.m - 1))
    (place_there (at_next r p.0) (low_degree r p.0) c.around.ensures) in
    c.min.ensures ∙ (λ i. min (place_name r p.0 i) (e i))
    ∙ least_more c.args.m (place_at r) c.if-m-eq0.false
