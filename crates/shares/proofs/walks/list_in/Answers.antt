-- `shares::walks::list_in` meets its contract: the walk begins at the side. Assumes nothing.
use Rattle.shares.specs.declared.walks.Walk.{Walk}
use Rattle.shares.specs.Means.WalkWords.{walk_words}
use Rattle.shares.proofs.WalkSteps.{walk_start}
use Rattle.shares.proofs.walks.list_in.Goals as goal

pub list_below-requires : goal.list_below-requires
unfolding walk_words
list_below-requires c =
    let a = c.args in
    let p = c.requires in
    let w : Walk = record { side = a.side; degree = a.degree; gaps = a.g } in
    (walk_start w a.f p.0 p.1 p.3 p.2 p.4, p.5)

pub shape_of-out : goal.shape_of-out
shape_of-out c = c.list_below.auto.out

pub returns : goal.returns
unfolding walk_words
returns c = c.list_below.ensures
