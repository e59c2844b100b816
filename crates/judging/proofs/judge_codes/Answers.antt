-- `judging::judge_codes` meets its contract: the sorted places are gone through as it is asked for (Turned). Assumes
-- nothing.
use mathlib.Core.Path.{◌≡◌, ◌∙◌, sym, ap, subst}
use native.Mathlib.Omega.{arith}
use lib.ListN.{length}
use Rattle.sorting.specs.Sorting.{sorted, PlacesOf}
use Rattle.judging.specs.Means.Keys.{code_places}
use Rattle.judging.specs.Means.Turns.{InTurn}
use Rattle.judging.proofs.Turned.{places_of, in_turn_lem}
use Rattle.judging.proofs.judge_codes.Goals as goal

pub sort-requires : goal.sort-requires
sort-requires c =
    let ks = c.args.keys.now in
    (subst (PlacesOf ks) (sym c.requires.0) (places_of ks), c.requires.3)

pub judge_each-requires : goal.judge_each-requires
judge_each-requires c =
    let ks = c.args.keys.now in
    let ps = c.args.places.now in
    let e : c.sort.new.places ≡ sorted ks (code_places 0 ks) = c.sort.ensures ∙ ap (sorted ks) c.requires.0 in
    let l : length c.sort.new.places ≡ length ps = c.sort.auto.places in
    (subst (InTurn ks) (sym e) (in_turn_lem ks), c.requires.1, c.requires.2, c.requires.4, omega (arith, l, c.requires.5))
