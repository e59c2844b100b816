-- The degree, the list of readings, the lengths of the two others (coarse's Refused). Assumes nothing.
use mathlib.Core.Path.{refl, sym, ◌∙◌, ap}
use Rattle.frame.proofs.Told.{number_some}
use Rattle.tables.specs.Answers.{refused}
use Rattle.tables.proofs.Refused.{large}
use Rattle.tables.proofs.Told.{told_some, told_none, table_handed, call_handed}
use Rattle.coarse.specs.Sums.{coarse}
use Rattle.coarse.proofs.Refused.{degree_first, list_first, lengths_last}
use Rattle.soundings.proofs.refuse_work_out.Goals as goal

pub returns-in_err-refuse_degree : goal.returns-in_err-refuse_degree
returns-in_err-refuse_degree c =
    let a = c.args in
    call_handed a.list.now _ _ c.from_residual.ensures
    (degree_first a.degree a.list.now (coarse a.counts.now a.sums.now) c.in_err-refuse_degree.ensures (number_some _))

pub refuse_list-requires : goal.refuse_list-requires
refuse_list-requires c = (large _ c.in_ok-refuse_degree.ensures).small refl

pub returns-in_err-refuse_list : goal.returns-in_err-refuse_list
returns-in_err-refuse_list c =
    let a = c.args in
    let list = a.list.now in
    table_handed list _ _ c.from_residual-in_err-refuse_list.ensures c.in_err-refuse_list.ensures
    (list_first a.degree list (coarse a.counts.now a.sums.now) (sym c.in_ok-refuse_degree.ensures) refl
    (told_some list _ c.in_err-refuse_list.ensures))

pub refuse_lengths-requires : goal.refuse_lengths-requires
refuse_lengths-requires c = (large _ c.in_ok-refuse_degree.ensures).small refl

pub returns-in_err-refuse_lengths : goal.returns-in_err-refuse_lengths
returns-in_err-refuse_lengths c =
    let a = c.args in
    let list = a.list.now in
    call_handed list _ _ c.from_residual-in_err-refuse_lengths.ensures
    (c.in_err-refuse_lengths.ensures
    ∙ lengths_last a.degree list (coarse a.counts.now a.sums.now) (sym c.in_ok-refuse_degree.ensures)
    (told_none list c.in_ok-refuse_list.ensures))

pub returns : goal.returns
returns c =
    let a = c.args in
    let list = a.list.now in
    ap (refused list)
    (c.in_ok-refuse_lengths.ensures
    ∙ lengths_last a.degree list (coarse a.counts.now a.sums.now) (sym c.in_ok-refuse_degree.ensures)
    (told_none list c.in_ok-refuse_list.ensures))
