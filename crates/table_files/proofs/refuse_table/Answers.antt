-- The degree, the list of readings, the list of owners (Refused). Assumes nothing.
use mathlib.Core.Path.{refl, sym, ◌∙◌, ap}
use Rattle.frame.proofs.Told.{number_some}
use Rattle.tables.specs.Owners.{shared}
use Rattle.tables.specs.Answers.{refused}
use Rattle.tables.proofs.Refused.{large}
use Rattle.tables.proofs.Told.{told_some, told_none, table_handed, call_handed}
use Rattle.table_files.proofs.Refused.{degree_first, list_first, owners_last}
use Rattle.table_files.proofs.refuse_table.Goals as goal

pub returns-in_err-refuse_degree : goal.returns-in_err-refuse_degree
returns-in_err-refuse_degree c =
    let a = c.args in
    call_handed a.list.now _ _ c.from_residual.ensures
    (degree_first a.degree (shared a.list.now a.owners.now) c.in_err-refuse_degree.ensures (number_some _))

pub refuse_list-requires : goal.refuse_list-requires
refuse_list-requires c = (large _ c.in_ok-refuse_degree.ensures).small refl

pub returns-in_err-refuse_list : goal.returns-in_err-refuse_list
returns-in_err-refuse_list c =
    let a = c.args in
    let list = a.list.now in
    table_handed list _ _ c.from_residual-in_err-refuse_list.ensures c.in_err-refuse_list.ensures
    (list_first a.degree (shared list a.owners.now) (sym c.in_ok-refuse_degree.ensures) refl
    (told_some list _ c.in_err-refuse_list.ensures))

pub refuse_owners-requires : goal.refuse_owners-requires
refuse_owners-requires c = (large _ c.in_ok-refuse_degree.ensures).small refl

pub returns-in_err-refuse_owners : goal.returns-in_err-refuse_owners
returns-in_err-refuse_owners c =
    let a = c.args in
    let list = a.list.now in
    call_handed list _ _ c.from_residual-in_err-refuse_owners.ensures
    (c.in_err-refuse_owners.ensures
    ∙ owners_last a.degree (shared list a.owners.now) (sym c.in_ok-refuse_degree.ensures)
    (told_none list c.in_ok-refuse_list.ensures))

pub returns : goal.returns
returns c =
    let a = c.args in
    let list = a.list.now in
    ap (refused list)
    (c.in_ok-refuse_owners.ensures
    ∙ owners_last a.degree (shared list a.owners.now) (sym c.in_ok-refuse_degree.ensures)
    (told_none list c.in_ok-refuse_list.ensures))
