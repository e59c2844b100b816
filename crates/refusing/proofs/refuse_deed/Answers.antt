-- What 2026-03 refuses, then what the desk and the owners add (Deeds). Assumes nothing.
use mathlib.Core.Path.{refl, ◌∙◌, ap}
use Rattle.tables.specs.Owners.{shared}
use Rattle.tables.specs.Refusals.{out_of_range}
use Rattle.tables.specs.Answers.{refused}
use Rattle.tables.proofs.Refused.{call_passed}
use Rattle.tables.proofs.Deeds.{deed_first, deed_then}
use Rattle.tables.proofs.Told.{told_some, told_none, table_handed, call_handed}
use Rattle.refusing.proofs.refuse_deed.Goals as goal

pub returns-in_err-refuse_call : goal.returns-in_err-refuse_call
returns-in_err-refuse_call c =
    let a = c.args in
    let list = a.list.now in
    let q = rw c.is_out_of_range.ensures at c.in_err-refuse_call.ensures in
    table_handed list _ _ c.from_residual.ensures q
    (deed_first a.deed a.desk a.degree a.t (shared list a.owners.now) refl (told_some list _ q))

pub refuse_shared-requires : goal.refuse_shared-requires
refuse_shared-requires c =
    let a = c.args in
    let z = told_none a.list.now (rw c.is_out_of_range.ensures at c.in_ok-refuse_call.ensures) in
    let k = (call_passed a.degree a.t a.list.now (out_of_range a.deed) z).0 in
    (k.degree, k.code)

pub returns-in_err-refuse_shared : goal.returns-in_err-refuse_shared
returns-in_err-refuse_shared c =
    let a = c.args in
    let list = a.list.now in
    let z = told_none list (rw c.is_out_of_range.ensures at c.in_ok-refuse_call.ensures) in
    call_handed list _ _ c.from_residual-in_err-refuse_shared.ensures
    (c.in_err-refuse_shared.ensures ∙ deed_then a.deed a.desk a.degree a.t (shared list a.owners.now) z)

pub returns : goal.returns
returns c =
    let a = c.args in
    let list = a.list.now in
    let z = told_none list (rw c.is_out_of_range.ensures at c.in_ok-refuse_call.ensures) in
    ap (refused list)
    (c.in_ok-refuse_shared.ensures ∙ deed_then a.deed a.desk a.degree a.t (shared list a.owners.now) z)
