-- What 2026-07 refuses, then the coarse sums (coarse's Refused). Assumes nothing.
use mathlib.Core.Path.{refl, ◌∙◌, ap}
use Rattle.tables.specs.Owners.{shared}
use Rattle.tables.specs.Answers.{refused}
use Rattle.tables.proofs.Deeds.{deed_passed}
use Rattle.tables.proofs.Told.{told_some, told_none, table_handed, call_handed}
use Rattle.coarse.specs.Sums.{coarse, chart}
use Rattle.coarse.proofs.Refused.{kept_first, kept_then}
use Rattle.soundings.proofs.refuse_kept.Goals as goal

pub returns-in_err-refuse_deed : goal.returns-in_err-refuse_deed
returns-in_err-refuse_deed c =
    let a = c.args in
    let list = a.list.now in
    table_handed list _ _ c.from_residual.ensures c.in_err-refuse_deed.ensures
    (kept_first a.deed a.desk a.degree a.t (chart (shared list a.owners.now) (coarse a.counts.now a.sums.now)) refl
    (told_some list _ c.in_err-refuse_deed.ensures))

pub refuse_coarse-requires : goal.refuse_coarse-requires
refuse_coarse-requires c =
    let a = c.args in
    let list = a.list.now in
    let z = told_none list c.in_ok-refuse_deed.ensures in
    let k = (deed_passed a.deed a.desk a.degree a.t (shared list a.owners.now) z).passed in
    (k.degree, k.code, k.long)

pub returns-in_err-refuse_coarse : goal.returns-in_err-refuse_coarse
returns-in_err-refuse_coarse c =
    let a = c.args in
    let list = a.list.now in
    call_handed list _ _ c.from_residual-in_err-refuse_coarse.ensures
    (c.in_err-refuse_coarse.ensures
    ∙ kept_then a.deed a.desk a.degree a.t (chart (shared list a.owners.now) (coarse a.counts.now a.sums.now))
    (told_none list c.in_ok-refuse_deed.ensures))

pub returns : goal.returns
returns c =
    let a = c.args in
    let list = a.list.now in
    ap (refused list)
    (c.in_ok-refuse_coarse.ensures
    ∙ kept_then a.deed a.desk a.degree a.t (chart (shared list a.owners.now) (coarse a.counts.now a.sums.now))
    (told_none list c.in_ok-refuse_deed.ensures))
