-- Of the triangle, of the reading, of the list (Refused). Assumes nothing.
use mathlib.Core.Path.{◌∙◌, ap, sym}
use Rattle.frame.proofs.Told.{number_some}
use Rattle.tables.specs.Answers.{table_told}
use Rattle.std.specs.Prelude.{Err}
use Rattle.frame.specs.declared.Refusal.TheVariants.{ReadingRange}
use Rattle.tables.specs.declared.TableRefusal.{TableRefusal}
use Rattle.tables.proofs.Refused.{triangle_good, call_first, call_reading, call_then}
use Rattle.tables.proofs.Answering.{answer_same}
use Rattle.tables.proofs.Told.{told_call, call_handed}
use Rattle.refusing.proofs.refuse_call.Goals as goal

pub returns-in_err-refuse_triangle : goal.returns-in_err-refuse_triangle
returns-in_err-refuse_triangle c =
    let a = c.args in
    call_handed a.list.now _ _ c.from_residual.ensures
    (call_first a.degree a.t a.list.now a.out c.in_err-refuse_triangle.ensures (number_some _))

pub returns-then-out : goal.returns-then-out
returns-then-out c =
    let a = c.args in
    ap (λ (e : TableRefusal). table_told (Err e)) c.into.ensures
    ∙ told_call a.list.now ReadingRange
    (call_reading a.degree a.t a.list.now a.out (sym c.in_ok-refuse_triangle.ensures) c.if-out.true)

pub refuse_list-requires : goal.refuse_list-requires
refuse_list-requires c = (triangle_good c.args.degree c.args.t (sym c.in_ok-refuse_triangle.ensures)).0

pub returns : goal.returns
returns c =
    let a = c.args in
    answer_same a.list.now c.refuse_list.ensures
    (call_then a.degree a.t a.list.now a.out (sym c.in_ok-refuse_triangle.ensures) c.if-out.false)
