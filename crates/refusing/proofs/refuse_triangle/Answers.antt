-- Test by test (Refused). Assumes nothing.
use mathlib.Core.Path.{refl, sym, ◌∙◌}
use Rattle.frame.proofs.Told.{number_some, told_handed}
use Rattle.tables.proofs.Refused.{large, degree_7, too_deep, no_code, too_large, other_degree, in_table}
use Rattle.refusing.proofs.refuse_triangle.Goals as goal

pub returns-then-degree-gt24 : goal.returns-then-degree-gt24
returns-then-degree-gt24 c = too_deep _ c.args.t c.if-degree-gt24.true

pub returns-in_err-check : goal.returns-in_err-check
returns-in_err-check c =
    told_handed _ _ c.from_residual.ensures
    (no_code _ c.args.t c.if-degree-gt24.false c.in_err-check.ensures (number_some _))

pub returns-in_err-refuse_degree : goal.returns-in_err-refuse_degree
returns-in_err-refuse_degree c =
    let m = (large _ c.in_err-refuse_degree.ensures).large (number_some _) in
    told_handed _ _ c.from_residual-in_err-refuse_degree.ensures
    (c.in_err-refuse_degree.ensures ∙ sym (degree_7 _ c.if-degree-gt24.false m)
    ∙ too_large _ c.args.t c.if-degree-gt24.false (sym c.in_ok-check.ensures) m)

pub returns-then-degree_of-degree : goal.returns-then-degree_of-degree
returns-then-degree_of-degree c =
    other_degree _ _ c.if-degree-gt24.false (sym c.in_ok-check.ensures) ((large _ c.in_ok-refuse_degree.ensures).small refl)
    (λ q. c.if-degree_of-degree.true (c.degree_of.ensures ∙ q))

pub returns : goal.returns
returns c =
    in_table _ _ c.if-degree-gt24.false (sym c.in_ok-check.ensures) ((large _ c.in_ok-refuse_degree.ensures).small refl)
    (sym c.degree_of.ensures ∙ c.if-degree_of-degree.false)
