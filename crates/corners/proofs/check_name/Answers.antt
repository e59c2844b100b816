-- The fields' refusal first, then whether the least name round the corner is the word itself (Calls). Assumes nothing.
use mathlib.Core.Path.{sym, ◌∙◌, ap}
use borrow.Author.Tests.{eqb-true, eqb-false}
use Rattle.frame.proofs.Told.{number_some, told_handed}
use Rattle.words.specs.declared.CornerName.{CornerName}
use Rattle.corners.proofs.Calls.{name_first, name_ten, name_passing}
use Rattle.corners.proofs.check_name.Goals as goal

pub returns-in_err-check_name_fields : goal.returns-in_err-check_name_fields
returns-in_err-check_name_fields c =
    told_handed _ _ c.from_residual.ensures (name_first _ c.in_err-check_name_fields.ensures (number_some _))

pub least_name-requires : goal.least_name-requires
least_name-requires c = sym c.in_ok-check_name_fields.ensures

pub returns-then-eq : goal.returns-then-eq
returns-then-eq c =
    name_passing _ (sym c.in_ok-check_name_fields.ensures)
    (sym (ap (λ (q : CornerName). q.0) c.least_name.ensures) ∙ eqb-true _ _ (sym c.if-eq.ensures))

pub returns-else-eq : goal.returns-else-eq
returns-else-eq c =
    name_ten _ (sym c.in_ok-check_name_fields.ensures)
    (λ e. eqb-false _ _ (sym c.if-eq.ensures) (ap (λ (q : CornerName). q.0) c.least_name.ensures ∙ e))
