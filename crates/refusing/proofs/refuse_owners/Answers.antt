-- Length, then numbers (OwnerLists). Assumes nothing.
use mathlib.Core.Path.{sym, ◌∙◌}
use Rattle.refusing.proofs.OwnerLists.{wrong_length, other_number, all_owners}
use Rattle.refusing.proofs.refuse_owners.Goals as goal

pub returns-then-owners-codes_of : goal.returns-then-owners-codes_of
returns-then-owners-codes_of c =
    let a = c.args in
    wrong_length a.degree a.owners.now (λ e. c.if-owners-codes_of.true (e ∙ sym c.codes_of.ensures))

pub returns-then-any_other : goal.returns-then-any_other
returns-then-any_other c =
    let a = c.args in
    other_number a.degree a.owners.now (sym c.any_other.ensures ∙ c.if-any_other.true)

pub returns : goal.returns
returns c =
    let a = c.args in
    all_owners a.degree a.owners.now (c.if-owners-codes_of.false ∙ c.codes_of.ensures)
    (sym c.any_other.ensures ∙ c.if-any_other.false)
