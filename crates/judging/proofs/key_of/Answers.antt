-- Assumes nothing.
use mathlib.Core.Path.{◌∙◌, sym, ap}
use borrow.Author.Tests.{eq-eqb, ne_eqb}
use Rattle.frame.proofs.Told.{some_told, none_told}
use Rattle.cells.specs.declared.Reach.{Reach}
use Rattle.judging.proofs.WordKeys.{key_invalid, key_code}
use Rattle.judging.proofs.key_of.Goals as goal

pub returns-then-is_err : goal.returns-then-is_err
returns-then-is_err c =
    sym (key_invalid _ (ne_eqb _ 0 (λ e. some_told _ (sym c.is_err.ensures.value ∙ c.if-is_err.true) (c.check.ensures ∙ e))))

pub returns : goal.returns
returns c =
    ap (λ (x : Reach). x.rank) c.reach_of-own.ensures
    ∙ sym (key_code _ (eq-eqb _ 0 (sym c.check.ensures ∙ none_told _ (sym c.is_err.ensures.value ∙ c.if-is_err.false))))
