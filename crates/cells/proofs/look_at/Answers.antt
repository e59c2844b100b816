-- Whether it is a code, and then the reach of the word before (OnePass). Assumes nothing.
use mathlib.Core.Path.{◌≡◌, ◌∙◌, sym, ap}
use mathlib.Core.Bool.{true}
use Prim.Native.Nat.{ℕ}
use borrow.Author.Tests.{eq-eqb, ne_eqb}
use Rattle.frame.proofs.Told.{some_told, none_told, handed}
use Rattle.cells.specs.Order.{valid}
use Rattle.cells.specs.Means.Ranks.{reach, reason_by, reason_after}
use Rattle.cells.specs.declared.Reach.{Reach}
use Rattle.cells.proofs.OnePass.{after_invalid, after_valid}
use Rattle.cells.proofs.look_at.Goals as goal

pub returns-then-is_err : goal.returns-then-is_err
returns-then-is_err c =
    let bad = ne_eqb _ 0 (λ e. some_told _ (sym c.is_err.ensures.value ∙ c.if-is_err.true) (c.check.ensures ∙ e)) in
    record { reason = after_invalid c.args.last c.args.w bad; own = tt }

pub reach_of-own-requires : goal.reach_of-own-requires
reach_of-own-requires c =
    eq-eqb _ 0 (sym c.check.ensures ∙ none_told _ (sym c.is_err.ensures.value ∙ c.if-is_err.false))

-- of the code's own reach
module _ (w : ℕ) (last : Reach) {own : Reach} {k : ℕ} (code : valid w ≡ true) (is : own ≡ reach w) (e : k ≡ reason_by last own.rank)
  where
    after : k ≡ reason_after last w
    after = e ∙ ap (λ (x : Reach). reason_by last x.rank) is ∙ after_valid last w code

pub returns-in_err-reason_after : goal.returns-in_err-reason_after
returns-in_err-reason_after c =
    let code = eq-eqb _ 0 (sym c.check.ensures ∙ none_told _ (sym c.is_err.ensures.value ∙ c.if-is_err.false)) in
    rw (handed _ c.from_residual.ensures)
    (record { reason = after c.args.w c.args.last code c.reach_of-own.ensures c.in_err-reason_after.ensures; own = tt })

pub returns : goal.returns
returns c =
    let code = eq-eqb _ 0 (sym c.check.ensures ∙ none_told _ (sym c.is_err.ensures.value ∙ c.if-is_err.false)) in
    record { reason = after c.args.w c.args.last code c.reach_of-own.ensures c.in_ok-reason_after.ensures; own = c.reach_of-own.ensures }
