-- The refusals in turn, the one word where the quick way is clear, and otherwise the exact way (FilingCalls). Assumes
-- nothing.
use mathlib.Core.Path.{sym}
use native.Mathlib.Omega.{arith}
use Rattle.frame.proofs.Answering.{refusing}
use Rattle.frame.proofs.Told.{number_some, handed_lent}
use Rattle.filing.proofs.HolderLists.{puts_one}
use Rattle.directions.proofs.Refused.{allowed, list_then}
use Rattle.directions.proofs.FilingCalls.{six, listed_answer}
use Rattle.directions.proofs.list.Goals as goal

pub returns-in_err-refuse_direction : goal.returns-in_err-refuse_direction
returns-in_err-refuse_direction c =
    let a = c.args in
    handed_lent _ _ _ c.from_residual.ensures
    ((list_then a.degree a.d a.out.now).first c.in_err-refuse_direction.ensures (number_some _))

pub returns-then-out-lt6 : goal.returns-then-out-lt6
returns-then-out-lt6 c = let a = c.args in
    refusing ((list_then a.degree a.d a.out.now).nine (sym c.in_ok-refuse_direction.ensures) c.if-out-lt6.true)
    (λ e. omega arith)

pub quick_word-requires : goal.quick_word-requires
quick_word-requires c = let a = allowed _ _ (sym c.in_ok-refuse_direction.ensures) in (a.low, a.level, a.some)

pub returns-in-Some : goal.returns-in-Some
returns-in-Some c =
    let a = c.args in
    let e = c.in-Some.ensures.alone in
    listed_answer a.degree a.d a.out.now 1 _ (sym c.in_ok-refuse_direction.ensures) c.if-out-lt6.false
    (puts_one 0 c.in-Some.w _ a.out.now e (rw e (omega (
      arith,
      c.if-out-lt6.false,
    )))).1

pub list_exactly-m-requires : goal.list_exactly-m-requires
list_exactly-m-requires c =
    let z = sym c.in_ok-refuse_direction.ensures in
    let a = c.args in
    let m = allowed _ _ z in
    (m.low, m.level, m.some, omega (arith, six a.degree a.d z, c.if-out-lt6.false))

pub returns : goal.returns
returns c =
    let a = c.args in
    listed_answer a.degree a.d a.out.now c.list_exactly-m.result _ (sym c.in_ok-refuse_direction.ensures)
    c.if-out-lt6.false c.list_exactly-m.ensures
