-- The check first, then the degree; a code's degree is at most 24 (Refusing, Told, Codes). Assumes nothing.
use mathlib.Core.Path.{ap, sym}
use native.Mathlib.Omega.{arith}
use borrow.Author.Tests.{eq-eqb, ne_eqb}
use Rattle.words.specs.Words.{degree_of}
use Rattle.words.specs.Refusals.{code_rows, check_code}
use Rattle.words.specs.Family.{code_of, code_answer, refuse_parent, parent_of}
use Rattle.frame.proofs.Refusing.{here, next, nothing, refuse_before, refuse_after}
use Rattle.frame.proofs.Answering.{answering, refusing}
use Rattle.frame.proofs.Told.{number_some, handed_on}
use Rattle.frame.specs.Refusals.{order}
use Rattle.words.proofs.Digits.{digits_are, path_lt}
use Rattle.words.proofs.Codes.{passes_degree}
use Rattle.words.proofs.TriangleCode.parent.Goals as goal

pub returns-in_err-check : goal.returns-in_err-check
unfolding refuse_parent check_code
returns-in_err-check c =
    handed_on _ _ _ c.from_residual.ensures
    (refuse_before order order (code_rows c.args.self) _ tt tt c.in_err-check.ensures (number_some _))

pub returns-then-n-eq0 : goal.returns-then-n-eq0
unfolding refuse_parent check_code
returns-then-n-eq0 c =
    let t = c.args.self in
    refusing (refuse_after order order (code_rows t) _ tt tt (sym c.in_ok-check.ensures)
    (here (eq-eqb (degree_of t.0) 0 (omega arith))))
    (omega arith)

pub path_of-requires : goal.path_of-requires
path_of-requires c = omega (arith, passes_degree c.args.self (sym c.in_ok-check.ensures))

pub word_of-requires : goal.word_of-requires
word_of-requires c = (
  omega arith,
  omega (arith, passes_degree c.args.self (sym c.in_ok-check.ensures)),
  rw c.path_of.ensures (path_lt (digits_are _ _)),
)

pub returns : goal.returns
unfolding refuse_parent check_code parent_of
returns c =
    let t = c.args.self in
    answering (sym (refuse_after order order (code_rows t) _ tt tt (sym c.in_ok-check.ensures)
    (next (ne_eqb (degree_of t.0) 0 (omega arith)) nothing)))
    (ap (λ w. code_answer 0 (code_of w)) (cc))
