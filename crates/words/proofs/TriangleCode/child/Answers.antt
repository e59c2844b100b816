-- The check first, then the digit, then the degree; the digits of a code with one more fit (Refusing, Told, Codes).
-- Assumes nothing.
use mathlib.Core.Path.{ap, sym}
use Prim.Native.Nat.{◌<◌, ◌^◌}
use native.Mathlib.Omega.{arith}
use native.Mathlib.Numerals.{add-one}
use borrow.Author.Tests.{lt-ltb, le-ltb, eq-eqb, ne_eqb}
use Rattle.words.specs.Words.{degree_of, path}
use Rattle.words.specs.Refusals.{code_rows, check_code}
use Rattle.words.specs.Family.{code_of, code_answer, refuse_child, child_of}
use Rattle.frame.proofs.Refusing.{here, next, nothing, refuse_before, refuse_after}
use Rattle.frame.proofs.Answering.{answering, refusing}
use Rattle.frame.proofs.Told.{number_some, handed_on}
use Rattle.frame.specs.Refusals.{order}
use Rattle.words.proofs.Digits.{more, digits_are, path_lt, path_48}
use Rattle.words.proofs.Codes.{passes_degree}
use Rattle.words.proofs.TriangleCode.child.Goals as goal

pub returns-in_err-check : goal.returns-in_err-check
unfolding refuse_child check_code
returns-in_err-check c =
    handed_on _ _ _ c.from_residual.ensures
    (refuse_before order order (code_rows c.args.self) _ tt tt c.in_err-check.ensures (number_some _))

pub returns-then-digit-gt3 : goal.returns-then-digit-gt3
unfolding refuse_child check_code
returns-then-digit-gt3 c =
    refusing (refuse_after order order (code_rows c.args.self) _ tt tt (sym c.in_ok-check.ensures)
    (here (lt-ltb 3 c.args.digit (omega arith))))
    (omega arith)

pub returns-then-n-eq24 : goal.returns-then-n-eq24
unfolding refuse_child check_code
returns-then-n-eq24 c =
    let t = c.args.self in
    refusing (refuse_after order order (code_rows t) _ tt tt (sym c.in_ok-check.ensures)
    (next (le-ltb 3 c.args.digit (omega arith)) (here (eq-eqb (degree_of t.0) 24 (omega arith)))))
    (omega arith)

pub path_of-requires : goal.path_of-requires
path_of-requires c = omega (arith, passes_degree c.args.self (sym c.in_ok-check.ensures))

fits : (c : goal.After-path_of) → c.path_of.result < 2 ^ 48
fits c = rw c.path_of.ensures (path_48 _ _ (omega (arith, passes_degree c.args.self (sym c.in_ok-check.ensures))))

pub overflow_mul-path_of : goal.overflow_mul-path_of
overflow_mul-path_of c = omega (arith, fits c)

pub overflow_add-path_of : goal.overflow_add-path_of
overflow_add-path_of c = omega (arith, fits c)

pub word_of-requires : goal.word_of-requires
unfolding path
word_of-requires c = (
  omega arith,
  omega (arith, passes_degree c.args.self (sym c.in_ok-check.ensures)),
  rw (add-one, c.path_of.ensures) (path_lt (more {d = c.args.digit} (omega arith) (digits_are _ _))),
)

pub returns : goal.returns
unfolding refuse_child check_code child_of path
returns c =
    let t = c.args.self in
    answering (sym (refuse_after order order (code_rows t) _ tt tt (sym c.in_ok-check.ensures)
    (next (le-ltb 3 c.args.digit (omega arith)) (next (ne_eqb (degree_of t.0) 24 (omega arith)) nothing))))
    (ap (λ w. code_answer 0 (code_of w)) (cc (add-one (degree_of t.0))))
