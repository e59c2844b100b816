-- The first two rows of both kinds of word, tested in turn (Refusing). Assumes nothing.
use native.Mathlib.Omega.{arith}
use lib.Dec.{eqb}
use lib.ListN.{take}
use borrow.Author.Tests.{lt-ltb, le-ltb, eq-eqb, ne_eqb}
use Rattle.words.specs.Words.{a_of, degree_of}
use Rattle.words.specs.Refusals.{word_rows}
use Rattle.frame.proofs.Refusing.{here, next, nothing, refuse_first, either_left, either_right, either_false}
use Rattle.frame.specs.Refusals.{order}
use Rattle.words.proofs.check_above.Goals as goal

pub returns-then-n-gt24 : goal.returns-then-n-gt24
returns-then-n-gt24 c =
    let w = c.args.w in
    refuse_first order (take 2 (word_rows w)) tt (here (lt-ltb 24 (degree_of w) (omega arith)))

pub returns-then-a-eq0 : goal.returns-then-a-eq0
returns-then-a-eq0 c =
    let w = c.args.w in
    refuse_first order (take 2 (word_rows w)) tt
    (next (le-ltb 24 (degree_of w) (omega arith)) (here (either_left _ _ (eq-eqb (a_of w) 0 (omega arith)))))

pub returns-then-a-gt5 : goal.returns-then-a-gt5
returns-then-a-gt5 c =
    let w = c.args.w in
    refuse_first order (take 2 (word_rows w)) tt
    (next (le-ltb 24 (degree_of w) (omega arith))
    (here (either_right (eqb (a_of w) 0) _ (lt-ltb 5 (a_of w) (omega arith)))))

pub returns : goal.returns
returns c =
    let w = c.args.w in
    refuse_first order (take 2 (word_rows w)) tt
    (next (le-ltb 24 (degree_of w) (omega arith))
    (next ((either_false _ _).1 (ne_eqb (a_of w) 0 (omega arith), le-ltb 5 (a_of w) (omega arith))) nothing))
