-- The first two rows of both kinds of word, and then the digits beyond the degree (Refusing, Codes). Assumes nothing.
use mathlib.Core.Path.{ap, sym}
use mathlib.Core.Bool.{not}
use lib.ListN.{take}
use borrow.Author.Tests.{eq-eqb, ne_eqb}
use Rattle.words.specs.Words.{degree_of, beyond}
use Rattle.words.specs.Refusals.{word_rows}
use Rattle.frame.proofs.Refusing.{here, next, nothing, refuse_before, refuse_after}
use Rattle.frame.proofs.Told.{number_some, told_handed}
use Rattle.frame.specs.Refusals.{order}
use Rattle.words.proofs.Codes.{side_degree}
use Rattle.words.proofs.check_word.Goals as goal

pub returns-in_err-check_above : goal.returns-in_err-check_above
returns-in_err-check_above c =
    told_handed _ _ c.from_residual.ensures
    (refuse_before order order (take 2 (word_rows c.args.w)) _ tt tt c.in_err-check_above.ensures (number_some _))

pub beyond_of-requires : goal.beyond_of-requires
beyond_of-requires c = side_degree c.args.w (sym c.in_ok-check_above.ensures)

pub returns-then-beyond_of-ne0 : goal.returns-then-beyond_of-ne0
returns-then-beyond_of-ne0 c =
    let w = c.args.w in
    refuse_after order order (take 2 (word_rows w)) _ tt tt (sym c.in_ok-check_above.ensures)
    (here (ap not (ne_eqb (beyond w (degree_of w)) 0 (λ e. c.if-beyond_of-ne0.true (cc)))))

pub returns : goal.returns
returns c =
    let w = c.args.w in
    refuse_after order order (take 2 (word_rows w)) _ tt tt (sym c.in_ok-check_above.ensures)
    (next (ap not (eq-eqb (beyond w (degree_of w)) 0 (cc))) nothing)
