-- The rows of both kinds of word first, and then the zero bits and the corner number (Refusing, Codes). Assumes
-- nothing.
use mathlib.Core.Path.{ap, sym}
use mathlib.Core.Bool.{not}
use native.Mathlib.Omega.{arith}
use lib.Dec.{eqb}
use borrow.Author.Tests.{eq-eqb, ne_eqb}
use Rattle.words.specs.Words.{zero_bits, corner_number}
use Rattle.words.specs.Refusals.{word_rows, check_name_fields}
use Rattle.frame.proofs.Refusing.{here, refuse_before, refuse_after, either_left, either_right}
use Rattle.frame.proofs.Told.{number_some, told_handed}
use Rattle.frame.specs.Refusals.{order}
use Rattle.words.proofs.Codes.{word_passes, name_passes}
use Rattle.words.proofs.check_name_fields.Goals as goal

pub returns-in_err-check_word : goal.returns-in_err-check_word
unfolding check_name_fields
returns-in_err-check_word c =
    told_handed _ _ c.from_residual.ensures
    (refuse_before order order (word_rows c.args.r.0) _ tt tt c.in_err-check_word.ensures (number_some _))

pub returns-then-w-ne0 : goal.returns-then-w-ne0
unfolding check_name_fields
returns-then-w-ne0 c =
    let w = c.args.r.0 in
    refuse_after order order (word_rows w) _ tt tt (sym c.in_ok-check_word.ensures)
    (here (either_left _ _ (ap not (ne_eqb (zero_bits w) 0 c.if-w-ne0.true))))

pub returns-then-w-eq0 : goal.returns-then-w-eq0
unfolding check_name_fields
returns-then-w-eq0 c =
    let w = c.args.r.0 in
    refuse_after order order (word_rows w) _ tt tt (sym c.in_ok-check_word.ensures)
    (here (either_right (not (eqb (zero_bits w) 0)) _ (eq-eqb (corner_number w) 0 c.if-w-eq0.true)))

pub returns : goal.returns
returns c =
    sym ((name_passes c.args.r).1 (
      (word_passes c.args.r.0).0 (sym c.in_ok-check_word.ensures),
      omega arith,
      omega arith,
      omega arith,
    ))
