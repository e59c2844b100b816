-- What the degree refuses, then what the large call does; or the small form of what it answers. Assumes nothing.
use mathlib.Core.Path.{◌∙◌, sym}
use Rattle.frame.proofs.Refusing.{refuse_before}
use Rattle.frame.proofs.Answering.{answering}
use Rattle.frame.proofs.Told.{number_some, handed_on}
use Rattle.filing.specs.Refusals.{direction_rows}
use Rattle.words.specs.Family.{code_answer}
use Rattle.harbour.specs.Small.{small_code}
use Rattle.harbour.specs.Refusals.{harbour_order, depth_rows, refuse_small_file}
use Rattle.harbour.specs.Answers.{small_answer}
use Rattle.harbour.proofs.SmallWords.{depth_passes}
use Rattle.harbour.proofs.LargeCalls.{file_number, file_same, filed_small}
use Rattle.harbour.proofs.file.Goals as goal

pub returns-in_err-refuse_depth : goal.returns-in_err-refuse_depth
unfolding refuse_small_file
returns-in_err-refuse_depth c =
    let a = c.args in
    handed_on _ _ _ c.from_residual.ensures
    (refuse_before harbour_order harbour_order (depth_rows a.degree) (direction_rows a.d) tt tt
    c.in_err-refuse_depth.ensures (number_some _))

pub returns-in_err-filed : goal.returns-in_err-filed
returns-in_err-filed c =
    let a = c.args in
    handed_on _ _ _ c.from_residual-in_err-filed.ensures
    (file_number a.degree a.d ((depth_passes _).0 (sym c.in_ok-refuse_depth.ensures)) _ c.in_err-filed.ensures)

pub small_word-requires : goal.small_word-requires
small_word-requires c =
    let a = c.args in
    let low = (depth_passes _).0 (sym c.in_ok-refuse_depth.ensures) in
    let n = file_number a.degree a.d low _ c.in_ok-filed.ensures in
    filed_small a.degree a.d low _ (c.in_ok-filed.ensures.answered (file_same a.degree a.d low ∙ sym n))

pub returns : goal.returns
returns c =
    let a = c.args in
    let d = (depth_passes _).0 (sym c.in_ok-refuse_depth.ensures) in
    let n = file_number a.degree a.d d _ c.in_ok-filed.ensures in
    let g = c.in_ok-filed.ensures.answered (file_same a.degree a.d d ∙ sym n) in
    answering (sym n) (record {
      answer = code_answer 0 c.in_ok-filed.filed;
      large = g;
      is = λ i. small_answer 0 (small_code (c.small_word.ensures i));
    })
