-- What the degree refuses, and then what checking the code does. Assumes nothing.
use mathlib.Core.Path.{◌∙◌, sym, ap}
use Prim.Native.Nat.{ℕ}
use Rattle.frame.specs.Refusals.{first_of}
use Rattle.frame.proofs.Refusing.{refuse_before}
use Rattle.frame.proofs.Told.{number_some, told_handed}
use Rattle.words.specs.Words.{degree_of}
use Rattle.harbour.specs.Refusals.{harbour_order, depth_rows, refuse_write}
use Rattle.harbour.proofs.SmallWords.{depth_passes, write_same}
use Rattle.harbour.proofs.refuse_write.Goals as goal

pub returns-in_err-refuse_depth : goal.returns-in_err-refuse_depth
unfolding refuse_write
returns-in_err-refuse_depth c =
    let t = c.args.t in
    told_handed _ _ c.from_residual.ensures
    (refuse_before harbour_order harbour_order (depth_rows (degree_of t.0)) _ tt tt
    (c.in_err-refuse_depth.ensures ∙ ap (λ (n : ℕ). first_of harbour_order (depth_rows n)) c.degree_of.ensures)
    (number_some _))

pub returns : goal.returns
returns c =
    let t = c.args.t in
    c.check.ensures
    ∙ write_same t ((depth_passes (degree_of t.0)).0
    (sym (c.in_ok-refuse_depth.ensures ∙ ap (λ (n : ℕ). first_of harbour_order (depth_rows n)) c.degree_of.ensures)))
