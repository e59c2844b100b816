-- What the word refuses, then what the large call does; or the small form of what it answers. Assumes nothing.
use mathlib.Core.Path.{◌≡◌, ◌∙◌, sym}
use Prim.Native.Nat.{ℕ}
use Rattle.std.specs.Prelude.{Ok}
use Rattle.frame.proofs.Refusing.{refuse_before}
use Rattle.frame.proofs.Answering.{answering}
use Rattle.frame.proofs.Told.{number_some, handed_on}
use Rattle.net.specs.Refusals.{one_to_three_rows}
use Rattle.words.specs.Family.{code_of}
use Rattle.corners.specs.declared.Step.{Step}
use Rattle.harbour.specs.declared.SmallCode.{SmallCode}
use Rattle.corners.specs.Answers.{CrossAnswer, Crossed, step_told}
use Rattle.harbour.specs.Small.{small_code, large_of}
use Rattle.harbour.specs.Refusals.{harbour_order, small_rows, check_small, refuse_small_cross}
use Rattle.harbour.specs.Answers.{small_step}
use Rattle.harbour.proofs.LargeCalls.{cross_number, cross_same, neighbour_small}
use Rattle.harbour.proofs.SmallCode.cross.Goals as goal

pub returns-in_err-check_word : goal.returns-in_err-check_word
unfolding refuse_small_cross check_small
returns-in_err-check_word c =
    let a = c.args in
    handed_on _ _ _ c.from_residual.ensures
    (refuse_before harbour_order harbour_order (small_rows a.self) (one_to_three_rows a.edge) tt tt
    c.in_err-check_word.ensures (number_some _))

pub large_word-requires : goal.large_word-requires
large_word-requires c = sym c.in_ok-check_word.ensures

pub returns-in_err-step : goal.returns-in_err-step
returns-in_err-step c =
    let a = c.args in
    handed_on _ _ _ c.from_residual-in_err-step.ensures
    (cross_number a.self a.edge (sym c.in_ok-check_word.ensures) _
    (rw c.large_word.ensures at c.in_err-step.ensures))

-- what the large call answers
module _ (s : SmallCode) (k : ℕ) (z : 0 ≡ check_small s) {w : ℕ} {step : Step} (e : w ≡ (large_of s).0)
    (a : CrossAnswer (code_of w) k (step_told (Ok step))) where
  large : CrossAnswer (large_of s) k (step_told (Ok step))
  large = rw e at a

  number : 0 ≡ refuse_small_cross s k
  number = cross_number s k (sym z) _ large

  crossed : Crossed (large_of s) k (step_told (Ok step))
  crossed = large.answered (cross_same s k (sym z) ∙ sym number)

pub small_word-requires : goal.small_word-requires
small_word-requires c =
    let a = c.args in
    neighbour_small a.self a.edge (sym c.in_ok-check_word.ensures) _
    (crossed a.self a.edge c.in_ok-check_word.ensures c.large_word.ensures c.in_ok-step.ensures)

pub returns : goal.returns
returns c =
    let a = c.args in
    let s = c.in_ok-step.step in
    answering (sym (number a.self a.edge c.in_ok-check_word.ensures c.large_word.ensures c.in_ok-step.ensures)) (record {
      answer = step_told (Ok s);
      large = crossed a.self a.edge c.in_ok-check_word.ensures c.large_word.ensures c.in_ok-step.ensures;
      is = λ i. small_step 0 (small_code (c.small_word.ensures i)) s.edge s.first s.second;
    })
