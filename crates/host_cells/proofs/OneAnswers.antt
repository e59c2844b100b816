-- Exactly one answer of each of the two calls, for every input. Assumes nothing.
use mathlib.Core.Path.{refl}
use mathlib.Core.List.{List}
use Prim.Native.Nat.{ℕ}
use Rattle.frame.specs.Answers.{over}
use Rattle.frame.proofs.Answering.{keeps_known}
use Rattle.mending.specs.Answers.{Lists}
use Rattle.host_cells.specs.Refusals.{refuse_check, refuse_mend}
use Rattle.host_cells.specs.Answers.{verdict_in, mend_out}
use Rattle.host_cells.specs.Promises.{OneAnswer}

pub one_answer : OneAnswer
one_answer = record {
  check_cells = λ list out. keeps_known {A = ℕ × List ℕ} (refuse_check list out) (0, over (verdict_in list) out)
      (λ k. (k, out)) (λ x. x.0) refl refl;
  mend_cells = λ list l out. keeps_known {A = ℕ × (Lists × List ℕ)} (refuse_mend list l out) (0, mend_out list l out)
      (λ k. (k, (l, out))) (λ x. x.0) refl refl;
}
