-- By the number where a call refuses, and by the values where it answers (frame's `told_one`, and tables'). Assumes
-- nothing.
use mathlib.Core.Path.{◌≡◌, ◌∙◌, refl, sym, ap}
use Prim.Native.Nat.{ℕ, zero, suc}
use Rattle.std.specs.Prelude.{Option, None, Some, Result, Ok, Err}
use Rattle.frame.proofs.Told.{number_some, number_one, told_one}
use Rattle.words.specs.Family.{code_answer, no_code}
use Rattle.cells.specs.declared.Reason.{Reason}
use Rattle.cells.specs.declared.Reason.TheVariants.{Invalid, Less, Equal, Inside}
use Rattle.cells.specs.declared.Offence.{Offence}
use Rattle.cells.specs.Checking.{reason_number, verdict_told}
use Rattle.cells.proofs.OnePass.{reason_some}
use Rattle.corners.specs.declared.Step.{Step}
use Rattle.corners.specs.Answers.{step_answer, no_step, name_answer, no_name, count_answer, no_count}
use Rattle.points.specs.Answers.{no_coordinates, no_ticks, no_point}
use Rattle.mending.specs.declared.Written.{Written}
use Rattle.mending.specs.Answers.{mend_answer, no_mend}
use Rattle.harbour.specs.declared.SmallStep.{SmallStep}
use Rattle.harbour.specs.Answers.{small_answer, no_small, small_step, no_small_step}
use Rattle.sweeps.specs.declared.Unfiled.{Unfiled}
use Rattle.sweeps.specs.Sweeps.{no_sweep}
use Rattle.sweeps.specs.Answers.{unfiled_told}
use Rattle.tables.specs.Answers.{table_answer, sounding_answer}
use Rattle.tables.proofs.Told.{told_one as placed_one}
use Rattle.marks.specs.declared.Mark.TheVariants.{Nothing}
use Rattle.marks.specs.Answers.{mark_answer, no_edge_mark}
use Rattle.contracts.specs.OneResult.{OneResult}

-- what is not filed, and that all is
unfiled_one : (x y : Option Unfiled) → unfiled_told x ≡ unfiled_told y → x ≡ y
unfiled_one None None e = refl
unfiled_one None (Some b) e = absurd (number_some b.refusal (sym (ap (λ a. a.first) e)))
unfiled_one (Some a) None e = absurd (number_some a.refusal (ap (λ b. b.first) e))
unfiled_one (Some a) (Some b) e =
    let f : a.refusal ≡ b.refusal = number_one a.refusal b.refusal (ap (λ r. r.first) e) in
    λ i. Some (record { count = (e i).refused; place = (e i).place; refusal = f i })

-- a reason by its number
reason_of : ℕ → Reason
reason_of zero = Inside
reason_of (suc zero) = Invalid
reason_of (suc (suc zero)) = Less
reason_of (suc (suc (suc zero))) = Equal
reason_of (suc (suc (suc (suc k)))) = Inside

reason_back : (r : Reason) → reason_of (reason_number r) ≡ r
unfolding reason_of
reason_back Invalid = refl
reason_back Less = refl
reason_back Equal = refl
reason_back Inside = refl

verdict_one : (r s : Result (Unit {0}) Offence) → verdict_told r ≡ verdict_told s → r ≡ s
verdict_one (Ok u) (Ok v) e = refl
verdict_one (Ok u) (Err o) e = absurd (reason_some o.reason (sym (ap (λ v. v.reason) e)))
verdict_one (Err o) (Ok u) e = absurd (reason_some o.reason (ap (λ v. v.reason) e))
verdict_one (Err o) (Err q) e =
    let f : o.reason ≡ q.reason =
    sym (reason_back o.reason) ∙ ap (λ v. reason_of v.reason) e ∙ reason_back q.reason in
    λ i. Err (record { reason = f i; place = (e i).place })

pub one_result : OneResult
one_result = record {
  number = told_one (λ a. 0) (λ k. k) (λ k. k) (λ x. refl) (λ k. refl) (λ x y e. refl);
  code = told_one (code_answer 0) no_code (λ a. a.refusal) (λ x. refl) (λ k. refl) (λ x y e. ap (λ a. a.code) e);
  step = told_one (λ (s : Step). step_answer 0 s.code s.edge s.first s.second) no_step (λ a. a.refusal) (λ x. refl)
      (λ k. refl)
      (λ x y e i. record { code = (e i).code; edge = (e i).edge; first = (e i).first; second = (e i).second });
  name = told_one (name_answer 0) no_name (λ a. a.refusal) (λ x. refl) (λ k. refl) (λ x y e. ap (λ a. a.name) e);
  count = told_one (count_answer 0) no_count (λ a. a.refusal) (λ x. refl) (λ k. refl) (λ x y e. ap (λ a. a.count) e);
  place = told_one (λ c. record { refusal = 0; at = c }) no_coordinates (λ a. a.refusal) (λ x. refl) (λ k. refl)
      (λ x y e. ap (λ a. a.at) e);
  ticks = told_one (λ t. record { refusal = 0; at = t }) no_ticks (λ a. a.refusal) (λ x. refl) (λ k. refl)
      (λ x y e. ap (λ a. a.at) e);
  point = told_one (λ p. record { refusal = 0; at = p }) no_point (λ a. a.refusal) (λ x. refl) (λ k. refl)
      (λ x y e. ap (λ a. a.at) e);
  sweep = told_one unfiled_told no_sweep (λ a. a.refusal) unfiled_0 (λ k. refl) unfiled_one;
  table = placed_one (λ u. table_answer 0 0) table_answer (λ a. a.refusal) (λ a. a.place) (λ x. refl) (λ k p. refl)
      (λ k p. refl) (λ x y e. refl);
  sounding = placed_one (sounding_answer 0 0) (λ f p. sounding_answer f p None) (λ a. a.refusal) (λ a. a.place)
      (λ x. refl) (λ k p. refl) (λ k p. refl) (λ x y e. ap (λ a. a.sounding) e);
  mark = placed_one (mark_answer 0 0) (λ f p. mark_answer f p Nothing) (λ a. a.refusal) (λ a. a.place) (λ x. refl)
      (λ k p. refl) (λ k p. refl) (λ x y e. ap (λ a. a.mark) e);
  edge_mark = told_one (mark_answer 0 0) no_edge_mark (λ a. a.refusal) (λ x. refl) (λ k. refl)
      (λ x y e. ap (λ a. a.mark) e);
  verdict = verdict_one;
  mend = told_one (λ (m : Written). mend_answer 0 m.count m.changes) no_mend (λ a. a.refusal) (λ x. refl) (λ k. refl)
      (λ x y e i. record { count = (e i).count; changes = (e i).changes });
  small = told_one (small_answer 0) no_small (λ a. a.refusal) (λ x. refl) (λ k. refl) (λ x y e. ap (λ a. a.code) e);
  small_step = told_one (λ (s : SmallStep). small_step 0 s.code s.edge s.first s.second) no_small_step
      (λ a. a.refusal) (λ x. refl) (λ k. refl)
      (λ x y e i. record { code = (e i).code; edge = (e i).edge; first = (e i).first; second = (e i).second });
}
  where
    unfiled_0 : (x : Option Unfiled) → (unfiled_told x).refusal ≡ 0
    unfiled_0 None = refl
    unfiled_0 (Some a) = refl
