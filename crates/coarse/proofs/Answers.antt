-- Exactly one answer for every input, and what an answer's refusal is. Assumes nothing.
use mathlib.Core.Path.{refl}
use Prim.Native.Nat.{ℕ}
use Rattle.frame.specs.Promises.{KeepsLent}
use Rattle.frame.proofs.Answering.{keeps_known}
use Rattle.words.specs.declared.TriangleCode.{TriangleCode}
use Rattle.tables.specs.Answers.{refused}
use Rattle.tables.specs.declared.Deed.{Deed}
use Rattle.tables.specs.declared.Deed.TheVariants.{Taking, Setting, Clearing, Giving}
use Rattle.coarse.specs.Sums.{Chart}
use Rattle.coarse.specs.Refusals.{refuse_kept, refuse_work_out}
use Rattle.coarse.specs.Answers.{kept_out, refused_kept, KeptAnswer, worked_out, refused_work_out}
use Rattle.coarse.specs.Promises.{OneAnswer}

-- of a call that writes
pub each_kept : (e : Deed) (d n : ℕ) (t : TriangleCode) (c : Chart)
    → KeepsLent (refuse_kept e d n t c) (KeptAnswer e d n t c) (λ r. r.refusal) (refused c.shared.readings) c
each_kept e d n t c =
    keeps_known (refuse_kept e d n t c) (kept_out e d n t c) (refused_kept c) (λ x. x.0.refusal) refl refl

pub one_answer : OneAnswer
one_answer = record {
  take = each_kept Taking;
  set = λ d n t x. each_kept (Setting x) d n t;
  clear = each_kept Clearing;
  give = each_kept Giving;
  work_out = λ n list c.
      keeps_known (refuse_work_out n list c) (worked_out n list) (refused_work_out list c) (λ x. x.0.refusal) refl refl;
}
