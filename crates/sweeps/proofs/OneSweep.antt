-- For every input exactly one answer meets the promise of a sweep. Assumes nothing.
use mathlib.Core.Path.{◌≡◌, ◌∙◌, refl, sym, ap}
use mathlib.Core.List.{List}
use Prim.Native.Nat.{ℕ, ◌%◌}
use lib.IntN.{ℤ}
use lib.ListN.{length}
use Rattle.frame.specs.Answers.{over}
use Rattle.frame.specs.Promises.{KeepsLent, together}
use Rattle.frame.proofs.Answering.{answer_one, answer_some, keeps}
use Rattle.sweeps.specs.Sweeps.{SweepAnswer, codes_of, refusals_of, no_sweep, told, Swept}
use Rattle.sweeps.specs.Refusals.{refuse_sweep}
use Rattle.sweeps.specs.Answers.{SweptInto, SweepResult}
use Rattle.sweeps.proofs.SingleCalls.{singles_one, singles_some}
use Rattle.sweeps.proofs.Told.{told_0}
use Rattle.sweeps.proofs.Refused.{fine}

-- ---- what they come to

-- the answer and the codes, of any two lists of single answers
pub swept_one : {n : ℕ} {dirs : List ℤ} {a b : SweepAnswer} {cs ds : List ℕ} → Swept n dirs a cs
    → Swept n dirs b ds
    → (a ≡ b) × (cs ≡ ds)
swept_one x y =
    let e = singles_one x.each y.each in
    (x.answer ∙ ap (λ rs. told (refusals_of rs)) e ∙ sym y.answer, x.are ∙ ap codes_of e ∙ sym y.are)

pub swept_some : (n : ℕ) (dirs : List ℤ) → length dirs % 3 ≡ 0
    → (a : SweepAnswer) × (cs : List ℕ) × Swept n dirs a cs
swept_some n dirs e =
    let s = singles_some n dirs e in
    (told (refusals_of s.0), codes_of s.0, record { singles = s.0; each = s.1; answer = refl; are = refl })

pub swept_0 : {n : ℕ} {dirs : List ℤ} {a : SweepAnswer} {cs : List ℕ} → Swept n dirs a cs → a.refusal ≡ 0
swept_0 x = ap (λ (r : SweepAnswer). r.refusal) x.answer ∙ told_0 _

-- ---- into the list

pub sweep_one : (n : ℕ) (dirs : List ℤ) (out : List ℕ) (x y : SweepAnswer × List ℕ)
    → together (SweepResult n dirs out) x → together (SweepResult n dirs out) y → x ≡ y
sweep_one n dirs out x y = answer_one (λ z p q.
    let e = swept_one p.swept q.swept in
    λ i. (e.0 i, (p.put ∙ ap (λ (cs : List ℕ). over cs out) e.1 ∙ sym q.put) i))

pub sweep_keeps : (n : ℕ) (dirs : List ℤ) (out : List ℕ)
    → KeepsLent (refuse_sweep n dirs out) (SweepResult n dirs out) (λ r. r.refusal) no_sweep out
sweep_keeps n dirs out =
    keeps (λ x. x.0.refusal) refl (λ x s. swept_0 s.swept)
    (answer_some (refuse_sweep n dirs out) (together (SweptInto n dirs out)) (λ f. (no_sweep f, out)) (λ z.
    let s = swept_some n dirs (fine n dirs out z).threes in
    ((s.0, over s.1 out), record { codes = s.1; swept = s.2; put = refl })))
    (sweep_one n dirs out)
