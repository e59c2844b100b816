-- A sweep over bytes has exactly one answer, and a host reads there what the call on numbers answers. Assumes nothing.
use mathlib.Core.Path.{◌≡◌, ◌∙◌, refl, sym, ap}
use mathlib.Core.Logic.{⊎_elim}
use mathlib.Core.List.{List, [], ◌∷◌}
use Prim.Native.Nat.{ℕ, ◌*◌, ◌/◌, ◌%◌, ◌^◌, ◌≤◌, ◌<◌}
use native.Mathlib.Omega.{arith}
use lib.ListN.{length, get_or, drop, get_or-append}
use Rattle.frame.specs.Answers.{over}
use Rattle.frame.specs.Promises.{KeepsLent, together}
use Rattle.frame.proofs.Answering.{answers_or_not, answer_one, answer_some, keeps}
use Rattle.octets.specs.Bytes.{bytes, number_at}
use Rattle.octets.proofs.Laying.{number_at_lem, after_bytes, as_long}
use Rattle.golden.proofs.IntegerOrder.{le_or_lt}
use Rattle.sweeps.specs.Answers.{SweptInto, SweepResult}
use Rattle.sweeps.specs.Sweeps.{SweepAnswer}
use Rattle.sweeps.proofs.Refused as numbers
use Rattle.sweeps.proofs.OneSweep.{swept_one, swept_some, sweep_keeps as Numbers-keep}
use Rattle.sweeps.specs.Refusals.{refuse_sweep as numbers-refusal}
use Rattle.sweeps.proofs.SweptParts.{swept_long, swept_small}
use Rattle.host_sweeps.specs.Refusals.{refuse_sweep}
use Rattle.host_sweeps.specs.Answers.{directions_in, SentSweep, SweepBytes}
use Rattle.host_sweeps.specs.Promises.{HostedSweep}
use Rattle.host_sweeps.proofs.ByteSweeps.{in_long, fine, refuse_codes, refuse_out, refuse_nothing}
use Rattle.host_sweeps.proofs.ByteSweeps.{refuse_degree}

-- ---- exactly one answer

sent_one : {n : ℕ} {dirs codes out : List ℕ} (x y : ℕ × (List ℕ × List ℕ))
    → together (SentSweep n dirs codes out) x → together (SentSweep n dirs codes out) y → x ≡ y
sent_one {n} {dirs} {codes} {out} x y p q =
    let e = swept_one p.swept.swept q.swept.swept in
    λ i. (
      (p.answered ∙ sym q.answered) i,
      (
        (p.swept.put ∙ ap (λ (cs : List ℕ). over (bytes 8 cs) codes) e.1 ∙ sym q.swept.put) i,
        (p.put ∙ ap (λ (a : SweepAnswer). over (bytes 8 (a.refused ∷ a.place ∷ a.first ∷ [])) out) e.0
            ∙ sym q.put) i,
      ),
    )

pub sweep_one : (n : ℕ) (dirs codes out : List ℕ) (x y : ℕ × (List ℕ × List ℕ))
    → together (SweepBytes n dirs codes out) x → together (SweepBytes n dirs codes out) y → x ≡ y
sweep_one n dirs codes out x y = answer_one (λ z. sent_one x y)

pub sweep_keeps : (n : ℕ) (dirs codes out : List ℕ)
    → KeepsLent (refuse_sweep n dirs codes out) (SweepBytes n dirs codes out) (λ r. r) (λ f. f) (codes, out)
sweep_keeps n dirs codes out =
    keeps (λ x. x.0) refl (λ x s. s.answered)
    (answer_some (refuse_sweep n dirs codes out) (together (SentSweep n dirs codes out)) (λ k. (k, (codes, out))) (λ z.
    let f = fine n dirs codes out z in
    let s = swept_some n (directions_in dirs) (omega (arith, in_long dirs, f.even)) in (
      (0, (over (bytes 8 s.1) codes, over (bytes 8 (s.0.refused ∷ s.0.place ∷ s.0.first ∷ [])) out)),
      record {
        told = s.0;
        swept = record { written = s.1; swept = s.2; put = refl };
        answered = refl;
        put = refl;
      },
    )))
    (sweep_one n dirs codes out)

-- ---- what a host reads

module _ (n : ℕ) (dirs codes out places left : List ℕ) (a : SweepAnswer) (r : ℕ) (new : List ℕ × List ℕ)
    (short : length dirs < 2 ^ 64) (even : length dirs % 12 ≡ 0) (room : length dirs / 12 ≤ length places)
    (s : SweepResult n (directions_in dirs) places a left) (p : SweepBytes n dirs codes out r new) where
  abbrev m : ℕ
  m = length dirs / 12

  abbrev g : ℕ
  g = refuse_sweep n dirs codes out

  number : r ≡ g
  number = (sweep_keeps n dirs codes out).exactly (r, new) p

  -- the call on numbers is refused for the degree alone
  its : a.refusal ≡ numbers-refusal n (directions_in dirs) places
  its = (Numbers-keep n (directions_in dirs) places).exactly (a, left) s

  passes : n ≤ 24 → a.refusal ≡ 0
  passes l = its ∙ sym (numbers.refuse_none n (directions_in dirs) places l (omega (arith, in_long dirs, even))
      (omega (arith, in_long dirs, even, room)))

  low : a.refusal ≡ 0 → n ≤ 24
  low z = (numbers.fine n (directions_in dirs) places (sym its ∙ z)).low

  refused : (a.refusal ≡ 0 → ⊥) → r ≡ a.refusal
  refused k = ⊎_elim (λ l. absurd (k (passes l)))
      (λ l. number ∙ sym (refuse_degree n dirs codes out l)
      ∙ numbers.refuse_degree n (directions_in dirs) places l ∙ sym its)
      (le_or_lt n 24)

  kept : (r ≡ 0 → ⊥) → new ≡ (codes, out)
  kept k = ap (λ (x : ℕ × (List ℕ × List ℕ)). x.1) (p.refused (λ z. k (number ∙ z)))

  -- where it is answered: the same numbers
  module _ (z : g ≡ 0) where
    sent : SentSweep n dirs codes out r new
    sent = p.answered z

    whole : SweptInto n (directions_in dirs) places a left
    whole = s.answered (sym its ∙ passes (fine n dirs codes out z).low)

    same : (sent.told ≡ a) × (sent.swept.written ≡ whole.codes)
    same = swept_one sent.swept.swept whole.swept

    put : new.0 ≡ over (bytes 8 whole.codes) codes
    put = sent.swept.put ∙ ap (λ (cs : List ℕ). over (bytes 8 cs) codes) same.1

    put_out : new.1 ≡ over (bytes 8 (a.refused ∷ a.place ∷ a.first ∷ [])) out
    put_out = sent.put
        ∙ ap (λ (b : SweepAnswer). over (bytes 8 (b.refused ∷ b.place ∷ b.first ∷ [])) out) same.0

    many : length whole.codes ≡ m
    many = omega (arith, swept_long whole.swept, in_long dirs, even)

    sizes : ((i : ℕ) → get_or whole.codes i 0 < 2 ^ 64)
        × ((i : ℕ) → get_or (a.refused ∷ a.place ∷ a.first ∷ []) i 0 < 2 ^ 64)
    sizes = swept_small whole.swept (omega (arith, many, short))

  pub hosted_sweep : HostedSweep a left m codes out r new
  hosted_sweep = record {
    refused = refused;
    short = λ z l. number ∙ sym (refuse_codes n dirs codes out (low z) even l);
    short_out = λ z l. ⊎_elim (λ c. number ∙ sym (refuse_out n dirs codes out (low z) even c l))
        (λ c. number ∙ sym (refuse_codes n dirs codes out (low z) even c)) (le_or_lt (8 * m) (length codes));
    answered = λ z c l. number ∙ sym (refuse_nothing n dirs codes out (low z) even c l);
    code = λ e i l.
        let z = sym number ∙ e in
        let cs = (whole z).codes in
        ap (λ (x : List ℕ). number_at 8 x i) (put z)
        ∙ number_at_lem 8 cs (drop (length (bytes 8 cs)) codes) i (omega (arith, many z, l)) ((sizes z).0 i)
        ∙ sym (ap (λ (x : List ℕ). get_or x i 0) (whole z).put
        ∙ get_or-append cs (drop (length cs) places) 0 i (omega (arith, many z, l)));
    told = λ e i l.
        let z = sym number ∙ e in
        let ws = a.refused ∷ a.place ∷ a.first ∷ [] in
        ap (λ (x : List ℕ). number_at 8 x i) (put_out z)
        ∙ number_at_lem 8 ws (drop (length (bytes 8 ws)) out) i l ((sizes z).1 i);
    later_codes = ⊎_elim
        (λ z. let e : 8 * length (whole z).codes ≡ 8 * m = omega (arith, many z) in
        (λ i. drop (sym e i) (put z i)) ∙ after_bytes 8 (whole z).codes codes ∙ ap (λ (k : ℕ). drop k codes) e)
        (λ k. ap (λ (x : List ℕ × List ℕ). drop (8 * m) x.0) (kept (λ e. k (sym number ∙ e))))
        (answers_or_not g);
    later = ⊎_elim
        (λ z. ap (drop 24) (put_out z) ∙ after_bytes 8 (a.refused ∷ a.place ∷ a.first ∷ []) out)
        (λ k. ap (λ (x : List ℕ × List ℕ). drop 24 x.1) (kept (λ e. k (sym number ∙ e))))
        (answers_or_not g);
    kept = kept;
    long = ⊎_elim
        (λ z. let f = fine n dirs codes out z in (
          ap length (put z) ∙ as_long 8 (whole z).codes codes (omega (arith, many z, f.room)),
          ap length (put_out z) ∙ as_long 8 (a.refused ∷ a.place ∷ a.first ∷ []) out
              (omega (arith, f.enough)),
        ))
        (λ k. let e = kept (λ e. k (sym number ∙ e)) in
        (ap (λ (x : List ℕ × List ℕ). length x.0) e, ap (λ (x : List ℕ × List ℕ). length x.1) e))
        (answers_or_not g);
  }
