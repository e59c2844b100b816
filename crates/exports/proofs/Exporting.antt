-- An exported call over a call of the grid or of a request: what it returns, that there is one answer, what a host
-- reads. The call refuses f; the exported call refuses f and then a slice of less than `least` bytes, g in all. Assumes
-- nothing.
use mathlib.Core.Path.{◌≡◌, ◌∙◌, refl, sym, ap, subst}
use mathlib.Core.Logic.{⊎_elim}
use mathlib.Core.List.{List}
use Prim.Native.Nat.{ℕ, ◌*◌, ◌^◌, ◌≤◌, ◌<◌}
use native.Mathlib.Omega.{arith}
use lib.ListN.{length, get_or, drop}
use Rattle.std.specs.Prelude.{Result, IsErr}
use Rattle.std.specs.Result.{IsErrAnd}
use Rattle.frame.specs.declared.Refusal.{Refusal}
use Rattle.frame.specs.Refusals.{number, told_number}
use Rattle.frame.specs.Answers.{over}
use Rattle.frame.specs.Promises.{KeepsLent, together}
use Rattle.frame.proofs.Answering.{answers_or_not, answer_one, answer_some, keeps, number_is}
use Rattle.frame.proofs.Lengths.{ThenNine}
use Rattle.frame.proofs.Told.{handed}
use Rattle.golden.proofs.IntegerOrder.{le_or_lt}
use Rattle.octets.specs.Bytes.{bytes, number_at}
use Rattle.octets.proofs.Laying.{number_at_lem, after_bytes, as_long}
use Rattle.exports.specs.Answers.{Sent, ExportedAs}
use Rattle.exports.specs.Promises.{Delivered, Hosted}

-- What a program delivers that hands a refusal on, else 9 where the slice is shorter, else its bytes.
module _ {f : ℕ} (bs : List ℕ) {least : ℕ} {out : List ℕ} where
  pub refused_on : (f ≡ 0 → ⊥) → Delivered f bs least out f out
  refused_on some = record {
    refused = λ n. refl;
    short = λ z l. absurd (some z);
    answered = λ z l. z;
    written = λ z. absurd (some z);
    kept = λ n. refl;
  }

  pub short_on : f ≡ 0 → length out < least → Delivered f bs least out 9 out
  short_on z l = record {
    refused = λ some. absurd (some z);
    short = λ e h. refl;
    answered = λ e h. absurd (omega (arith, l, h));
    written = λ e. absurd (omega (arith, e));
    kept = λ n. refl;
  }

  pub sent_on : {new : List ℕ} → f ≡ 0 → least ≤ length out → new ≡ over bs out → Delivered f bs least out 0 new
  sent_on z l put = record {
    refused = λ some. absurd (some z);
    short = λ e h. absurd (omega (arith, l, h));
    answered = λ e h. refl;
    written = λ e. put;
    kept = λ n. absurd (n refl);
  }

-- What is delivered so is the complete answer.
module _ (laid : List ℕ → List ℕ) {f g least : ℕ} (Good : List ℕ → Type 0) (ms : List ℕ) {out : List ℕ} {k r : ℕ}
    {new : List ℕ} (nine : ThenNine f g least (length out)) (own : k ≡ f) (good : f ≡ 0 → Good ms)
    (d : Delivered k (laid ms) least out r new) where
  number_delivered : (g ≡ 0 → ⊥) → r ≡ g
  number_delivered some =
      ⊎_elim
      (λ z. ⊎_elim (λ l. absurd (some (nine.passes.1 (sym own ∙ z, l))))
      (λ l. d.short z l ∙ nine.nine (sym own ∙ z) l) (le_or_lt least (length out)))
      (λ refused. d.refused refused ∙ nine.first own refused) (answers_or_not k)

  pub from_delivered : ExportedAs laid g Good out r new
  from_delivered = record {
    answered = λ z.
        let p = nine.passes.0 z in
        let e = d.answered (own ∙ p.0) p.1 in
        record { numbers = ms; good = good p.0; answered = e; put = d.written e };
    refused = λ some.
        let e = number_delivered some in
        λ i. (e i, d.kept (λ z. some (sym e ∙ z)) i);
  }

-- What the program returns over a call that refuses k, and answers the numbers ms where k is 0.
pub record Returns (laid : List ℕ → List ℕ) (k g least : ℕ) (Good : List ℕ → Type 0) (ms out : List ℕ) : Type 0 where
  pub refused : (k ≡ 0 → ⊥) → ExportedAs laid g Good out k out
  pub short : k ≡ 0 → length out < least → ExportedAs laid g Good out 9 out
  pub sent : k ≡ 0 → least ≤ length out → {new : List ℕ} → new ≡ over (laid ms) out
      → ExportedAs laid g Good out 0 new

module _ (laid : List ℕ → List ℕ) {f g least : ℕ} (Good : List ℕ → Type 0) (out : List ℕ)
    (nine : ThenNine f g least (length out)) where
  pub returned : {k : ℕ} (ms : List ℕ) → k ≡ f → (f ≡ 0 → Good ms) → Returns laid k g least Good ms out
  returned ms number good = record {
    refused = λ some. from_delivered laid Good ms nine number good (refused_on (laid ms) some);
    short = λ z l. from_delivered laid Good ms nine number good (short_on (laid ms) z l);
    sent = λ z l put. from_delivered laid Good ms nine number good (sent_on (laid ms) z l put);
  }

  -- ---- one answer, where the numbers are one list

  module _ (one : f ≡ 0 → (ms ns : List ℕ) → Good ms → Good ns → ms ≡ ns) where
    none : g ≡ 0 → f ≡ 0
    none z = (nine.passes.0 z).0

    pub exported_one : (x y : ℕ × List ℕ) → together (ExportedAs laid g Good out) x
        → together (ExportedAs laid g Good out) y
        → x ≡ y
    exported_one x y =
        answer_one (λ z p q.
        let e = one (none z) p.numbers q.numbers p.good q.good in
        λ i. (
          (p.answered ∙ sym q.answered) i,
          (p.put ∙ ap (λ (ms : List ℕ). over (laid ms) out) e ∙ sym q.put) i,
        ))

    pub exported_keeps : (f ≡ 0 → (ms : List ℕ) × Good ms)
        → KeepsLent g (ExportedAs laid g Good out) (λ r. r) (λ k. k) out
    exported_keeps some =
        keeps (λ x. x.0) refl (λ x s. s.answered)
        (answer_some g (together (Sent laid Good out)) (λ k. (k, out)) (λ z.
        let m = some (none z) in
        ((0, over (laid m.0) out), record { numbers = m.0; good = m.1; answered = refl; put = refl })))
        exported_one

    -- ---- what a host has, where the call refuses k and answers the numbers ms

    pub delivered : {k r : ℕ} {new : List ℕ} (ms : List ℕ) → k ≡ f → (f ≡ 0 → Good ms)
        → ExportedAs laid g Good out r new → Delivered k (laid ms) least out r new
    delivered {k} {r} {new} ms own good p =
        record {
          refused = λ some. number ∙ sym (nine.first own some);
          short = λ z l. number ∙ sym (nine.nine (sym own ∙ z) l);
          answered = λ z l. number ∙ nine.passes.1 (sym own ∙ z, l);
          written = λ e.
              let z = sym number ∙ e in
              let s = p.answered z in
              s.put ∙ ap (λ (ns : List ℕ). over (laid ns) out)
              (one (none z) s.numbers ms s.good (good (none z)));
          kept = λ some. ap (λ (x : ℕ × List ℕ). x.1) (p.refused (λ z. some (number ∙ z)));
        }
      where
        number : r ≡ g
        number = number_is (λ (x : ℕ × List ℕ). x.0) refl (λ x s. s.answered) p

-- a call that is answered was not refused
pub delivered_passed : {f least : ℕ} {bs out : List ℕ} {r : ℕ} {new : List ℕ} → Delivered f bs least out r new → r ≡ 0
    → f ≡ 0
delivered_passed {f} d e = ⊎_elim (λ z. z) (λ some. sym (d.refused some) ∙ e) (answers_or_not f)

-- ---- what a host reads, eight bytes for each number

-- numbers that fit in so many bytes
abbrev pub Fitting : (least : ℕ) → List ℕ → Type 0
Fitting least ms = (8 * length ms ≤ least) × ((i : ℕ) → i < length ms → get_or ms i 0 < 2 ^ 64)

-- where it has the bytes of these numbers, which fit
pub hosted : {f least : ℕ} {ms out : List ℕ} {r : ℕ} {new : List ℕ} → Delivered f (bytes 8 ms) least out r new
    → (f ≡ 0 → Fitting least ms) → Hosted f ms least out r new
hosted {f} {least} {ms} {out} {r} {new} d fitting =
    record {
      refused = d.refused;
      short = d.short;
      answered = d.answered;
      reads = λ e i j. ap (λ (x : List ℕ). number_at 8 x i) (d.written e)
          ∙ number_at_lem 8 ms (drop (length (bytes 8 ms)) out) i j ((fitting (delivered_passed d e)).1 i j);
      later = ⊎_elim (λ e. ap (drop (8 * length ms)) (d.written e) ∙ after_bytes 8 ms out)
          (λ some. ap (drop (8 * length ms)) (d.kept some)) (answers_or_not r);
      kept = d.kept;
      long = ⊎_elim (λ e. ap length (d.written e) ∙ as_long 8 ms out (enough e)) (λ some. ap length (d.kept some))
          (answers_or_not r);
    }
  where
    -- it had bytes enough
    enough : r ≡ 0 → 8 * length ms ≤ length out
    enough e =
        let z = delivered_passed d e in
        ⊎_elim (λ l. omega (arith, l, (fitting z).0)) (λ l. absurd (omega (arith, e, d.short z l)))
        (le_or_lt least (length out))

-- What is said of a refusal's number is said of the result that `?` hands on, and of the number that is returned.
pub handed_number : {A : Type 0} (P : ℕ → Type 0) (e : Refusal) (r : Result A Refusal)
    → IsErr r × IsErrAnd r (λ x. x ≡ e) → P (number e) → P (told_number r)
handed_number P e r h = subst P (sym (ap told_number (handed r h)))
