-- What is promised of the calls of a table. Assumes nothing.
use mathlib.Core.Path.{◌≡◌, ◌∙◌, refl, sym, ap, subst}
use mathlib.Core.Bool.{true, false}
use mathlib.Core.Logic.{◌↔◌, ⊎_elim}
use mathlib.Core.List.{List}
use Prim.Native.Nat.{ℕ}
use borrow.Author.Tests.{ne_eqb}
use lib.IntN.{ℤ}
use Rattle.frame.specs.Answers.{Known}
use Rattle.frame.specs.Promises.{KeepsLent}
use Rattle.frame.proofs.Answering.{answers_or_not, keeps_known}
use Rattle.words.specs.declared.TriangleCode.{TriangleCode}
use Rattle.tables.specs.Tables.{is_reading, none, is_bad, any_bad, least_bad, said, number, number_at}
use Rattle.tables.specs.Owners.{Shared}
use Rattle.tables.specs.Refusals.{refuse_get, refuse_deed}
use Rattle.tables.specs.Answers.{place_for, refused, refused_get, found, GetAnswer}
use Rattle.tables.specs.Answers.{carried_out, refused_deed, DeedAnswer}
use Rattle.tables.specs.Promises.{OneAnswer, IsLeastBad, Least, Visible}
use Rattle.std.specs.Prelude.{None, Some}
use Rattle.tables.specs.declared.Deed.{Deed}
use Rattle.tables.specs.declared.Deed.TheVariants.{Taking, Setting, Clearing, Giving}
use Rattle.tables.specs.Answers.{TableAnswer}
use Rattle.tables.specs.Answers.{SoundingAnswer}
use Rattle.frame.proofs.Scanning.{first_there, none_before, none_at}
use Rattle.tables.proofs.Numbers.{number_said, no_reading, reading_said}
use Rattle.tables.proofs.Refused.{call_passed, call_bad}
use Rattle.tables.proofs.Deeds.{deed_bad}

-- of a call that writes
deeds : (e : Deed) (d n : ℕ) (t : TriangleCode) (s : Shared)
    → KeepsLent (refuse_deed e d n t s) (DeedAnswer e d n t s) (λ r. r.refusal) (refused s.readings) s
deeds e d n t s =
    keeps_known (refuse_deed e d n t s) (carried_out e d t s) (refused_deed s) (λ x. x.0.refusal) refl refl

pub one_answer : OneAnswer
one_answer = record {
  get = λ n t list. keeps_known (refuse_get n t list) (found t list) (refused_get list) (λ r. r.refusal) refl refl;
  take = deeds Taking;
  set = λ d n t x. deeds (Setting x) d n t;
  clear = deeds Clearing;
  give = deeds Giving;
}

-- ---- the place beside a refusal

-- of an answer whose place is 0 or that of its refusal f, which is 23 only where the list holds a bad number; g is the
-- refusal that the answer tells
beside : {A : Type 0} {f : ℕ} {v : A} {zeros : ℕ → A} {r : A} (list : List ℤ) (place : A → ℕ) (g : ℕ)
    → place v ≡ 0 → ((k : ℕ) → place (zeros k) ≡ place_for list k) → (f ≡ 23 → any_bad list ≡ true)
    → g ≡ f → Known f v zeros r
    → (g ≡ 23 → IsLeastBad list (place r)) × ((g ≡ 23 → ⊥) → place r ≡ 0)
beside {f = f} {r = r} list place g none_there its bad e p = (
  λ z. subst (IsLeastBad list) (sym (told ∙ ap (place_for list) (sym e ∙ z))) (least_bad_lem (bad (sym e ∙ z))),
  λ d. told ∙ rw (ne_eqb f 23 (λ z. d (e ∙ z))) refl,
)
  where
    told : place r ≡ place_for list f
    told = ⊎_elim (λ z. ap place (p.answered z) ∙ none_there ∙ ap (place_for list) (sym z))
        (λ some. ap place (p.refused some) ∙ its f) (answers_or_not f)

    least_bad_lem : any_bad list ≡ true → IsLeastBad list (least_bad list)
    least_bad_lem b =
        let h = first_there is_bad none list b in
        record { inside = h.0; bad = h.1; first = none_before is_bad none list }

got : (n : ℕ) (t : TriangleCode) (list : List ℤ) (r : SoundingAnswer) → GetAnswer n t list r
    → (r.refusal ≡ 23 → IsLeastBad list r.place) × ((r.refusal ≡ 23 → ⊥) → r.place ≡ 0)
got n t list r p =
    beside list (λ (x : SoundingAnswer). x.place) r.refusal refl (λ k. refl) (call_bad n t list false)
    ((one_answer.get n t list).exactly r p) p

done : (e : Deed) (d n : ℕ) (t : TriangleCode) (s : Shared) (r : TableAnswer) (new : Shared)
    → DeedAnswer e d n t s r new
    → (r.refusal ≡ 23 → IsLeastBad s.readings r.place) × ((r.refusal ≡ 23 → ⊥) → r.place ≡ 0)
done e d n t s r new p =
    beside s.readings (λ (x : TableAnswer × Shared). x.0.place) r.refusal refl (λ k. refl)
    (deed_bad e d n t s) ((deeds e d n t s).exactly (r, new) p) p

pub least : Least
least = record {
  got = λ n t list r p. (got n t list r p).0;
  got_alone = λ n t list r p. (got n t list r p).1;
  done = λ e d n t s r new p. (done e d n t s r new p).0;
  done_alone = λ e d n t s r new p. (done e d n t s r new p).1;
}

-- ---- what get says

module _ (n : ℕ) (t : TriangleCode) (list : List ℤ) (r : SoundingAnswer) (p : GetAnswer n t list r) where
  not_bad : refuse_get n t list ≡ 0 → is_bad (number_at t list) ≡ false
  not_bad z = none_at is_bad none refl list _ (call_passed n t list false z).0.good

  unrefused : r.refusal ≡ 0 → refuse_get n t list ≡ 0
  unrefused e = sym ((one_answer.get n t list).exactly r p) ∙ e

  says : refuse_get n t list ≡ 0 → r.sounding ≡ said (number_at t list)
  says z = ap (λ (x : SoundingAnswer). x.sounding) (p.answered z)

  told : r.refusal ≡ 0 → number r.sounding ≡ number_at t list
  told e = ap number (says (unrefused e)) ∙ number_said (number_at t list)

  reading : (x : ℤ) → r.sounding ≡ Some x → is_reading x ≡ true
  reading x q =
      ⊎_elim (λ z. reading_said x (number_at t list) (not_bad z) (sym (says z) ∙ q))
      (λ some. absurd (no_reading (ap (λ (y : SoundingAnswer). y.sounding) (p.refused some)) q))
      (answers_or_not (refuse_get n t list))

  nothing : r.refusal ≡ 0 → (r.sounding ≡ None) ↔ (number_at t list ≡ none)
  nothing e = (λ q. sym (told e) ∙ ap number q, λ q. says (unrefused e) ∙ ap said q)

pub visible : Visible
visible = record {
  told = told;
  reading = λ n t list r x p. reading n t list r p x;
  nothing = nothing;
}
