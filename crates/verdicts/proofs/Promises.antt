-- Which line is written for which file. Assumes nothing.
use mathlib.Core.Path.{◌≡◌, ◌∙◌, refl, sym, ap}
use mathlib.Core.Bool.{true, false}
use mathlib.Core.Logic.{◌↔◌, ◌⊎◌, inl, inr, ⊎_elim}
use mathlib.Core.List.{List, [], ◌++◌}
use Prim.Native.Nat.{ℕ, ◌/◌, ◌%◌, ◌^◌, ◌≤◌, ◌<◌}
use native.Mathlib.Omega.{arith}
use lib.Dec.{ltb, eqb}
use lib.ListN.{length, get_or}
use borrow.Author.Tests.{ltb-true, ltb-false, eqb-true, eqb-false}
use Rattle.octets.specs.Bytes.{bytes, read_each, numbers, words_in}
use Rattle.octets.proofs.Laying.{bytes_long, read_long, numbers_back}
use Rattle.lines.specs.Writing.{decimal}
use Rattle.cells.specs.Checking.{checked, Accepted}
use Rattle.cells.specs.Promises.{FirstOffence}
use Rattle.cells.specs.Checking.{Verdict}
use Rattle.cells.proofs.Dictionary.{known}
use Rattle.cells.proofs.Accepting.{checks, reason_none}
use Rattle.verdicts.specs.Program.{accepted_text, bad_length_text, too_long_text, place_text, reason_text}
use Rattle.verdicts.specs.Program.{verdict_text, text}
use Rattle.verdicts.specs.Promises.{Lines}
use Rattle.verdicts.proofs.Texts.{text_accepted, text_place}

-- a text is told from another by its first byte
differ : (xs ys : List ℕ) → eqb (get_or xs 0 0) (get_or ys 0 0) ≡ false → xs ≡ ys → ⊥
differ xs ys d e = eqb-false _ _ d (ap (λ (l : List ℕ). get_or l 0 0) e)

module _ (file : List ℕ) where
  n : ℕ
  n = length file

  words : length (words_in file) ≡ n / 8
  unfolding n
  words = read_long (λ w. w) 8 (length file / 8) file

  -- ---- the three cases

  data Case : Type 0 where
    is_bad : (n % 8 ≡ 0 → ⊥) → text file ≡ bad_length_text → Case
    is_long : n % 8 ≡ 0 → 4096 < n / 8 → text file ≡ too_long_text → Case
    is_checked : n % 8 ≡ 0 → n / 8 ≤ 4096 → text file ≡ verdict_text (checked (words_in file)) → Case

  cases : Case
  unfolding text n
  cases = go (known (eqb (length file % 8) 0)) (known (ltb 4096 (length file / 8)))
    where
      go : (eqb (length file % 8) 0 ≡ true) ⊎ (eqb (length file % 8) 0 ≡ false)
          → (ltb 4096 (length file / 8) ≡ true) ⊎ (ltb 4096 (length file / 8) ≡ false) → Case
      go (inr e) l = is_bad (eqb-false _ _ e) (rw e)
      go (inl e) (inl l) = is_long (eqb-true _ _ e) (ltb-true _ _ l) (rw (e, l))
      go (inl e) (inr l) = is_checked (eqb-true _ _ e) (ltb-false _ _ l) (rw (e, l))

  -- ---- what each text says

  v : Verdict
  v = checked (words_in file)

  verdict_first : (v.reason ≡ 0) ⊎ (get_or (verdict_text v) 0 0 ≡ 112)
  unfolding verdict_text
  verdict_first = ⊎_elim (λ e. inl (eqb-true _ _ e)) (λ e. inr (rw e refl)) (known (eqb v.reason 0))

  -- a verdict's text begins with no other letter
  not_verdict : (t : List ℕ) → eqb 97 (get_or t 0 0) ≡ false → eqb 112 (get_or t 0 0) ≡ false → verdict_text v ≡ t → ⊥
  not_verdict t a b e =
      let first : get_or (verdict_text v) 0 0 ≡ get_or t 0 0 = ap (λ (l : List ℕ). get_or l 0 0) e in
      ⊎_elim (λ z. differ accepted_text t a (text_accepted v z ∙ e)) (λ z. eqb-false _ _ b (sym z ∙ first))
      verdict_first

  accepts : (text file ≡ accepted_text)
      ↔ ((n % 8 ≡ 0) × (length (words_in file) ≤ 4096) × Accepted (words_in file))
  unfolding v
  accepts = (λ e. to e cases, λ p. from p cases)
    where
      to : text file ≡ accepted_text → Case
          → (n % 8 ≡ 0) × (length (words_in file) ≤ 4096) × Accepted (words_in file)
      to e (is_bad m t) = absurd (differ bad_length_text accepted_text refl (sym t ∙ e))
      to e (is_long m l t) = absurd (differ too_long_text accepted_text refl (sym t ∙ e))
      to e (is_checked m l t) = (
        m,
        omega (arith, l, words),
        reason_none (words_in file) (⊎_elim (λ z. z)
            (λ z. absurd (eqb-false 112 97 refl (sym z ∙ ap (λ (l : List ℕ). get_or l 0 0) (sym t ∙ e)))) verdict_first),
      )

      from : (n % 8 ≡ 0) × (length (words_in file) ≤ 4096) × Accepted (words_in file) → Case
          → text file ≡ accepted_text
      from p (is_bad m t) = absurd (m p.0)
      from p (is_long m l t) = absurd (omega (arith, l, p.1, words))
      from p (is_checked m l t) =
          t ∙ sym (text_accepted v (ap (λ (r : Verdict). r.reason) ((checks.exactly (words_in file)).1 p.2)))

  bad : (text file ≡ bad_length_text) ↔ (n % 8 ≡ 0 → ⊥)
  bad = (λ e. to e cases, λ m. from m cases)
    where
      to : text file ≡ bad_length_text → Case → n % 8 ≡ 0 → ⊥
      to e (is_bad m t) = m
      to e (is_long m l t) = absurd (differ too_long_text bad_length_text refl (sym t ∙ e))
      to e (is_checked m l t) = absurd (not_verdict bad_length_text refl refl (unfold v in sym t ∙ e))

      from : (n % 8 ≡ 0 → ⊥) → Case → text file ≡ bad_length_text
      from m (is_bad k t) = t
      from m (is_long k l t) = absurd (m k)
      from m (is_checked k l t) = absurd (m k)

  long : (text file ≡ too_long_text) ↔ ((n % 8 ≡ 0) × (4096 < length (words_in file)))
  long = (λ e. to e cases, λ p. from p cases)
    where
      to : text file ≡ too_long_text → Case → (n % 8 ≡ 0) × (4096 < length (words_in file))
      to e (is_bad m t) = absurd (differ bad_length_text too_long_text refl (sym t ∙ e))
      to e (is_long m l t) = (m, omega (arith, l, words))
      to e (is_checked m l t) = absurd (not_verdict too_long_text refl refl (unfold v in sym t ∙ e))

      from : (n % 8 ≡ 0) × (4096 < length (words_in file)) → Case → text file ≡ too_long_text
      from p (is_bad k t) = absurd (k p.0)
      from p (is_long k l t) = t
      from p (is_checked k l t) = absurd (omega (arith, l, p.1, words))

  offends : n % 8 ≡ 0 → length (words_in file) ≤ 4096 → (Accepted (words_in file) → ⊥)
      → (r : Verdict) × FirstOffence (words_in file) r
      × (text file ≡ place_text ++ decimal r.place ++ reason_text ++ decimal r.reason)
  offends m l bad = go cases
    where
      f : FirstOffence (words_in file) (checked (words_in file))
      f = checks.offence (words_in file) bad

      go : Case → (r : Verdict) × FirstOffence (words_in file) r
          × (text file ≡ place_text ++ decimal r.place ++ reason_text ++ decimal r.reason)
      go (is_bad k t) = absurd (k m)
      go (is_long k h t) = absurd (omega (arith, h, l, words))
      go (is_checked k h t) = (checked (words_in file), f, t ∙ sym (text_place (checked (words_in file)) f.some))

back : (ws : List ℕ) → ((i : ℕ) → i < length ws → get_or ws i 0 < 2 ^ 64) → words_in (bytes 8 ws) ≡ ws
back ws h =
    let e : length (bytes 8 ws) / 8 ≡ length ws = omega (arith, bytes_long 8 ws) in
    ap (λ (m : ℕ). numbers 8 m (bytes 8 ws)) e ∙ numbers_back 8 ws h

pub lines : Lines
unfolding n read_each
lines = record {
  accepts = accepts;
  offends = offends;
  empty = (accepts []).1 (refl, omega (arith, words []), (checks.exactly []).0 checks.empty);
  bad = bad;
  long = long;
  back = back;
}
