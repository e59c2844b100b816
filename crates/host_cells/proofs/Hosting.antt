-- What a host reads of the two calls on a cell list over bytes. Assumes nothing.
use mathlib.Core.Path.{◌≡◌, ◌∙◌, sym, ap}
use mathlib.Core.Logic.{◌⊎◌, inl, inr, ⊎_elim}
use mathlib.Core.List.{List, [], ◌∷◌}
use Prim.Native.Nat.{ℕ, zero, suc, ◌*◌, ◌/◌, ◌%◌, ◌^◌, ◌≤◌, ◌<◌}
use native.Mathlib.Omega.{arith}
use lib.ListN.{length, get_or, drop, length-map}
use Rattle.frame.specs.Answers.{over}
use Rattle.frame.proofs.Answering.{answers_or_not}
use Rattle.octets.specs.Bytes.{bytes, number_at, words_in}
use Rattle.octets.proofs.Laying.{number_at_lem, after_bytes, as_long}
use Rattle.cells.specs.Checking.{checked}
use Rattle.mending.specs.Mending.{Change, mended, changes}
use Rattle.mending.specs.Answers.{Lists, words_of, reasons_of}
use Rattle.mending.proofs.Again.{fits}
use Rattle.host_cells.specs.Refusals.{refuse_check, refuse_mend}
use Rattle.host_cells.specs.Answers.{CheckBytes, mend_out, MendBytes}
use Rattle.host_cells.specs.Promises.{HostedCheck, Laid, HostedMend}
use Rattle.host_cells.proofs.CellBytes.{words_long, check_odd, check_nothing, check_fine, check_nine}
use Rattle.host_cells.proofs.CellBytes.{mend_long, mend_odd, mend_nothing, Fine, mend_fine, mend_nine}
use Rattle.host_cells.proofs.Sizes.{AreBytes, words_small, verdict_small, Small, small_at, at_small}
use Rattle.host_cells.proofs.Sizes.{mended_small, changes_small}
use Rattle.host_cells.proofs.OneAnswers.{one_answer}

-- numbers that fit, over the front of bytes
sent : (ws old new : List ℕ) → ((i : ℕ) → get_or ws i 0 < 2 ^ 64) → 8 * length ws ≤ length old
    → new ≡ over (bytes 8 ws) old → Laid ws old new
sent ws old new s l p = record {
  reads = λ i k. ap (λ (x : List ℕ). number_at 8 x i) p
      ∙ number_at_lem 8 ws (drop (length (bytes 8 ws)) old) i k (s i);
  later = ap (drop (8 * length ws)) p ∙ after_bytes 8 ws old;
  long = ap length p ∙ as_long 8 ws old l;
}

-- ---- checking

module _ (list out : List ℕ) (r : ℕ) (new : List ℕ) (few : length list < 2 ^ 64) (p : CheckBytes list out r new) where
  abbrev ws : List ℕ
  ws = (checked (words_in list)).reason ∷ (checked (words_in list)).place ∷ []

  number : r ≡ refuse_check list out
  number = (one_answer.check_cells list out).exactly (r, new) p

  kept : (r ≡ 0 → ⊥) → new ≡ out
  kept k = ap (λ (x : ℕ × List ℕ). x.1) (p.refused (λ z. k (number ∙ z)))

  whole : r ≡ 0 → Laid ws out new
  whole z =
      sent ws out new (verdict_small (words_in list) (omega (arith, few, words_long list)))
      (check_fine list out (sym number ∙ z)).1 (ap (λ (x : ℕ × List ℕ). x.1) (p.answered (sym number ∙ z)))

  refused : (length list % 8 ≡ 0 → ⊥) ⊎ (length out < 16) → r ≡ 9
  refused (inl k) = number ∙ sym (check_odd list out k)
  refused (inr l) = number ∙ sym (check_nine list out (λ z. omega (arith, (check_fine list out z).1, l)))

  pub hosted_check : HostedCheck (checked (words_in list)) list out r new
  hosted_check = record {
    refused = refused;
    answered = λ e l. number ∙ sym (check_nothing list out e l);
    told = λ z. (whole z).reads;
    later = ⊎_elim (λ z. (whole z).later) (λ k. ap (drop 16) (kept k)) (answers_or_not r);
    kept = kept;
    long = ⊎_elim (λ z. (whole z).long) (λ k. ap length (kept k)) (answers_or_not r);
  }

-- ---- mending

module _ (list : List ℕ) (l : Lists) (out : List ℕ) (r : ℕ) (new : Lists × List ℕ) (are : AreBytes list)
    (p : MendBytes list l out r new) where
  abbrev us : List ℕ
  us = words_in list

  abbrev cs : List Change
  cs = changes us

  is : r ≡ refuse_mend list l out
  is = (one_answer.mend_cells list l out).exactly (r, new) p

  -- nine where one of the tests fails
  nine : length list / 8 ≤ 4096 → (Fine list l out → ⊥) → r ≡ 9
  nine few k = is ∙ sym (mend_nine list l out few (λ z. k (mend_fine list l out z)))

  sizes : Small (words_of cs) × Small (reasons_of cs)
  sizes = changes_small us (at_small us (λ i h. words_small (length list / 8) list are i))

  module _ (z : r ≡ 0) where
    fine : Fine list l out
    fine = mend_fine list l out (sym is ∙ z)

    left : new ≡ mend_out list l out
    left = ap (λ (x : ℕ × (Lists × List ℕ)). x.1) (p.answered (sym is ∙ z))

    -- there are at most as many as words
    room : (ws old : List ℕ) → length ws ≤ length us → length list ≤ length old → 8 * length ws ≤ length old
    room ws old h k = omega (arith, h, k, words_long list)

    counts : (i : ℕ) → get_or (length (mended us) ∷ length cs ∷ []) i 0 < 2 ^ 64
    counts zero = omega (arith, (fits us).0, words_long list, fine.few)
    counts (suc zero) = omega (arith, (fits us).1, words_long list, fine.few)
    counts (suc (suc i)) = omega arith

  pub hosted_mend : HostedMend (mended us) cs list l out r new
  hosted_mend = record {
    too_long = λ h. is ∙ sym (mend_long list l out h);
    odd = λ few k. is ∙ sym (mend_odd list l out few k);
    short = λ few h. nine few (λ f. omega (arith, f.room, h));
    short_words = λ few h. nine few (λ f. omega (arith, f.room_words, h));
    short_reasons = λ few h. nine few (λ f. omega (arith, f.room_reasons, h));
    short_out = λ few h. nine few (λ f. omega (arith, f.enough, h));
    answered = λ few e a b c o. is ∙ sym (mend_nothing list l out few e a b c o);
    codes = λ z. sent (mended us) l.out _ (small_at (mended us) (mended_small us))
        (room z (mended us) l.out (fits us).0 (fine z).room)
        (ap (λ (x : Lists × List ℕ). x.0.out) (left z));
    words = λ z. sent (words_of cs) l.words _ (small_at (words_of cs) sizes.0)
        (room z (words_of cs) l.words (omega (arith, (fits us).1, length-map cs (λ c. c.word))) (fine z).room_words)
        (ap (λ (x : Lists × List ℕ). x.0.words) (left z));
    reasons = λ z. sent (reasons_of cs) l.reasons _ (small_at (reasons_of cs) sizes.1)
        (room z (reasons_of cs) l.reasons (omega (arith, (fits us).1, length-map cs (λ c. c.reason)))
        (fine z).room_reasons)
        (ap (λ (x : Lists × List ℕ). x.0.reasons) (left z));
    counts = λ z. sent (length (mended us) ∷ length cs ∷ []) out _ (counts z) (fine z).enough
        (ap (λ (x : Lists × List ℕ). x.1) (left z));
    kept = λ k. ap (λ (x : ℕ × (Lists × List ℕ)). x.1) (p.refused (λ z. k (is ∙ z)));
  }
