-- The words of a list over bytes, and the refusals of both calls by their tests. Assumes nothing.
use mathlib.Core.Path.{◌≡◌, ◌∙◌, sym, ap}
use mathlib.Core.Bool.{not}
use mathlib.Core.Logic.{⊎_elim}
use mathlib.Core.List.{List, ◌∷◌, ◌++◌}
use Prim.Native.Nat.{ℕ, ◌-◌, ◌*◌, ◌/◌, ◌%◌, ◌≤◌, ◌<◌}
use native.Mathlib.Omega.{arith}
use borrow.Author.Tests.{ltb-false, lt-ltb, le-ltb, eqb-true, eq-eqb, ne_eqb, not-false}
use lib.Dec.{ltb}
use lib.ListN.{length, get_or, take, drop}
use Rattle.frame.specs.Refusals.{Row, ◌when◌, order, list_rows}
use Rattle.frame.proofs.Refusing.{refuse_first, here, next, nothing, none_so}
use Rattle.frame.proofs.Answering.{answers_or_not}
use Rattle.octets.specs.Bytes.{number_of, words_in}
use Rattle.octets.proofs.Laying.{read_long, read_at}
use Rattle.octets.proofs.WordLists.{rest}
use Rattle.mending.specs.Answers.{Lists}
use Rattle.mending.proofs.Nodes.{le_or_lt}
use Rattle.host_cells.specs.Refusals.{word_rows, refuse_check, refuse_mend}

-- ---- the words

module _ (list : List ℕ) where
  pub words_long : length (words_in list) ≡ length list / 8
  words_long = read_long (λ w. w) 8 (length list / 8) list

  pub word_here : {w : ℕ} (i : ℕ) → i < length list / 8
      → w ≡ number_of (take 8 (take (length list - 8 * i) (drop (8 * i) list))) → w ≡ get_or (words_in list) i 0
  word_here i l e =
      e ∙ ap (λ (bs : List ℕ). number_of (take 8 bs)) (rest list (8 * i) (omega (arith, l)))
      ∙ sym (read_at (λ w. w) 8 0 (length list / 8) list i l)

-- ---- the refusals

module _ (list out : List ℕ) where
  abbrev rows : List Row
  rows = word_rows list ++ list_rows 16 out

  pub check_odd : (length list % 8 ≡ 0 → ⊥) → 9 ≡ refuse_check list out
  unfolding refuse_check
  check_odd k = refuse_first order rows tt (here (ap not (ne_eqb _ _ k)))

  module _ (whole : length list % 8 ≡ 0) where
    pub check_short : length out < 16 → 9 ≡ refuse_check list out
    unfolding refuse_check
    check_short l = refuse_first order rows tt (next (ap not (eq-eqb _ _ whole)) (here (lt-ltb _ _ l)))

    pub check_nothing : 16 ≤ length out → 0 ≡ refuse_check list out
    unfolding refuse_check
    check_nothing l = refuse_first order rows tt
        (next (ap not (eq-eqb _ _ whole)) (next (le-ltb _ _ l) nothing))

  pub check_fine : refuse_check list out ≡ 0 → (length list % 8 ≡ 0) × (16 ≤ length out)
  unfolding refuse_check
  check_fine z = let s = (none_so order rows tt).0 z in (eqb-true _ _ (not-false _ s.0), ltb-false _ _ s.1.0)

  -- it refuses by 9 alone
  pub check_nine : (refuse_check list out ≡ 0 → ⊥) → 9 ≡ refuse_check list out
  check_nine k = ⊎_elim
      (λ e. ⊎_elim (λ l. absurd (k (sym (check_nothing e l)))) (check_short e) (le_or_lt 16 (length out)))
      check_odd (answers_or_not (length list % 8))

module _ (list : List ℕ) (l : Lists) (out : List ℕ) where
  abbrev n : ℕ
  n = length list

  abbrev mend_rows : List Row
  mend_rows = 32 when ltb 4096 (n / 8) ∷ word_rows list ++ list_rows n l.out ++ list_rows n l.words
      ++ list_rows n l.reasons ++ list_rows 16 out

  pub mend_long : 4096 < n / 8 → 32 ≡ refuse_mend list l out
  unfolding refuse_mend
  mend_long k = refuse_first (32 ∷ order) mend_rows tt (here (lt-ltb _ _ k))

  module _ (few : n / 8 ≤ 4096) where
    pub mend_odd : (n % 8 ≡ 0 → ⊥) → 9 ≡ refuse_mend list l out
    unfolding refuse_mend
    mend_odd k = refuse_first (32 ∷ order) mend_rows tt (next (le-ltb _ _ few) (here (ap not (ne_eqb _ _ k))))

    module _ (whole : n % 8 ≡ 0) where
      pub mend_mended : length l.out < n → 9 ≡ refuse_mend list l out
      unfolding refuse_mend
      mend_mended k = refuse_first (32 ∷ order) mend_rows tt
          (next (le-ltb _ _ few) (next (ap not (eq-eqb _ _ whole)) (here (lt-ltb _ _ k))))

      module _ (room : n ≤ length l.out) where
        pub mend_words : length l.words < n → 9 ≡ refuse_mend list l out
        unfolding refuse_mend
        mend_words k = refuse_first (32 ∷ order) mend_rows tt
            (next (le-ltb _ _ few) (next (ap not (eq-eqb _ _ whole)) (next (le-ltb _ _ room) (here (lt-ltb _ _ k)))))

        module _ (room2 : n ≤ length l.words) where
          pub mend_reasons : length l.reasons < n → 9 ≡ refuse_mend list l out
          unfolding refuse_mend
          mend_reasons k = refuse_first (32 ∷ order) mend_rows tt
              (next (le-ltb _ _ few)
              (next (ap not (eq-eqb _ _ whole))
              (next (le-ltb _ _ room) (next (le-ltb _ _ room2) (here (lt-ltb _ _ k))))))

          module _ (room3 : n ≤ length l.reasons) where
            pub mend_short : length out < 16 → 9 ≡ refuse_mend list l out
            unfolding refuse_mend
            mend_short k = refuse_first (32 ∷ order) mend_rows tt
                (next (le-ltb _ _ few)
                (next (ap not (eq-eqb _ _ whole))
                (next (le-ltb _ _ room)
                (next (le-ltb _ _ room2) (next (le-ltb _ _ room3) (here (lt-ltb _ _ k)))))))

            pub mend_nothing : 16 ≤ length out → 0 ≡ refuse_mend list l out
            unfolding refuse_mend
            mend_nothing k = refuse_first (32 ∷ order) mend_rows tt
                (next (le-ltb _ _ few)
                (next (ap not (eq-eqb _ _ whole))
                (next (le-ltb _ _ room)
                (next (le-ltb _ _ room2) (next (le-ltb _ _ room3) (next (le-ltb _ _ k) nothing))))))

  pub record Fine : Type 0 where
    pub few : n / 8 ≤ 4096
    pub whole : n % 8 ≡ 0
    pub room : n ≤ length l.out
    pub room_words : n ≤ length l.words
    pub room_reasons : n ≤ length l.reasons
    pub enough : 16 ≤ length out

  pub mend_fine : refuse_mend list l out ≡ 0 → Fine
  unfolding refuse_mend
  mend_fine z =
      let s = (none_so (32 ∷ order) mend_rows tt).0 z in
      record {
        few = ltb-false _ _ s.0;
        whole = eqb-true _ _ (not-false _ s.1.0);
        room = ltb-false _ _ s.1.1.0;
        room_words = ltb-false _ _ s.1.1.1.0;
        room_reasons = ltb-false _ _ s.1.1.1.1.0;
        enough = ltb-false _ _ s.1.1.1.1.1.0;
      }

  -- a list of at most 4,096 words is refused by 9 alone
  pub mend_nine : n / 8 ≤ 4096 → (refuse_mend list l out ≡ 0 → ⊥) → 9 ≡ refuse_mend list l out
  mend_nine few k = ⊎_elim
      (λ e. ⊎_elim
      (λ a. ⊎_elim
      (λ b. ⊎_elim
      (λ c. ⊎_elim (λ o. absurd (k (sym (mend_nothing few e a b c o)))) (mend_short few e a b c)
      (le_or_lt 16 (length out)))
      (mend_reasons few e a b) (le_or_lt n (length l.reasons)))
      (mend_words few e a) (le_or_lt n (length l.words)))
      (mend_mended few e) (le_or_lt n (length l.out)))
      (mend_odd few) (answers_or_not (n % 8))
