-- The words that have a reason, and their reasons, place by place. Assumes nothing.
use mathlib.Core.Path.{◌≡◌, ◌∙◌, refl, ap}
use mathlib.Core.Bool.{Bool, true, false, cond}
use mathlib.Core.List.{List, [], ◌∷◌}
use Prim.Native.Nat.{ℕ, suc, ◌+◌, ◌≤◌, ◌<◌}
use native.Mathlib.Omega.{arith}
use lib.Dec.{eqb}
use lib.ListN.{length, get_or, drop}
use lib.Seq.{drop-length}
use borrow.Author.Tests.{eq-eqb, ne_eqb}
use Rattle.merging.specs.Means.Joining.{dropped_words, dropped_reasons}
use Rattle.merging.proofs.Written.{next_of}

one_more : (t : Bool) (x : ℕ) (xs : List ℕ) (n : ℕ) → length xs ≤ n → length (cond t xs (x ∷ xs)) ≤ suc n
one_more true x xs n l = omega arith
one_more false x xs n l = omega arith

-- no more than there are words
pub dropped_most : (words why : List ℕ) → (length (dropped_words words why) ≤ length words)
    × (length (dropped_reasons words why) ≤ length words)
unfolding dropped_words dropped_reasons
dropped_most [] rs = (omega arith, omega arith)
dropped_most (w ∷ ws) [] = (omega arith, omega arith)
dropped_most (w ∷ ws) (r ∷ rs) = let q = dropped_most ws rs in (
  one_more (eqb r 0) w (dropped_words ws rs) (length ws) q.0,
  one_more (eqb r 0) r (dropped_reasons ws rs) (length ws) q.1,
)

module _ (words why : List ℕ) (i : ℕ) where
  abbrev words_from : ℕ → List ℕ
  words_from k = dropped_words (drop k words) (drop k why)

  abbrev reasons_from : ℕ → List ℕ
  reasons_from k = dropped_reasons (drop k words) (drop k why)

  module _ (l : i < length words) (m : i < length why) where
    pub stays : get_or why i 0 ≡ 0
        → (words_from i ≡ words_from (i + 1)) × (reasons_from i ≡ reasons_from (i + 1))
    unfolding dropped_words dropped_reasons
    stays z = (
      (λ j. dropped_words (next_of words 0 i l j) (next_of why 0 i m j)) ∙ rw (eq-eqb (get_or why i 0) 0 z) refl,
      (λ j. dropped_reasons (next_of words 0 i l j) (next_of why 0 i m j)) ∙ rw (eq-eqb (get_or why i 0) 0 z) refl,
    )

    pub goes : (get_or why i 0 ≡ 0 → ⊥)
        → (words_from i ≡ get_or words i 0 ∷ words_from (i + 1)) × (reasons_from i ≡ get_or why i 0 ∷ reasons_from (i + 1))
    unfolding dropped_words dropped_reasons
    goes z = (
      (λ j. dropped_words (next_of words 0 i l j) (next_of why 0 i m j)) ∙ rw (ne_eqb (get_or why i 0) 0 z) refl,
      (λ j. dropped_reasons (next_of words 0 i l j) (next_of why 0 i m j)) ∙ rw (ne_eqb (get_or why i 0) 0 z) refl,
    )

  pub none_left : i ≡ length words → (words_from i ≡ []) × (reasons_from i ≡ [])
  unfolding dropped_words dropped_reasons
  none_left e =
      let n : drop i words ≡ [] = ap (λ (k : ℕ). drop k words) e ∙ drop-length words in
      (ap (λ (xs : List ℕ). dropped_words xs (drop i why)) n, ap (λ (xs : List ℕ). dropped_reasons xs (drop i why)) n)
