-- The key of a word, and the places of the codes in a list. Assumes nothing.
use mathlib.Core.Path.{◌≡◌, ◌∙◌, sym, ap}
use mathlib.Core.Bool.{true, false, not, ◌&&◌}
use mathlib.Core.Logic.{◌⊎◌, inl, inr, ⊎_elim}
use mathlib.Core.List.{List, [], ◌∷◌, ◌++◌, map, append_assoc, append-nil}
use Prim.Native.Nat.{ℕ, suc, ◌+◌, ◌-◌, ◌*◌, ◌%◌, ◌^◌, ◌≤◌, ◌<◌}
use native.Mathlib.Nat.{eq-or-lt_of_le}
use native.Mathlib.Omega.{arith}
use borrow.Author.Tests.{eq-eqb, ne_eqb}
use lib.Dec.{eqb, ltb}
use lib.ListN.{length, get_or, take, drop, set, length-map, drop_of_length-le}
use lib.Seq.{take-suc, take-suc-set, take_all, drop-cons, get_or-set_same, get_or-set_other}
use Rattle.std.proofs.lemmas.List.{get_or-map}
use Rattle.words.specs.Words.{degree_of}
use Rattle.words.proofs.Codes.{code_side}
use Rattle.cells.specs.Order.{valid, less_than, inside_of}
use Rattle.cells.specs.Means.Ranks.{start, rank, end}
use Rattle.cells.proofs.Dictionary.{known, clash}
use Rattle.cells.proofs.Ranks.{degree_fits, rank_some, less_by_rank, same_by_rank, inside_by_end}
use Rattle.cells.proofs.OnePass.{unit_width, start_word}
use Rattle.cells.proofs.Spelling.{valid_code, not_inside}
use Rattle.judging.specs.Means.Keys.{key, end_of, code_places, Numbered, NumberedTo}
use Rattle.judging.specs.Means.Turns.{holds}

-- ---- the key of a word

module _ (w : ℕ) where
  pub key_invalid : valid w ≡ false → key w ≡ 0
  unfolding key
  key_invalid e = rw e

  pub key_code : valid w ≡ true → key w ≡ rank w
  unfolding key
  key_code e = rw e

pub end_is : (k : ℕ) {p : ℕ} → p ≡ 2 ^ (54 - 2 * (k % 64)) → k - k % 64 + p ≡ end_of k
unfolding end_of
end_is k e = ap (λ (x : ℕ). k - k % 64 + x) e

-- ---- the keys of a list

module _ (ks : List ℕ) (i : ℕ) (keys places why : List ℕ) (codes k : ℕ) (l : i < length ks) (in-keys : i < length keys)
    (is : k ≡ get_or ks i 0) (g : NumberedTo ks i keys places why codes) where
  keys_next : take (suc i) (set keys i k) ≡ take (suc i) ks
  keys_next =
      take-suc-set keys i k in-keys ∙ (λ j. g.keys_are j ++ (is j ∷ [])) ∙ sym (take-suc ks i 0 l)

  rest : drop i ks ≡ k ∷ drop (suc i) ks
  rest = drop-cons ks i 0 l ∙ (λ j. sym is j ∷ drop (suc i) ks)

  -- one more word, which is no code
  pub numbered_other : i < length why → k ≡ 0
      → NumberedTo ks (suc i) (set keys i k) places (set why i 1) codes
  unfolding code_places
  numbered_other in-why e = record {
    few = omega (arith, g.few);
    keys_are = keys_next;
    places_are = rw (rest, eq-eqb k 0 e) at g.places_are;
    invalid = λ p m z. ⊎_elim (λ (q : p ≡ i). ap (λ (n : ℕ). get_or (set why i 1) n 0) q ∙ get_or-set_same why i 1 0 in-why)
        (λ q. get_or-set_other why i p 1 0 (λ y. omega (arith, y, q)) ∙ g.invalid p q z)
        (eq-or-lt_of_le (let y : p ≤ i = omega (arith, m) in y));
  }

  -- one more code
  pub numbered_code : codes < length places → (k ≡ 0 → ⊥)
      → NumberedTo ks (suc i) (set keys i k) (set places codes i) why (suc codes)
  unfolding code_places
  numbered_code in-places n = record {
    few = omega (arith, g.few);
    keys_are = keys_next;
    places_are =
        let late = code_places (suc i) (drop (suc i) ks) in
        rw (take-suc-set places codes i in-places, append_assoc (take codes places) (i ∷ []) late)
        (rw (rest, ne_eqb k 0 n) at g.places_are);
    invalid = λ p m z. ⊎_elim (λ (q : p ≡ i). absurd (n (is ∙ ap (λ (j : ℕ). get_or ks j 0) (sym q) ∙ z)))
        (λ q. g.invalid p q z)
        (eq-or-lt_of_le (let y : p ≤ i = omega (arith, m) in y));
  }

pub numbered_all : (ws keys places why : List ℕ) (i codes : ℕ) → i ≡ length ws
    → NumberedTo (map key ws) i keys places why codes → Numbered ws keys places why codes
unfolding code_places
numbered_all ws keys places why i codes e g =
    let ks = map key ws in
    let n : length ks ≡ length ws = length-map ws key in
    let d : drop i ks ≡ [] = drop_of_length-le ks {i = i} (omega (arith, n, e)) in
    record {
      few = omega (arith, g.few, e);
      keys_are = ap (λ (j : ℕ). take j keys) (sym e) ∙ g.keys_are ∙ take_all i ks (omega (arith, n, e));
      places_are = sym (append-nil (take codes places)) ∙ (rw d at g.places_are);
      invalid = λ p l z. g.invalid p (omega (arith, l, e)) (get_or-map key ws p 0 0 l ∙ z);
    }

-- ---- keys and words

pub key_some : (w : ℕ) → (key w ≡ 0 → ⊥) → valid w ≡ true
key_some w n = ⊎_elim (λ e. e) (λ e. absurd (n (key_invalid w e))) (known (valid w))

-- the end of a code
rank_end_of : (w : ℕ) → valid w ≡ true → end_of (rank w) ≡ end w
unfolding end_of rank end
rank_end_of w v =
    let e : (64 * start w + degree_of w) % 64 ≡ degree_of w = omega (arith, degree_fits w v) in
    rw (e, unit_width w v) (omega arith)

module _ (w : ℕ) (v : valid w ≡ true) where
  pub rank_degree : rank w % 64 ≡ degree_of w
  unfolding rank
  rank_degree = omega (arith, degree_fits w v)

  pub rank_small : rank w < 2 ^ 59
  unfolding rank
  rank_small = omega (arith, degree_fits w v, start_word w v, (code_side (valid_code w v)).1)

  -- it lies inside another exactly where that one's key holds its own
  pub holds_inside : (u : ℕ) → holds (key u) (rank w) ≡ valid u && inside_of w u
  unfolding holds
  holds_inside u = go (known (valid u)) (known (less_than u w))
    where
      go : (valid u ≡ true) ⊎ (valid u ≡ false) → (less_than u w ≡ true) ⊎ (less_than u w ≡ false)
          → not (eqb (key u) 0) && (ltb (key u) (rank w) && ltb (rank w) (end_of (key u))) ≡ valid u && inside_of w u
      go (inr a) b = rw (key_invalid u a, a)
      go (inl a) (inl b) =
          let n = ne_eqb (rank u) 0 (λ z. omega (arith, z, rank_some u a)) in
          rw (key_code u a, a, n, sym (less_by_rank u w a v), b, rank_end_of u a)
          (sym (inside_by_end w u v a b))
      go (inl a) (inr b) = rw (
        key_code u a,
        a,
        ne_eqb (rank u) 0 (λ z. omega (arith, z, rank_some u a)),
        sym (less_by_rank u w a v),
        b,
        not_inside w u (λ z. clash z b),
      )

  -- equal keys are those of equal words
  pub same_key : (u : ℕ) → eqb (rank w) (key u) ≡ eqb w u
  same_key u = ⊎_elim
      (λ a. ap (eqb (rank w)) (key_code u a) ∙ sym (same_by_rank w u v a))
      (λ a. ap (eqb (rank w)) (key_invalid u a) ∙ ne_eqb (rank w) 0 (λ z. omega (arith, z, rank_some w v))
      ∙ sym (ne_eqb w u (λ z. clash v (ap valid z ∙ a))))
      (known (valid u))
