-- Merging by ranks is merging of words: the ranks of a triangle's children, and of the triangle. Assumes nothing.
use mathlib.Core.Path.{◌≡◌, ◌∙◌, refl, sym, ap}
use mathlib.Core.Bool.{Bool, true, false, ◌&&◌}
use mathlib.Core.Logic.{◌⊎◌, inl, inr}
use mathlib.Core.List.{◌∷◌}
use Prim.Native.Nat.{ℕ, zero, suc, ◌+◌, ◌-◌, ◌*◌, ◌/◌, ◌%◌, ◌^◌, ◌≤◌, ◌<◌}
use native.Mathlib.Omega.{arith}
use borrow.Author.Tests.{eqb-true, eqb-false, eq-eqb, ne_eqb}
use lib.Dec.{eqb, lit<}
use lib.Pow.{pow-add, pow_mono}
use lib.Arith.{digits_div, digits_mod}
use Rattle.words.specs.Words.{degree_of, digit_of, digits, side_of, path}
use Rattle.words.specs.Family.{code_of}
use Rattle.words.proofs.ParentChild.{child_has}
use Rattle.cells.specs.Order.{valid}
use Rattle.cells.specs.Means.Ranks.{start, width, rank}
use Rattle.cells.proofs.Dictionary.{known}
use Rattle.cells.proofs.Ranks.{degree_fits, same_by_rank}
use Rattle.cells.proofs.OnePass.{start_word, word_start}
use Rattle.mending.specs.Means.InRows.{in_row}
use Rattle.mending.proofs.Members.{both_true}
use Rattle.mending.proofs.WordNodes.{up, up_valid, up_degree}
use Rattle.mending.proofs.Children.{kid, kid_allowed, kid_valid, kid_degree, kid_up}
use Rattle.judging.proofs.WordKeys.{rank_degree}
use Rattle.merging.specs.Means.Joining.{word_at, in_ranks, before}
use Rattle.merging.proofs.Rows.{unit, row_degree}

-- ---- a child's rank

kid_sum : (s p k e n : ℕ) → 64 * (s + (4 * p + k) * e) + suc n ≡ 64 * (s + p * (4 * e)) + n + 1 + k * (64 * e)
kid_sum s p k e n = omega arith

module _ (u k : ℕ) (v : valid u ≡ true) (l : degree_of u < 24) (h : k < 4) where
  pub kid_rank : rank (kid u k) ≡ rank u + 1 + k * unit (degree_of u)
  unfolding rank start path
  kid_rank =
      let n = degree_of u in
      let w = kid u k in
      let has = child_has (code_of u) k (kid_allowed u k v l h) in
      let e = 2 ^ (46 - 2 * n) in
      let d : degree_of w ≡ suc n = kid_degree u k v l h in
      let ds : digits w (degree_of w) ≡ k ∷ digits u n = ap (digits w) d ∙ has.digits_are in
      let a : 48 - 2 * suc n ≡ 46 - 2 * n = omega arith in
      let b : 48 - 2 * n ≡ 46 - 2 * n + 2 = omega arith in
      let c : 52 - 2 * n ≡ 46 - 2 * n + 6 = omega arith in
      let x : 2 ^ (48 - 2 * n) ≡ 4 * e = ap (λ (j : ℕ). 2 ^ j) b ∙ pow-add 2 (46 - 2 * n) 2 ∙ omega arith in
      let y : unit n ≡ 64 * e = ap (λ (j : ℕ). 2 ^ j) c ∙ pow-add 2 (46 - 2 * n) 6 ∙ omega arith in
      (λ i. 64 * (has.side i * 2 ^ 48 + path (ds i) * 2 ^ (48 - 2 * d i)) + d i)
      ∙ ap (λ (j : ℕ). 64 * (side_of u * 2 ^ 48 + (4 * path (digits u n) + k) * 2 ^ j) + suc n) a
      ∙ kid_sum (side_of u * 2 ^ 48) (path (digits u n)) k e n
      ∙ (λ i. 64 * (side_of u * 2 ^ 48 + path (digits u n) * sym x i) + n + 1 + k * sym y i)

-- ---- what is left of a rank by four units of its degree

module _ (u : ℕ) (v : valid u ≡ true) where
  rank_rest : (q : ℕ) × (rank u ≡ q * (64 * width u) + degree_of u)
  unfolding rank start width
  rank_rest =
      let n = degree_of u in
      let z : 48 ≡ 2 * n + (48 - 2 * n) = omega (arith, degree_fits u v) in
      let x : 2 ^ 48 ≡ 2 ^ (2 * n) * 2 ^ (48 - 2 * n) = ap (λ (j : ℕ). 2 ^ j) z ∙ pow-add 2 (2 * n) (48 - 2 * n) in (
        side_of u * 2 ^ (2 * n) + path (digits u n),
        ap (λ (j : ℕ). 64 * (side_of u * j + path (digits u n) * 2 ^ (48 - 2 * n)) + n) x
            ∙ rest_sum (side_of u) (2 ^ (2 * n)) (2 ^ (48 - 2 * n)) (path (digits u n)) n,
      )
    where
      rest_sum : (s a b p n : ℕ) → 64 * (s * (a * b) + p * b) + n ≡ (s * a + p) * (64 * b) + n
      rest_sum s a b p n = omega arith

four_units : (n : ℕ) → n < 24 → 4 * unit n ≡ 64 * 2 ^ (48 - 2 * n)
four_units n l =
    let a : 52 - 2 * n ≡ 48 - 2 * n + 4 = omega arith in
    let x : unit n ≡ 2 ^ (48 - 2 * n) * 16 = ap (λ (j : ℕ). 2 ^ j) a ∙ pow-add 2 (48 - 2 * n) 4 in
    omega (arith, x)

unit_least : (n : ℕ) → n < 24 → 64 ≤ unit n
unit_least n l = pow_mono {i = 6} {j = 52 - 2 * n} (omega arith)

-- a child's digit is what it has more than its degree
digit_rest : (q u n k : ℕ) → n < 24 → 64 ≤ u → k < 4 → (q * (4 * u) + n + 1 + k * u) % (4 * u) ≡ n + 1 + k * u
digit_rest q u n k l h m =
    let e : q * (4 * u) + n + 1 + k * u ≡ q * (4 * u) + (n + 1 + k * u) = omega arith in
    ap (λ (j : ℕ). j % (4 * u)) e ∙ digits_mod q (small k m)
  where
    small : (k : ℕ) → k < 4 → n + 1 + k * u < 4 * u
    small zero m = omega (arith, l, h)
    small (suc zero) m = omega (arith, l, h)
    small (suc (suc zero)) m = omega (arith, l, h)
    small (suc (suc (suc zero))) m = omega (arith, l, h)
    small (suc (suc (suc (suc k)))) m = absurd (omega (arith, m))

only_zero : (k u : ℕ) → 64 ≤ u → k * u ≡ 0 → k ≡ 0
only_zero zero u h e = refl
only_zero (suc k) u h e = absurd (omega (arith, h, e))

module _ (d a : ℕ) (l : d < 24) (v : valid a ≡ true) where
  abbrev U : ℕ
  U = unit d

  -- of a code one degree deeper, by its parent
  module _ (e : degree_of a ≡ suc d) where
    abbrev t : ℕ
    t = up a

    some_degree : 1 ≤ degree_of a
    some_degree = omega (arith, e)

    pub parent_valid : valid t ≡ true
    parent_valid = up_valid a v some_degree

    pub parent_degree : degree_of t ≡ d
    parent_degree = up_degree a v some_degree ∙ omega (arith, e)

    parent_low : degree_of t < 24
    parent_low = omega (arith, parent_degree, l)

    abbrev k : ℕ
    k = digit_of a (suc d)

    kid_is : kid t k ≡ a
    kid_is = kid_up d a v e

    own_rank : rank a ≡ rank t + 1 + k * U
    own_rank =
        ap rank (sym kid_is) ∙ kid_rank t k parent_valid parent_low (omega arith)
        ∙ ap (λ (n : ℕ). rank t + 1 + k * unit n) parent_degree

    pub left_over : rank a % (4 * U) ≡ d + 1 + k * U
    unfolding width
    left_over =
        let r = rank_rest t parent_valid in
        let w : 64 * 2 ^ (48 - 2 * degree_of t) ≡ 4 * U =
        ap (λ (n : ℕ). 64 * 2 ^ (48 - 2 * n)) parent_degree ∙ sym (four_units d l) in
        let s : rank a ≡ r.0 * (4 * U) + d + 1 + k * U =
        own_rank ∙ ap (λ (n : ℕ). n + 1 + k * U) (r.1 ∙ (λ i. r.0 * w i + parent_degree i)) in
        ap (λ (n : ℕ). n % (4 * U)) s ∙ digit_rest r.0 U d k l (unit_least d l) (omega arith)

    -- the other children, where it is the first
    module _ (z : k ≡ 0) where
      pub parent_rank : before (rank a) ≡ rank t
      parent_rank =
          let s : k * U ≡ 0 = ap (λ (n : ℕ). n * U) z ∙ omega arith in
          omega (arith, own_rank, s)

      next_rank : (j : ℕ) → j < 4 → rank a + j * U ≡ rank (kid t j)
      next_rank j h =
          let s : k * U ≡ 0 = ap (λ (n : ℕ). n * U) z ∙ omega arith in
          let r = kid_rank t j parent_valid parent_low h in
          let q : j * unit (degree_of t) ≡ j * U = ap (λ (n : ℕ). j * unit n) parent_degree in
          omega (arith, own_rank, s, r, q)

      pub next_same : (j b : ℕ) → j < 4 → valid b ≡ true → eqb (rank b) (rank a + j * U) ≡ eqb b (kid t j)
      next_same j b h v' =
          ap (eqb (rank b)) (next_rank j h)
          ∙ sym (same_by_rank b (kid t j) v' (kid_valid t j parent_valid parent_low h))

  -- the first child, by what is left over
  pub first_same : eqb (rank a % (4 * U)) (suc d) ≡ eqb (degree_of a) (suc d) && eqb (digit_of a (suc d)) 0
  first_same = go (known (eqb (degree_of a) (suc d))) (known (eqb (digit_of a (suc d)) 0))
    where
      go : (eqb (degree_of a) (suc d) ≡ true) ⊎ (eqb (degree_of a) (suc d) ≡ false)
          → (eqb (digit_of a (suc d)) 0 ≡ true) ⊎ (eqb (digit_of a (suc d)) 0 ≡ false)
          → eqb (rank a % (4 * U)) (suc d) ≡ eqb (degree_of a) (suc d) && eqb (digit_of a (suc d)) 0
      go (inl x) (inl y) =
          let e : degree_of a ≡ suc d = eqb-true _ _ x in
          let z = eqb-true (digit_of a (suc d)) 0 y in
          let s : digit_of a (suc d) * U ≡ 0 = ap (λ (n : ℕ). n * U) z ∙ omega arith in
          eq-eqb _ _ (left_over e ∙ omega (arith, s)) ∙ sym (λ i. x i && y i)
      go (inl x) (inr y) =
          let e : degree_of a ≡ suc d = eqb-true _ _ x in
          let n = eqb-false (digit_of a (suc d)) 0 y in
          ne_eqb (rank a % (4 * U)) (suc d)
          (λ q. n (only_zero (digit_of a (suc d)) U (unit_least d l) (omega (arith, q, left_over e))))
          ∙ sym (λ i. x i && y i)
      go (inr x) y =
          ne_eqb _ _ (λ q. eqb-false _ _ x (sym (rank_degree a v) ∙ row_degree d (rank a) l q))
          ∙ sym (ap (λ (b : Bool). b && eqb (digit_of a (suc d)) 0) x)

  module _ (b c e : ℕ) (vb : valid b ≡ true) (vc : valid c ≡ true) (ve : valid e ≡ true) where
    -- four ranks in a row are those of four words in a row
    pub row_same : in_ranks d (rank a) (rank b) (rank c) (rank e) ≡ in_row d a b c e
    unfolding in_ranks in_row
    row_same = go (known (eqb (degree_of a) (suc d))) (known (eqb (digit_of a (suc d)) 0))
      where
        one : 1 * U ≡ U
        one = omega arith

        go : (eqb (degree_of a) (suc d) ≡ true) ⊎ (eqb (degree_of a) (suc d) ≡ false)
            → (eqb (digit_of a (suc d)) 0 ≡ true) ⊎ (eqb (digit_of a (suc d)) 0 ≡ false)
            → in_ranks d (rank a) (rank b) (rank c) (rank e) ≡ in_row d a b c e
        go (inl x) (inl y) =
            let q = eqb-true _ _ x in
            let z = eqb-true _ _ y in
            let f = next_same q z in
            let p : eqb (rank b) (rank a + U) ≡ eqb b (kid (up a) 1) =
            ap (λ (n : ℕ). eqb (rank b) (rank a + n)) (sym one) ∙ f 1 b (lit< tt) vb in
            λ i. first_same i && (p i && (f 2 c (lit< tt) vc i && f 3 e (lit< tt) ve i))
        go (inl x) (inr y) = rw (first_same, x, y)
        go (inr x) y = rw (first_same, x)

    pub row_up : in_row d a b c e ≡ true → before (rank a) ≡ rank (up a)
    unfolding in_row
    row_up h =
        let f = both_true _ _ h in
        let g = both_true _ _ f.0 in
        parent_rank (eqb-true _ _ g.0) (eqb-true _ _ g.1)

-- ---- a word by its rank

-- side, digits and degree, each in its place
module _ (s j n r : ℕ) (few : j < 2 ^ 48) (low : n < 25) (is : r ≡ s * 2 ^ 54 + (64 * j + n)) where
  rest : 64 * j + n < 2 ^ 54
  rest = omega (arith, few, low)

  side_part : r / 2 ^ 54 ≡ s
  side_part = ap (λ (x : ℕ). x / 2 ^ 54) is ∙ digits_div s rest

  rest_part : r % 2 ^ 54 ≡ 64 * j + n
  rest_part = ap (λ (x : ℕ). x % 2 ^ 54) is ∙ digits_mod s rest

  degree_part : r % 32 ≡ n
  degree_part =
      let e : r ≡ (s * 2 ^ 49 + 2 * j) * 32 + n = is ∙ omega arith in
      ap (λ (x : ℕ). x % 32) e ∙ digits_mod (s * 2 ^ 49 + 2 * j) (let k : n < 32 = omega (arith, low) in k)

  word_parts : word_at r ≡ s * 2 ^ 59 + n * 2 ^ 54 + 64 * j
  unfolding word_at
  word_parts = rw (side_part, rest_part, degree_part) (omega arith)

pub word_of_rank : (w : ℕ) → valid w ≡ true → word_at (rank w) ≡ w
unfolding rank
word_of_rank w v =
    let s = start_word w v in
    let j = start w - side_of w * 2 ^ 48 in
    let m : w % 2 ^ 54 ≡ 64 * j = omega (arith, s) in
    let f : w % 2 ^ 54 < 2 ^ 54 = omega arith in
    word_parts (side_of w) j (degree_of w) (64 * start w + degree_of w) (omega (arith, m, f))
    (omega (arith, degree_fits w v)) (omega (arith, s, m))
    ∙ omega (arith, word_start w v, m)
