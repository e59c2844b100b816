-- The order of the tree is that of the ranks; and a triangle lies inside another where it comes after it and its rank
-- is below the other's end. Assumes nothing.
use mathlib.Core.Path.{◌≡◌, ◌∙◌, refl, sym, ap}
use mathlib.Core.Bool.{true, false}
use mathlib.Core.Logic.{◌⊎◌, inl, inr, ⊎_elim}
use mathlib.Core.List.{List, reverse, reverse-cons}
use Prim.Native.Nat.{ℕ, zero, suc, ◌+◌, ◌-◌, ◌*◌, ◌^◌, ◌≤◌, ◌<◌}
use native.Mathlib.Nat.{mul-le-mul_right}
use native.Mathlib.Decide.{dec_le}
use native.Mathlib.Omega.{arith}
use lib.Dec.{ltb, eqb}
use lib.ListN.{length, length-reverse}
use borrow.Author.Tests.{lt-ltb, le-ltb, eq-eqb, ne_eqb}
use Rattle.words.specs.Words.{degree_of, digit_of, digits, first_digits, side_of, path}
use Rattle.words.proofs.Codes.{code_degree, code_side}
use Rattle.words.proofs.CodeCount.{four_pow}
use Rattle.cells.specs.Order.{valid, spelled, less_than, inside_of}
use Rattle.cells.specs.Means.Ranks.{start, width, rank, end}
use Rattle.cells.proofs.Dictionary.{Decided, known, clash, sooner_cons, begins_cons, begins_same}
use Rattle.cells.proofs.Spelling.{valid_code, digits_length, less_total, less_ne}
use Rattle.cells.proofs.Filling.{Digs, fill, four_suc, fill_low, fill_end, fill_less, Before, fill_sooner}
use Rattle.cells.proofs.Filling.{begins_end, end_begins, digs_append, fill_append}

-- ---- the letters of a code

abbrev letters : ℕ → List ℕ
letters w = reverse (digits w (degree_of w))

letters_are : (w n : ℕ) → Digs (reverse (digits w n))
unfolding first_digits
letters_are w zero = tt
letters_are w (suc n) =
    rw (reverse-cons (digit_of w (suc n)) (digits w n))
    (digs_append (reverse (digits w n)) (digit_of w (suc n)) (letters_are w n) (omega arith))

how_many_lem : (w : ℕ) → length (letters w) ≡ degree_of w
how_many_lem w = length-reverse (digits w (degree_of w)) ∙ digits_length w (degree_of w)

filled : (w a n : ℕ) → n ≤ 24
    → fill 24 a (reverse (digits w n)) ≡ a * 4 ^ 24 + path (digits w n) * 4 ^ (24 - n)
unfolding first_digits path
filled w a zero h = omega arith
filled w a (suc n) h =
    let ds = digits w n in
    let d = digit_of w (suc n) in
    let z : length (reverse ds) ≡ n = length-reverse ds ∙ digits_length w n in
    let s : 24 - n ≡ suc (24 - suc n) = omega arith in
    let u = 4 ^ (24 - suc n) in
    let p : 4 ^ (24 - n) ≡ 4 * u = ap (λ (j : ℕ). 4 ^ j) s ∙ four_suc (24 - suc n) in
    let q : path ds * 4 ^ (24 - n) ≡ (4 * path ds) * u = ap (λ (j : ℕ). path ds * j) p ∙ omega arith in
    let t : (4 * path ds + d) * u ≡ (4 * path ds) * u + d * u = omega arith in
    ap (fill 24 a) (reverse-cons d ds) ∙ fill_append 24 a (reverse ds) d (omega arith)
    ∙ (λ i. filled w a n (omega arith) i + d * 4 ^ (24 - suc (z i))) ∙ omega (arith, q, t)

module _ (w : ℕ) (v : valid w ≡ true) where
  pub degree_fits : degree_of w ≤ 24
  degree_fits = code_degree (valid_code w v)

  few : length (letters w) ≤ 24
  few = omega (arith, how_many_lem w, degree_fits)

  powers : (k : ℕ) → k ≡ degree_of w → 2 ^ (48 - 2 * degree_of w) ≡ 4 ^ (24 - k)
  powers k e =
      let d : 48 - 2 * degree_of w ≡ 2 * (24 - k) = omega (arith, e, degree_fits) in
      ap (λ (j : ℕ). 2 ^ j) d ∙ sym (four_pow (24 - k))

  -- the start is the letters filled up, and the width what they leave
  start_filled : start w ≡ fill 24 (side_of w) (letters w)
  unfolding start
  start_filled =
      (λ i. side_of w * 2 ^ 48 + path (digits w (degree_of w)) * powers (degree_of w) refl i)
      ∙ sym (filled w (side_of w) (degree_of w) degree_fits)

  width_left : width w ≡ 4 ^ (24 - length (letters w))
  unfolding width
  width_left = powers (length (letters w)) (how_many_lem w)

  pub rank_some : 0 < rank w
  unfolding rank start
  rank_some = omega (arith, (code_side (valid_code w v)).0)

-- ---- the order

module _ (w u : ℕ) (v : valid w ≡ true) (v' : valid u ≡ true) where
  less_start : less_than w u ≡ true → Before (start w) (degree_of w) (start u) (degree_of u)
  unfolding less_than spelled
  less_start h = go (sooner_cons (side_of w) (side_of u) (letters w) (letters u) h)
    where
      s : start w ≡ fill 24 (side_of w) (letters w)
      s = start_filled w v

      s' : start u ≡ fill 24 (side_of u) (letters u)
      s' = start_filled u v'

      are : Digs (letters w)
      are = letters_are w (degree_of w)

      go : Decided (side_of w) (side_of u) (letters w) (letters u)
          → Before (start w) (degree_of w) (start u) (degree_of u)
      go (inl l) = inl (rw (s, s') (fill_less 24 (side_of w) (side_of u) (letters w) (letters u) are l))
      go (inr (e, b)) =
          let p = fill_sooner 24 (side_of w) (letters w) (letters u) (few w v) (few u v') are b in
          let z : fill 24 (side_of w) (letters u) ≡ start u =
          ap (λ (j : ℕ). fill 24 j (letters u)) e ∙ sym s' in
          ⊎_elim (λ q. inl (rw (s, ← z) q))
          (λ q. inr (s ∙ q.0 ∙ z, omega (arith, q.1, how_many_lem w, how_many_lem u))) p

  pub less_rank : less_than w u ≡ true → rank w < rank u
  unfolding rank
  less_rank h = ⊎_elim (λ l. omega (arith, degree_fits w v)) (λ p. omega (arith, p.0, p.1)) (less_start h)

module _ (w u : ℕ) (v : valid w ≡ true) (v' : valid u ≡ true) where
  -- less is less by rank
  pub less_by_rank : less_than w u ≡ ltb (rank w) (rank u)
  less_by_rank =
      ⊎_elim (λ e. e ∙ sym (lt-ltb (rank w) (rank u) (less_rank w u v v' e)))
      (λ e. e ∙ sym (le-ltb (rank w) (rank u) (back e (known (less_than u w))))) (known (less_than w u))
    where
      back : less_than w u ≡ false → (less_than u w ≡ true) ⊎ (less_than u w ≡ false) → rank u ≤ rank w
      back e (inl f) = omega (arith, less_rank u w v' v f)
      back e (inr f) = let z : rank w ≡ rank u = ap rank (less_total w u v v' e f) in omega (arith, z)

  -- and equal is equal
  pub same_by_rank : eqb w u ≡ eqb (rank w) (rank u)
  same_by_rank = go (known (less_than w u)) (known (less_than u w))
    where
      apart : (w ≡ u → ⊥) → (rank w ≡ rank u → ⊥) → eqb w u ≡ eqb (rank w) (rank u)
      apart n m = ne_eqb w u n ∙ sym (ne_eqb (rank w) (rank u) m)

      go : (less_than w u ≡ true) ⊎ (less_than w u ≡ false) → (less_than u w ≡ true) ⊎ (less_than u w ≡ false)
          → eqb w u ≡ eqb (rank w) (rank u)
      go (inl e) f = apart (less_ne w u e) (λ z. omega (arith, z, less_rank w u v v' e))
      go (inr e) (inl f) = apart (λ z. less_ne u w f (sym z)) (λ z. omega (arith, z, less_rank u w v' v f))
      go (inr e) (inr f) =
          let z = less_total w u v v' e f in
          eq-eqb w u z ∙ sym (eq-eqb (rank w) (rank u) (ap rank z))

-- ---- inside

module _ (w u : ℕ) (v : valid w ≡ true) (v' : valid u ≡ true) where
  -- with u's side w's letters make its start
  with_side : side_of u ≡ side_of w → fill 24 (side_of u) (letters w) ≡ start w
  with_side e = ap (λ (j : ℕ). fill 24 j (letters w)) e ∙ sym (start_filled w v)

  inside_end : inside_of w u ≡ true → start w < start u + width u
  unfolding inside_of spelled
  inside_end h =
      let p = begins_cons (side_of u) (side_of w) (letters u) (letters w) h in
      let b =
      begins_end 24 (side_of u) (letters u) (letters w) (few u v') (letters_are w (degree_of w)) p.1 in
      omega (arith, b, with_side p.0, start_filled u v', width_left u v')

  end_inside : less_than u w ≡ true → start w < start u + width u → inside_of w u ≡ true
  unfolding inside_of spelled less_than
  end_inside h l = go (sooner_cons (side_of u) (side_of w) (letters u) (letters w) h)
    where
      are : Digs (letters u)
      are = letters_are u (degree_of u)

      go : Decided (side_of u) (side_of w) (letters u) (letters w) → inside_of w u ≡ true
      go (inl q) =
          let m = mul-le-mul_right (4 ^ 24) q in
          let a = fill_end 24 (side_of u) (letters u) (few u v') are in
          let b = fill_low 24 (side_of w) (letters w) in
          absurd (omega (arith, a, b, m, l, start_filled w v, start_filled u v', width_left u v'))
      go (inr (e, s)) =
          let c : fill 24 (side_of u) (letters w) < fill 24 (side_of u) (letters u) + 4 ^ (24 - length (letters u)) =
          omega (arith, l, with_side e, start_filled u v', width_left u v') in
          begins_same (side_of u) (side_of w) (letters u) (letters w) e
          ∙ end_begins 24 (side_of u) (letters u) (letters w) (few u v') are s c

  -- what comes after lies inside where its rank is below the end
  pub inside_by_end : less_than u w ≡ true → inside_of w u ≡ ltb (rank w) (end u)
  unfolding rank end
  inside_by_end h =
      ⊎_elim (λ e. e ∙ sym (lt-ltb (rank w) (end u) (within (inside_end e))))
      (λ e. e ∙ sym (le-ltb (rank w) (end u) (outside e (dec_le (start u + width u) (start w)))))
      (known (inside_of w u))
    where
      within : start w < start u + width u → rank w < end u
      within l = omega (arith, l, degree_fits w v)

      outside : inside_of w u ≡ false → Dec (start u + width u ≤ start w) → end u ≤ rank w
      outside e (yes l) = omega (arith, l)
      outside e (no n) = absurd (clash (end_inside h (omega (arith, n))) e)
