-- Why one pass is enough: after places that offend in nothing, the reach of the word before decides. And the reach as
-- it is computed. Assumes nothing.
use mathlib.Core.Path.{◌≡◌, ◌∙◌, refl, sym, ap}
use mathlib.Core.Bool.{Bool, true, false}
use mathlib.Core.Logic.{◌⊎◌, inl, inr, ⊎_elim}
use mathlib.Core.List.{List, [], ◌∷◌}
use Prim.Native.Nat.{ℕ, zero, suc, ◌+◌, ◌-◌, ◌*◌, ◌%◌, ◌^◌, ◌≤◌, ◌<◌}
use native.Mathlib.Nat.{eq-or-lt_of_le}
use native.Mathlib.Omega.{arith}
use lib.Dec.{ltb, eqb}
use lib.ListN.{length, get_or, take}
use lib.Pow.{pow-add, pow_mono}
use lib.Seq.{get_or-take, length-take-le}
use borrow.Author.Tests.{eqb-false, le-ltb, ne_eqb}
use Rattle.frame.specs.Refusals.{◌when◌, first_of}
use Rattle.frame.specs.Lists.{some}
use Rattle.frame.proofs.Scanning.{none_each, none_there}
use Rattle.words.specs.Words.{large, degree_of, digits, side_of, path}
use Rattle.words.proofs.WordLayout.{side_top, tail_is}
use Rattle.words.proofs.Digits.{digits_are, path_lt, large_roomy}
use Rattle.words.proofs.Codes.{code_side, code_word}
use Rattle.cells.specs.Order.{valid, less_than, inside_of}
use Rattle.cells.specs.Checking.{reason_at, reason_number, verdict, accepted, checked}
use Rattle.cells.specs.declared.Reason.{Reason}
use Rattle.cells.specs.declared.Reason.TheVariants.{Invalid, Less, Equal, Inside}
use Rattle.cells.specs.Means.Ranks.{start, width, rank, end, reach, reach_before, reason_by, reason_after}
use Rattle.cells.specs.Means.Ranks.{ClearTo}
use Rattle.cells.specs.declared.Reach.{Reach}
use Rattle.cells.proofs.Dictionary.{known, clash}
use Rattle.cells.proofs.Spelling.{valid_code, above}
use Rattle.cells.proofs.Ranks.{degree_fits, rank_some, less_by_rank, same_by_rank, inside_by_end}
use Rattle.cells.proofs.Accepting.{clear_valid, last_clear, all_clear, first_offence}

-- ---- the word before decides

-- of the last test it matters only what it says where the others say nothing
rows_same : (b c d b' c' d' : Bool) → b ≡ b' → c ≡ c' → (b ≡ false → c ≡ false → d ≡ d')
    → first_of (1 ∷ 2 ∷ 3 ∷ 4 ∷ []) (1 when false ∷ 2 when b ∷ 3 when c ∷ 4 when d ∷ [])
    ≡ first_of (2 ∷ 3 ∷ 4 ∷ []) (2 when b' ∷ 3 when c' ∷ 4 when d' ∷ [])
unfolding first_of
rows_same true c d b' c' d' e f g = rw (← e)
rows_same false true d b' c' d' e f g = rw (← e, ← f)
rows_same false false d b' c' d' e f g = rw (← e, ← f, g refl refl)

module _ (ws : List ℕ) (i : ℕ) (l : suc i < length ws) (c : ClearTo ws (suc i))
    (v : valid (get_or ws (suc i) 0) ≡ true) where
  abbrev w : ℕ
  w = get_or ws (suc i) 0

  abbrev u : ℕ
  u = get_or ws i 0

  fits : suc i ≤ length ws
  fits = omega arith

  code : valid u ≡ true
  code = clear_valid ws fits c i (omega arith)

  at : (j : ℕ) → j < suc i → get_or (take (suc i) ws) j 0 ≡ get_or ws j 0
  at j h = get_or-take (suc i) ws j 0 h

  size : length (take (suc i) ws) ≡ suc i
  size = length-take-le (suc i) ws fits

  -- inside some word before is inside the last
  last_inside : less_than u w ≡ true → some (inside_of w) (take (suc i) ws) ≡ inside_of w u
  last_inside h = go (known (inside_of w u))
    where
      go : (inside_of w u ≡ true) ⊎ (inside_of w u ≡ false) → some (inside_of w) (take (suc i) ws) ≡ inside_of w u
      go (inl e) = ⊎_elim (λ s. s ∙ sym e) (λ s. absurd (clash (ap (inside_of w) (at i (omega arith)) ∙ e)
          (none_there (inside_of w) 0 (take (suc i) ws) i (omega (arith, size)) s)))
          (known (some (inside_of w) (take (suc i) ws)))
      go (inr e) = none_each (inside_of w) 0 (take (suc i) ws) each ∙ sym e
        where
          each : (j : ℕ) → j < length (take (suc i) ws) → inside_of w (get_or (take (suc i) ws) j 0) ≡ false
          each j k =
              let m : j < suc i = omega (arith, k, size) in
              rw (at j m) (⊎_elim (λ s. absurd (clash (last_clear ws fits c w i j refl h m s) e)) (λ s. s)
              (known (inside_of w (get_or ws j 0))))

  later_reach : reason_at ws (suc i) ≡ reason_by (reach_before ws (suc i)) (rank w)
  unfolding reason_at reason_by
  later_reach =
      rw v (rows_same (less_than w u) (eqb w u) (some (inside_of w) (take (suc i) ws))
      (ltb (rank w) (rank u)) (eqb (rank w) (rank u)) (ltb (rank w) (end u))
      (less_by_rank w u v code) (same_by_rank w u v code)
      (λ a b. let h = above w u v code a (eqb-false w u b) in last_inside h ∙ inside_by_end w u v code h))

first_reach : (ws : List ℕ) → valid (get_or ws 0 0) ≡ true
    → reason_at ws 0 ≡ reason_by (reach_before ws 0) (rank (get_or ws 0 0))
unfolding reason_at reason_by some first_of
first_reach ws v =
    let r = rank (get_or ws 0 0) in
    let h = rank_some (get_or ws 0 0) v in
    rw (v, le-ltb r 0 (omega arith), ne_eqb r 0 (λ e. omega (arith, e, h)))

by_reach : (ws : List ℕ) (i : ℕ) → i < length ws → ClearTo ws i → valid (get_or ws i 0) ≡ true
    → reason_at ws i ≡ reason_by (reach_before ws i) (rank (get_or ws i 0))
by_reach ws zero l c v = first_reach ws v
by_reach ws (suc i) l c v = later_reach ws i l c v

-- a word that is no code
reason_invalid : (ws : List ℕ) (i : ℕ) → valid (get_or ws i 0) ≡ false → reason_at ws i ≡ 1
unfolding reason_at first_of
reason_invalid ws zero e = rw e
reason_invalid ws (suc i) e = rw e

-- ---- reasons

pub reason_some : (r : Reason) → reason_number r ≡ 0 → ⊥
reason_some Invalid e = omega (arith, e)
reason_some Less e = omega (arith, e)
reason_some Equal e = omega (arith, e)
reason_some Inside e = omega (arith, e)

-- any word
pub after_reach : (ws : List ℕ) (i : ℕ) → i < length ws → ClearTo ws i
    → reason_at ws i ≡ reason_after (reach_before ws i) (get_or ws i 0)
unfolding reason_after
after_reach ws i l c =
    ⊎_elim (λ v. by_reach ws i l c v ∙ rw v refl) (λ v. reason_invalid ws i v ∙ rw v refl)
    (known (valid (get_or ws i 0)))

-- and the same as it is tested
pub after_invalid : (last : Reach) (w : ℕ) → valid w ≡ false → 1 ≡ reason_after last w
unfolding reason_after
after_invalid last w v = rw v

pub after_valid : (last : Reach) (w : ℕ) → valid w ≡ true → reason_by last (rank w) ≡ reason_after last w
unfolding reason_after
after_valid last w v = rw v

-- ---- a pass over a list, wherever its words are read

-- The words before a place offend in nothing, and the last of them has this reach.
pub record Passed (ws : List ℕ) (i : ℕ) (last : Reach) : Type 0 where
  pub inside : i ≤ length ws
  pub clear : ClearTo ws i
  pub reached : last ≡ reach_before ws i

pub none_passed : (ws : List ℕ) → Passed ws 0 (record { rank = 0; end = 0 })
none_passed ws = record { inside = omega arith; clear = λ j l. absurd (omega arith); reached = refl }

module _ (ws : List ℕ) {i : ℕ} {last : Reach} (p : Passed ws i last) where
  -- one place more
  module _ {k w : ℕ} (l : i < length ws) (is : w ≡ get_or ws i 0) (e : k ≡ reason_after last w) where
    reason : k ≡ reason_at ws i
    reason = e ∙ (λ j. reason_after (p.reached j) (is j)) ∙ sym (after_reach ws i l p.clear)

    pub stopped : (k ≡ 0 → ⊥) → verdict k i ≡ checked ws
    stopped n = ap (λ (x : ℕ). verdict x i) reason ∙ sym (first_offence ws i l p.clear (λ z. n (reason ∙ z)))

    pub passed_more : {own : Reach} → own ≡ reach w → k ≡ 0 → Passed ws (i + 1) own
    passed_more f z =
        let one : suc i ≡ i + 1 = omega arith in
        record {
          inside = omega arith;
          clear = λ j h. ⊎_elim (λ q. ap (reason_at ws) q ∙ sym reason ∙ z) (λ q. p.clear j q)
              (eq-or-lt_of_le (let m : j ≤ i = omega arith in m));
          reached = f ∙ ap reach is ∙ ap (reach_before ws) one;
        }

  -- past the last
  pub all_passed : length ws ≤ i → accepted ≡ checked ws
  all_passed h = sym (all_clear ws (λ j k. p.clear j (omega (arith, h, k))))

-- ---- the reach as it is computed

module _ (w : ℕ) (v : valid w ≡ true) where
  abbrev n : ℕ
  n = degree_of w

  abbrev p : ℕ
  p = path (digits w n)

  -- the weight of the last digit is 64 widths
  pub unit_width : 2 ^ (54 - 2 * n) ≡ 64 * width w
  unfolding width
  unit_width =
      let e : 54 - 2 * n ≡ 6 + (48 - 2 * n) = omega (arith, degree_fits w v) in
      ap (λ (k : ℕ). 2 ^ k) e ∙ pow-add 2 6 (48 - 2 * n)

  pub start_word : side_of w * 2 ^ 54 + w % 2 ^ 54 ≡ 64 * start w
  unfolding start width
  start_word =
      let m : w % 2 ^ 54 ≡ p * 2 ^ (54 - 2 * n) =
      ap (λ (k : ℕ). k % 2 ^ 54) (code_word (valid_code w v))
      ∙ tail_is large large_roomy (side_of w) n p (degree_fits w v) (path_lt (digits_are w n)) in
      let q : p * 2 ^ (54 - 2 * n) ≡ 64 * (p * 2 ^ (48 - 2 * n)) =
      ap (λ (k : ℕ). p * k) unit_width ∙ omega arith in
      omega (arith, m, q)

  -- a word is its side and degree, and what its start has below them
  pub word_start : w ≡ side_of w * 2 ^ 59 + n * 2 ^ 54 + w % 2 ^ 54
  word_start = omega (arith, side_top large w)

  pub start_fits : 64 * start w < 2 ^ 60
  start_fits = omega (arith, start_word, (code_side (valid_code w v)).1)

  pub width_fits : 64 * width w ≤ 2 ^ 54
  width_fits = omega (arith, unit_width, pow_mono {i = 54 - 2 * n} {j = 54} (omega arith))

  pub reach_is : {s d u : ℕ} → s ≡ 64 * start w → d ≡ n → u ≡ 2 ^ (54 - 2 * n)
      → record { rank = s + d; end = s + u } ≡ reach w
  unfolding rank end
  reach_is e f g =
      let h : 64 * start w + 64 * width w ≡ 64 * (start w + width w) = omega arith in
      (λ i. record { rank = e i + f i; end = e i + (g ∙ unit_width) i })
      ∙ (λ i. record { rank = 64 * start w + n; end = h i })
