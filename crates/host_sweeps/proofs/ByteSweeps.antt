-- A sweep over bytes: a direction more, the answer's three numbers, and the refusals of the whole call. Assumes
-- nothing.
use mathlib.Core.Path.{◌≡◌, ◌∙◌, refl, sym, ap, subst}
use mathlib.Core.Bool.{not}
use mathlib.Core.List.{List, [], ◌∷◌, ◌++◌, append_assoc}
use Prim.Native.Nat.{ℕ, suc, ◌+◌, ◌-◌, ◌*◌, ◌/◌, ◌%◌, ◌≤◌, ◌<◌}
use native.Mathlib.Omega.{arith}
use borrow.Author.Tests.{ltb-false, lt-ltb, le-ltb, eqb-true, eq-eqb, ne_eqb, not-false}
use borrow.Rule.Slice.PartMut.{put_mid}
use lib.Dec.{eqb}
use lib.IntN.{ℤ}
use lib.ListN.{length, take, drop}
use Rattle.frame.specs.Refusals.{Row, ◌when◌, order, list_rows}
use Rattle.frame.specs.Answers.{over}
use Rattle.frame.proofs.Refusing.{refuse_first, here, next, nothing, none_so}
use Rattle.frame.proofs.Lengths.{two_parts}
use Rattle.octets.specs.Bytes.{bytes_of, bytes, number_at, read_each, signed, signed_numbers}
use Rattle.octets.proofs.Laying.{read_long, read_next, bytes_long}
use Rattle.octets.proofs.WordLists.{bytes_more}
use Rattle.words.specs.Refusals.{degree_rows}
use Rattle.words.specs.Family.{CodeAnswer}
use Rattle.net.specs.Steps.{non_zeros}
use Rattle.directions.specs.Answers.{FileAnswer}
use Rattle.sweeps.specs.Means.Counted.{Counted}
use Rattle.sweeps.proofs.CountedParts.{counted_long, counted_most, counted_none, counted_append, counted_one}
use Rattle.host_sweeps.specs.Refusals.{refuse_sweep}
use Rattle.host_sweeps.specs.Answers.{directions_in}
use Rattle.host_sweeps.specs.Means.CountedBytes.{direction_in, CountedBytes}

pub in_long : (dirs : List ℕ) → length (directions_in dirs) ≡ length dirs / 4
in_long dirs = read_long (signed 4) 4 (length dirs / 4) dirs

-- ---- one code for each direction

module _ {n : ℕ} {ds : List ℤ} {codes new : List ℕ} {m : ℕ} (x : CountedBytes n ds codes m new) (i : ℕ)
    (e : length ds ≡ 3 * i) where
  pub written_long : length x.written ≡ i
  written_long = omega (arith, counted_long x.counted, e)

  pub most : m ≤ i
  most = omega (arith, counted_most x.counted, e)

  -- their bytes
  pub eight_each : length (bytes 8 x.written) ≡ 8 * i
  eight_each = bytes_long 8 x.written ∙ ap (λ (j : ℕ). 8 * j) written_long

-- as the loop goes: i directions are filed, and `mid` is what stands in the bytes

pub bytes_none : {n : ℕ} (dirs codes : List ℕ) → CountedBytes n (signed_numbers 4 (3 * 0) dirs) codes 0 codes
unfolding read_each bytes
bytes_none dirs codes = record { written = []; counted = counted_none; put = refl }

-- the numbers of a direction more
three_more : (i : ℕ) (bs : List ℕ) → signed_numbers 4 (3 * suc i) bs
    ≡ signed_numbers 4 (3 * i) bs
    ++ ((direction_in bs i).x ∷ (direction_in bs i).y ∷ (direction_in bs i).z ∷ [])
three_more i bs =
    let k = 3 * i in
    let at : ℕ → ℤ = λ j. signed 4 (number_at 4 bs j) in
    let e : 3 * suc i ≡ suc (suc (suc k)) = omega arith in
    let one : suc k ≡ k + 1 = omega arith in
    let two : suc (suc k) ≡ k + 2 = omega arith in
    ap (λ (j : ℕ). signed_numbers 4 j bs) e
    ∙ read_next (signed 4) 4 (suc (suc k)) bs
    ∙ ap (λ (l : List ℤ). l ++ (at (suc (suc k)) ∷ [])) (read_next (signed 4) 4 (suc k) bs)
    ∙ ap (λ (l : List ℤ). (l ++ (at (suc k) ∷ [])) ++ (at (suc (suc k)) ∷ [])) (read_next (signed 4) 4 k bs)
    ∙ append_assoc (signed_numbers 4 k bs ++ (at k ∷ [])) (at (suc k) ∷ []) (at (suc (suc k)) ∷ [])
    ∙ append_assoc (signed_numbers 4 k bs) (at k ∷ []) (at (suc k) ∷ at (suc (suc k)) ∷ [])
    ∙ (λ j. signed_numbers 4 k bs ++ (at k ∷ at (one j) ∷ at (two j) ∷ []))

pub bytes_next : {n : ℕ} (i : ℕ) (dirs : List ℕ) {codes mid late : List ℕ} {m : ℕ} (s : CodeAnswer)
    → CountedBytes n (signed_numbers 4 (3 * i) dirs) codes m mid → FileAnswer n (direction_in dirs i) s
    → late ≡ over (bytes_of 8 s.code.0) (take (length mid - 8 * i) (drop (8 * i) mid))
    → CountedBytes n (signed_numbers 4 (3 * suc i) dirs) codes (m + non_zeros (s.refusal ∷ []))
    (put_mid (8 * i) (length mid - 8 * i) mid late)
bytes_next {n} i dirs {codes} {mid} {late} {m} s x f p =
    let ws = x.written ++ (s.code.0 ∷ []) in
    record {
      written = ws;
      counted = subst (λ (ds : List ℤ). Counted n ds (m + non_zeros (s.refusal ∷ [])) ws) (sym (three_more i dirs))
          (counted_append x.counted (counted_one _ _ _ s f));
      put = two_parts codes mid late (bytes 8 x.written) (bytes_of 8 s.code.0) (8 * i)
          (eight_each x i (read_long (signed 4) 4 (3 * i) dirs)) x.put p
          ∙ ap (λ (bs : List ℕ). over bs codes) (bytes_more x.written s.code.0);
    }

-- ---- three numbers, each in the part that follows

pub laid_three : (a b c : ℕ) (out mid late last : List ℕ) → mid ≡ over (bytes_of 8 a) out
    → late ≡ over (bytes_of 8 b) (take (length mid - 8) (drop 8 mid))
    → last ≡ over (bytes_of 8 c) (take (length (put_mid 8 (length mid - 8) mid late) - 16)
    (drop 16 (put_mid 8 (length mid - 8) mid late)))
    → put_mid 16 (length (put_mid 8 (length mid - 8) mid late) - 16) (put_mid 8 (length mid - 8) mid late) last
    ≡ over (bytes 8 (a ∷ b ∷ c ∷ [])) out
unfolding bytes
laid_three a b c out mid late last p q r =
    two_parts out _ last (bytes_of 8 a ++ bytes_of 8 b) (bytes_of 8 c) 16 refl
    (two_parts out mid late (bytes_of 8 a) (bytes_of 8 b) 8 refl p q) r

-- ---- the refusals of the whole call by their tests, and when there is none

module _ (n : ℕ) (dirs codes out : List ℕ) where
  abbrev rows : List Row
  rows = degree_rows n ++ (9 when not (eqb (length dirs % 12) 0) ∷ []) ++ list_rows (8 * (length dirs / 12)) codes
      ++ list_rows 24 out

  pub refuse_degree : 24 < n → 1 ≡ refuse_sweep n dirs codes out
  unfolding refuse_sweep
  refuse_degree l = refuse_first order rows tt (here (lt-ltb _ _ l))

  module _ (low : n ≤ 24) where
    pub refuse_odd : (length dirs % 12 ≡ 0 → ⊥) → 9 ≡ refuse_sweep n dirs codes out
    unfolding refuse_sweep
    refuse_odd k = refuse_first order rows tt (next (le-ltb _ _ low) (here (ap not (ne_eqb _ _ k))))

    module _ (even : length dirs % 12 ≡ 0) where
      pub refuse_codes : length codes < 8 * (length dirs / 12) → 9 ≡ refuse_sweep n dirs codes out
      unfolding refuse_sweep
      refuse_codes l = refuse_first order rows tt
          (next (le-ltb _ _ low) (next (ap not (eq-eqb _ _ even)) (here (lt-ltb _ _ l))))

      module _ (room : 8 * (length dirs / 12) ≤ length codes) where
        pub refuse_out : length out < 24 → 9 ≡ refuse_sweep n dirs codes out
        unfolding refuse_sweep
        refuse_out l = refuse_first order rows tt
            (next (le-ltb _ _ low) (next (ap not (eq-eqb _ _ even)) (next (le-ltb _ _ room) (here (lt-ltb _ _ l)))))

        pub refuse_nothing : 24 ≤ length out → 0 ≡ refuse_sweep n dirs codes out
        unfolding refuse_sweep
        refuse_nothing l = refuse_first order rows tt
            (next (le-ltb _ _ low)
            (next (ap not (eq-eqb _ _ even)) (next (le-ltb _ _ room) (next (le-ltb _ _ l) nothing))))

  pub record Fine : Type 0 where
    pub low : n ≤ 24
    pub even : length dirs % 12 ≡ 0
    pub room : 8 * (length dirs / 12) ≤ length codes
    pub enough : 24 ≤ length out

  pub fine : refuse_sweep n dirs codes out ≡ 0 → Fine
  unfolding refuse_sweep
  fine z =
      let s = (none_so order rows tt).0 z in
      record {
        low = ltb-false _ _ s.0;
        even = eqb-true _ _ (not-false _ s.1.0);
        room = ltb-false _ _ s.1.1.0;
        enough = ltb-false _ _ s.1.1.1.0;
      }
