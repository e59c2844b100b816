-- The first refused direction is the first whose code has a first byte of 0; the answer from what is counted. Assumes
-- nothing.
use mathlib.Core.Path.{◌≡◌, ◌∙◌, refl, sym, ap, subst}
use mathlib.Core.Bool.{cond}
use mathlib.Core.Logic.{⊎_elim}
use mathlib.Core.List.{List, [], ◌++◌, append-nil}
use Prim.Native.Nat.{ℕ, zero, suc, ◌+◌, ◌*◌, ◌/◌, ◌%◌, ◌^◌, ◌<◌}
use native.Mathlib.Omega.{arith}
use lib.IntN.{ℤ, pos}
use lib.ListN.{length, get_or, drop}
use lib.Seq.{get_or-drop}
use Rattle.frame.specs.Lists.{first_place}
use Rattle.frame.proofs.Answering.{answers_or_not}
use Rattle.octets.specs.Bytes.{bytes, number_at, signed}
use Rattle.octets.proofs.Laying.{read_at}
use Rattle.words.specs.Family.{CodeAnswer}
use Rattle.words.proofs.Codes.{code_fields}
use Rattle.filing.specs.declared.Direction.{Direction}
use Rattle.directions.specs.Answers.{FileAnswer}
use Rattle.directions.proofs.FilingCalls.{answer_small}
use Rattle.directions.specs.Refusals.{refuse_file}
use Rattle.grid.specs.Writing.{towards}
use Rattle.sweeps.specs.Sweeps.{SweepAnswer, Singles, done, then, codes_of}
use Rattle.sweeps.specs.Promises.{direction_at}
use Rattle.sweeps.specs.Means.Counted.{is_zero, Tells}
use Rattle.sweeps.proofs.CountedParts.{is_zero_lem, not_zero, zero_inside, tells_swept}
use Rattle.host_sweeps.specs.Means.CountedBytes.{direction_in, CountedBytes, first_bytes}
use Rattle.host_sweeps.specs.Answers.{directions_in, SweptBytes}
use Rattle.host_sweeps.proofs.ByteSweeps.{in_long, written_long}

-- ---- first bytes

pub firsts_long : (n : ℕ) (bs : List ℕ) → length (first_bytes n bs) ≡ n
unfolding first_bytes
firsts_long zero bs = refl
firsts_long (suc n) bs = ap suc (firsts_long n (drop 8 bs))

pub firsts_at : (n : ℕ) (bs : List ℕ) (i : ℕ) → i < n → get_or (first_bytes n bs) i 0 ≡ get_or bs (8 * i) 0
unfolding first_bytes
firsts_at zero bs i l = absurd (omega (arith, l))
firsts_at (suc n) bs zero l = refl
firsts_at (suc n) bs (suc i) l =
    let e : 8 + 8 * i ≡ 8 * suc i = omega arith in
    firsts_at n (drop 8 bs) i (omega (arith, l)) ∙ get_or-drop 8 bs (8 * i) 0 ∙ ap (λ (j : ℕ). get_or bs j 0) e

-- a code that is not 0 has a first byte that is not
same_zero : (n : ℕ) (d : Direction) (s : CodeAnswer) → FileAnswer n d s
    → is_zero (s.code.0 / 256 ^ 7 % 256) ≡ is_zero s.code.0
same_zero n d s p =
    let w = s.code.0 in
    ⊎_elim
    (λ z.
    let low = (code_fields (p.answered z).is.code).a_low in
    let high = (answer_small n d s p).0 in
    not_zero (w / 256 ^ 7 % 256) (omega (arith, low, high)) ∙ sym (not_zero w (omega (arith, low))))
    (λ k.
    let e : w ≡ 0 = ap (λ (a : CodeAnswer). a.code.0) (p.refused k) in
    is_zero_lem (w / 256 ^ 7 % 256) (omega (arith, e)) ∙ sym (is_zero_lem w e))
    (answers_or_not (refuse_file n d))

firsts_same : {n : ℕ} {ds : List ℤ} {rs : List CodeAnswer} (rest : List ℕ) → Singles n ds rs
    → first_place is_zero (first_bytes (length (codes_of rs)) (bytes 8 (codes_of rs) ++ rest))
    ≡ first_place is_zero (codes_of rs)
unfolding first_place first_bytes bytes
firsts_same rest done = refl
firsts_same {n} rest (then {r = r} f a) = λ i. cond (same_zero n _ r f i) 0 (suc (firsts_same rest a i))

-- ---- the answer

module _ {n : ℕ} (dirs : List ℕ) {codes new : List ℕ} {m : ℕ}
    (x : CountedBytes n (directions_in dirs) codes m new) (e : length dirs % 12 ≡ 0) where
  place : first_place is_zero (first_bytes (length dirs / 12) new) ≡ first_place is_zero (x.written ++ [])
  place =
      let q = written_long x (length dirs / 12) (omega (arith, in_long dirs, e)) in
      let rest = drop (length (bytes 8 x.written)) codes in
      (λ i. first_place is_zero (first_bytes (sym q i) (x.put i)))
      ∙ ap (λ (ws : List ℕ). first_place is_zero (first_bytes (length ws) (bytes 8 ws ++ rest))) x.counted.are
      ∙ firsts_same rest x.counted.each
      ∙ ap (first_place is_zero) (sym x.counted.are ∙ sym (append-nil x.written))

  pub zero_in : (m ≡ 0 → ⊥) → first_place is_zero (first_bytes (length dirs / 12) new) < length dirs / 12
  zero_in k = omega (arith, place, zero_inside [] x.counted k, in_long dirs, e)

  pub tells_bytes : {r : SweepAnswer}
      → Tells n (directions_in dirs) (first_place is_zero (first_bytes (length dirs / 12) new)) m r
      → SweptBytes n dirs codes r new
  tells_bytes {r} t = record {
    written = x.written;
    swept = tells_swept [] x.counted (subst (λ (p : ℕ). Tells n (directions_in dirs) p m r) place t);
    put = x.put;
  }

-- direction i of the numbers is that of the bytes
pub direction_in_lem : (dirs : List ℕ) (i : ℕ) → 12 * i + 11 < length dirs
    → direction_in dirs i ≡ direction_at (directions_in dirs) i
direction_in_lem dirs i l =
    let at : (j : ℕ) → j < length dirs / 4 → signed 4 (number_at 4 dirs j) ≡ get_or (directions_in dirs) j (pos 0) =
    λ j k. sym (read_at (signed 4) 4 (pos 0) (length dirs / 4) dirs j k) in
    let x = at (3 * i) (omega (arith, l)) in
    let y = at (3 * i + 1) (omega (arith, l)) in
    let z = at (3 * i + 2) (omega (arith, l)) in
    λ j. towards (x j) (y j) (z j)
