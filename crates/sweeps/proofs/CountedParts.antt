-- How a sweep is counted: a direction more, two parts, and the answer from what is counted. Assumes nothing.
use mathlib.Core.Path.{◌≡◌, ◌∙◌, refl, sym, ap, subst}
use mathlib.Core.Bool.{true, false}
use mathlib.Core.List.{List, [], ◌∷◌, ◌++◌, append_assoc}
use Prim.Native.Nat.{ℕ, zero, suc, ◌+◌, ◌-◌, ◌*◌, ◌/◌, ◌≤◌, ◌<◌}
use native.Mathlib.Omega.{arith}
use lib.IntN.{ℤ, pos}
use lib.ListN.{length, take, drop, set, get_or, length-drop, take-append-drop}
use lib.Seq.{take_all, take-suc, length-take-le}
use borrow.Rule.Slice.PartMut.{put_mid}
use Rattle.frame.specs.Lists.{first_place}
use Rattle.frame.proofs.Lengths.{two_parts, over_next, over_long}
use Rattle.words.specs.Family.{CodeAnswer}
use Rattle.net.specs.Steps.{non_zeros}
use Rattle.directions.specs.Answers.{FileAnswer}
use Rattle.directions.proofs.FilingCalls.{filed_code, refused_code}
use Rattle.grid.specs.Writing.{towards}
use Rattle.sweeps.specs.Sweeps.{SweepAnswer, Singles, done, then, codes_of, refusals_of, sweep_answer, first_refused}
use Rattle.sweeps.specs.Sweeps.{told, Swept}
use Rattle.sweeps.specs.Answers.{SweptInto}
use Rattle.sweeps.specs.Promises.{direction_at}
use Rattle.sweeps.specs.Means.Counted.{Counted, CountedInto, is_zero, Refuses, Tells}
use Rattle.sweeps.proofs.SingleCalls.{singles_append, singles_long, codes_append, refusals_append, codes_long}
use Rattle.sweeps.proofs.SingleCalls.{refusals_long, many, refusal_at}
use Rattle.sweeps.proofs.Told.{non_append, non_most, told_none, told_some, first_refused_lem}

-- ---- what is counted

pub counted_long : {n : ℕ} {l : List ℤ} {m : ℕ} {cs : List ℕ} → Counted n l m cs
    → length l ≡ 3 * length cs
counted_long s = omega (arith, singles_long s.each, ap length s.are, codes_long s.singles)

-- no more than there are
pub counted_most : {n : ℕ} {l : List ℤ} {m : ℕ} {cs : List ℕ} → Counted n l m cs → 3 * m ≤ length l
counted_most s = omega (
  arith,
  s.count,
  non_most (refusals_of s.singles),
  refusals_long s.singles,
  singles_long s.each,
)

pub counted_none : {n : ℕ} → Counted n [] 0 []
counted_none = record { singles = []; each = done; count = refl; are = refl }

pub counted_append : {n : ℕ} {k l : List ℤ} {a b : ℕ} {cs ds : List ℕ} → Counted n k a cs → Counted n l b ds
    → Counted n (k ++ l) (a + b) (cs ++ ds)
counted_append x y = record {
  singles = x.singles ++ y.singles;
  each = singles_append x.each y.each;
  count = (λ i. x.count i + y.count i) ∙ sym (non_append (refusals_of x.singles) (refusals_of y.singles))
      ∙ ap non_zeros (sym (refusals_append x.singles y.singles));
  are = (λ i. x.are i ++ y.are i) ∙ sym (codes_append x.singles y.singles);
}

pub counted_one : {n : ℕ} (x y z : ℤ) (s : CodeAnswer) → FileAnswer n (towards x y z) s
    → Counted n (x ∷ y ∷ z ∷ []) (non_zeros (s.refusal ∷ [])) (s.code.0 ∷ [])
counted_one x y z s f = record { singles = s ∷ []; each = then f done; count = refl; are = refl }

-- ---- the numbers of a direction more

pub take_three : (dirs : List ℤ) (i : ℕ) → 3 * i + 2 < length dirs
    → take (3 * suc i) dirs
    ≡ take (3 * i) dirs
    ++ (get_or dirs (3 * i) (pos 0) ∷ get_or dirs (3 * i + 1) (pos 0) ∷ get_or dirs (3 * i + 2) (pos 0) ∷ [])
take_three dirs i l =
    let k = 3 * i in
    let z = pos 0 in
    let e : 3 * suc i ≡ suc (suc (suc k)) = omega arith in
    let one : suc k ≡ k + 1 = omega arith in
    let two : suc (suc k) ≡ k + 2 = omega arith in
    ap (λ (j : ℕ). take j dirs) e
    ∙ take-suc dirs (suc (suc k)) z (omega (arith, l))
    ∙ ap (λ (x : List ℤ). x ++ (get_or dirs (suc (suc k)) z ∷ [])) (take-suc dirs (suc k) z (omega (arith, l)))
    ∙ ap (λ (x : List ℤ). (x ++ (get_or dirs (suc k) z ∷ [])) ++ (get_or dirs (suc (suc k)) z ∷ []))
    (take-suc dirs k z (omega (arith, l)))
    ∙ append_assoc (take k dirs ++ (get_or dirs k z ∷ [])) (get_or dirs (suc k) z ∷ [])
    (get_or dirs (suc (suc k)) z ∷ [])
    ∙ append_assoc (take k dirs) (get_or dirs k z ∷ []) (get_or dirs (suc k) z ∷ get_or dirs (suc (suc k)) z ∷ [])
    ∙ (λ j. take k dirs ++ (get_or dirs k z ∷ get_or dirs (one j) z ∷ get_or dirs (two j) z ∷ []))

-- ---- into a list

pub into_none : {n : ℕ} (dirs : List ℤ) (out : List ℕ) → CountedInto n (take 0 dirs) out 0 out
into_none dirs out = record { codes = []; counted = counted_none; put = refl }

pub into_long : {n : ℕ} {dirs : List ℤ} {out new : List ℕ} {m : ℕ} → CountedInto n dirs out m new
    → length dirs ≤ 3 * length out → length new ≡ length out
into_long x l = ap length x.put ∙ over_long x.codes _ (omega (arith, l, counted_long x.counted))

-- as the loop goes: i directions are filed, and `mid` is what stands in the list
pub into_next : {n : ℕ} (i : ℕ) (dirs : List ℤ) {out mid : List ℕ} {m : ℕ} (s : CodeAnswer)
    → 3 * i + 2 < length dirs
    → length dirs ≤ 3 * length out → CountedInto n (take (3 * i) dirs) out m mid
    → FileAnswer n (direction_at dirs i) s
    → CountedInto n (take (3 * suc i) dirs) out (m + non_zeros (s.refusal ∷ [])) (set mid i s.code.0)
into_next {n} i dirs {out} {mid} {m} s l room x f =
    let t = length-take-le (3 * i) dirs (omega (arith, l)) in
    record {
      codes = x.codes ++ (s.code.0 ∷ []);
      counted = subst (λ (d : List ℤ). Counted n d (m + non_zeros (s.refusal ∷ []))
          (x.codes ++ (s.code.0 ∷ [])))
          (sym (take_three dirs i l)) (counted_append x.counted (counted_one _ _ _ s f));
      put = ap (λ (y : List ℕ). set y i s.code.0) x.put
          ∙ over_next x.codes out s.code.0 i (omega (arith, counted_long x.counted, t))
          (omega (arith, l, room));
    }

-- as the halves are handed on: the first h directions into the list, the rest into its part from place h
pub two_slices : {n : ℕ} (h : ℕ) (dirs : List ℤ) {out mid late : List ℕ} {a b : ℕ} → 3 * h ≤ length dirs
    → CountedInto n (take (3 * h) dirs) out a mid
    → CountedInto n (take (length dirs - 3 * h) (drop (3 * h) dirs)) (take (length mid - h) (drop h mid)) b late
    → CountedInto n dirs out (a + b) (put_mid h (length mid - h) mid late)
two_slices {n} h dirs {out} {mid} {late} {a} {b} l x y =
    let t = length-take-le (3 * h) dirs l in
    let rest : take (length dirs - 3 * h) (drop (3 * h) dirs) ≡ drop (3 * h) dirs =
    take_all (length dirs - 3 * h) (drop (3 * h) dirs) (omega (arith, length-drop (3 * h) dirs)) in
    let whole : take (3 * h) dirs ++ take (length dirs - 3 * h) (drop (3 * h) dirs) ≡ dirs =
    ap (λ (d : List ℤ). take (3 * h) dirs ++ d) rest ∙ take-append-drop (3 * h) dirs in
    record {
      codes = x.codes ++ y.codes;
      counted = subst (λ (d : List ℤ). Counted n d (a + b) (x.codes ++ y.codes)) whole
          (counted_append x.counted y.counted);
      put = two_parts out mid late x.codes y.codes h (omega (arith, counted_long x.counted, t)) x.put
          y.put;
    }

-- ---- the first refused is the first with the code 0

pub is_zero_lem : (w : ℕ) → w ≡ 0 → is_zero w ≡ true
is_zero_lem w e = ap is_zero e

pub not_zero : (w : ℕ) → 0 < w → is_zero w ≡ false
not_zero zero l = absurd (omega (arith, l))
not_zero (suc w) l = refl

pub first_zero : {n : ℕ} {dirs : List ℤ} {rs : List CodeAnswer} (m : ℕ) (rest : List ℕ) → Singles n dirs rs
    → non_zeros (refusals_of rs) ≡ suc m → first_place is_zero (codes_of rs ++ rest) ≡ first_refused (refusals_of rs)
unfolding first_place
first_zero m rest done e = absurd (omega (arith, e))
first_zero {n} m rest (then {x} {y} {z} {more} {r} {rs} f a) e = go r.refusal refl e (first_zero m rest a)
  where
    go : (g : ℕ) → r.refusal ≡ g → non_zeros (g ∷ refusals_of rs) ≡ suc m
        → (non_zeros (refusals_of rs) ≡ suc m
        → first_place is_zero (codes_of rs ++ rest) ≡ first_refused (refusals_of rs))
        → first_place is_zero (r.code.0 ∷ (codes_of rs ++ rest)) ≡ first_refused (g ∷ refusals_of rs)
    go zero q e later = rw (not_zero _ (filed_code n _ r f q)) (ap suc (later e))
    go (suc g) q e later = rw (is_zero_lem _ (refused_code n _ r f (λ z. omega (arith, q, z)))) refl

-- ---- the answer

module _ {n : ℕ} {dirs : List ℤ} {m : ℕ} {cs : List ℕ} (rest : List ℕ) (x : Counted n dirs m cs) where
  abbrev fs : List ℕ
  fs = refusals_of x.singles

  place : {k : ℕ} → m ≡ suc k → first_place is_zero (cs ++ rest) ≡ first_refused fs
  place {k} e = ap (λ (l : List ℕ). first_place is_zero (l ++ rest)) x.are
      ∙ first_zero k rest x.each (sym x.count ∙ e)

  inside : {k : ℕ} → m ≡ suc k → first_refused fs < length dirs / 3
  inside {k} e =
      omega (arith, (first_refused_lem fs k (sym x.count ∙ e)).0, refusals_long x.singles, many x.each)

  -- the first with the code 0 is one of the directions
  pub zero_inside : (m ≡ 0 → ⊥) → 3 * first_place is_zero (cs ++ rest) + 2 < length dirs
  zero_inside = go m refl
    where
      go : (k : ℕ) → m ≡ k → (k ≡ 0 → ⊥) → 3 * first_place is_zero (cs ++ rest) + 2 < length dirs
      go zero e z = absurd (z refl)
      go (suc k) e z = omega (arith, place e, inside e)

  -- and that one is refused
  pub zero_refused : (m ≡ 0 → ⊥) → Refuses n (direction_at dirs (first_place is_zero (cs ++ rest)))
  zero_refused some s f z = go m refl
    where
      go : (k : ℕ) → m ≡ k → ⊥
      go zero e = some e
      go (suc k) e =
          let h : FileAnswer n (direction_at dirs (first_refused fs)) s =
          subst (λ (i : ℕ). FileAnswer n (direction_at dirs i) s) (place e) f in
          (first_refused_lem fs k (sym x.count ∙ e)).1 (refusal_at x.each (first_refused fs) s (inside e) h ∙ z)

  pub tells_swept : {r : SweepAnswer} → Tells n dirs (first_place is_zero (cs ++ rest)) m r → Swept n dirs r cs
  tells_swept {r} t = record { singles = x.singles; each = x.each; answer = go m refl; are = x.are }
    where
      go : (k : ℕ) → m ≡ k → r ≡ told fs
      go zero e = t.none e ∙ sym (told_none fs (sym x.count ∙ e))
      go (suc k) e =
          let s = t.some (λ z. omega (arith, e, z)) in
          let p = place e in
          let q = sym x.count ∙ e in
          let f : FileAnswer n (direction_at dirs (first_refused fs)) s.0 =
          subst (λ (i : ℕ). FileAnswer n (direction_at dirs i) s.0) p s.1 in
          let g : get_or fs (first_refused fs) 0 ≡ s.0.refusal = refusal_at x.each (first_refused fs) s.0 (inside e) f in
          s.2 ∙ (λ i. sweep_answer 0 (e i) (p i) (sym g i))
          ∙ sym (told_some fs k q)

-- the same in a list
pub tells_into : {n : ℕ} {dirs : List ℤ} {out new : List ℕ} {m : ℕ} {r : SweepAnswer}
    → CountedInto n dirs out m new
    → Tells n dirs (first_place is_zero new) m r → SweptInto n dirs out r new
tells_into {n} {dirs} {out} {new} {m} {r} x t = record {
  codes = x.codes;
  swept = tells_swept (drop (length x.codes) out) x.counted
      (subst (λ (l : List ℕ). Tells n dirs (first_place is_zero l) m r) x.put t);
  put = x.put;
}

pub refused_in : {n : ℕ} {dirs : List ℤ} {out new : List ℕ} {m : ℕ} → CountedInto n dirs out m new
    → (m ≡ 0 → ⊥)
    → Refuses n (direction_at dirs (first_place is_zero new))
refused_in {n} {dirs} {out} {new} x k =
    subst (λ (l : List ℕ). Refuses n (direction_at dirs (first_place is_zero l))) (sym x.put)
    (zero_refused (drop (length x.codes) out) x.counted k)

pub zero_in : {n : ℕ} {dirs : List ℤ} {out new : List ℕ} {m : ℕ} → CountedInto n dirs out m new
    → (m ≡ 0 → ⊥)
    → 3 * first_place is_zero new + 2 < length dirs
zero_in {n} {dirs} {out} {new} x k =
    subst (λ (l : List ℕ). 3 * first_place is_zero l + 2 < length dirs) (sym x.put)
    (zero_inside (drop (length x.codes) out) x.counted k)
