-- Place by place a sweep is the single calls, and a sweep in two parts is the whole. Assumes nothing.
use mathlib.Core.Path.{◌≡◌, ◌∙◌, sym, ap, subst}
use mathlib.Core.List.{List, [], ◌∷◌, ◌++◌, append_assoc}
use Prim.Native.Nat.{ℕ, ◌*◌, ◌/◌, ◌≤◌, ◌<◌}
use native.Mathlib.Omega.{arith}
use lib.IntN.{ℤ}
use lib.ListN.{length, get_or, take, drop, get_or-append, length-append, take-append-drop}
use lib.Seq.{take_at, drop_at, drop-drop, length-take-le}
use Rattle.frame.specs.Answers.{over}
use Rattle.words.specs.Family.{CodeAnswer}
use Rattle.directions.specs.Answers.{FileAnswer}
use Rattle.net.specs.Steps.{non_zeros}
use Rattle.grid.specs.Writing.{towards}
use Rattle.sweeps.specs.Sweeps.{SweepAnswer, done, then, refusals_of, sweep_answer, no_sweep, told, Swept}
use Rattle.sweeps.specs.Answers.{SweptInto}
use Rattle.sweeps.specs.Promises.{direction_at, Found, joined}
use Rattle.sweeps.proofs.Told.{by_told, first_refused_lem, none_earlier, all_zero, told_none, told_one}
use Rattle.sweeps.proofs.SingleCalls.{singles_one, many, refusals_long, code_at_lem, refusal_at}
use Rattle.sweeps.proofs.SweptParts.{swept_long, swept_append}

module _ {n : ℕ} {dirs : List ℤ} {r : SweepAnswer} {cs : List ℕ} (p : Swept n dirs r cs) where
  abbrev fs : List ℕ
  fs = refusals_of p.singles

  pub many_codes : length cs ≡ length dirs / 3
  many_codes = omega (arith, swept_long p)

  -- ---- the first refused

  count : length fs ≡ length dirs / 3
  count = refusals_long p.singles ∙ many p.each

  pub first_inside : (r.refused ≡ 0 → ⊥) → r.place < length dirs / 3
  first_inside k =
      by_told fs (λ z e. absurd (k (ap (λ (a : SweepAnswer). a.refused) (p.answer ∙ e))))
      (λ m z e. omega (arith, ap (λ (a : SweepAnswer). a.place) (p.answer ∙ e), (first_refused_lem fs m z).0, count))

  pub first_at : (s : CodeAnswer) → (r.refused ≡ 0 → ⊥) → FileAnswer n (direction_at dirs r.place) s
      → (s.refusal ≡ r.first) × (s.refusal ≡ 0 → ⊥)
  first_at s k f =
      let a = refusal_at p.each r.place s (first_inside k) f in
      by_told fs (λ z e. absurd (k (ap (λ (a : SweepAnswer). a.refused) (p.answer ∙ e))))
      (λ m z e.
      let at = ap (λ (a : SweepAnswer). a.place) (p.answer ∙ e) in
      let b : s.refusal ≡ r.first =
      sym a ∙ ap (λ (i : ℕ). get_or fs i 0) at ∙ sym (ap (λ (a : SweepAnswer). a.first) (p.answer ∙ e)) in
      (b, λ q. (first_refused_lem fs m z).1 (ap (λ (i : ℕ). get_or fs i 0) (sym at) ∙ a ∙ q)))

  pub none_at : (i : ℕ) (s : CodeAnswer) → i < r.place → FileAnswer n (direction_at dirs i) s → s.refusal ≡ 0
  none_at i s l f =
      by_told fs (λ z e. absurd (omega (arith, l, ap (λ (a : SweepAnswer). a.place) (p.answer ∙ e))))
      (λ m z e.
      let at = ap (λ (a : SweepAnswer). a.place) (p.answer ∙ e) in
      sym (refusal_at p.each i s (omega (arith, l, at, (first_refused_lem fs m z).0, count)) f)
      ∙ none_earlier fs i (omega (arith, l, at)))

  -- ---- where none is refused

  pub none_told : r.refused ≡ 0 → r ≡ no_sweep 0
  none_told q = by_told fs (λ z e. p.answer ∙ e)
      (λ m z e. absurd (omega (arith, q, ap (λ (a : SweepAnswer). a.refused) (p.answer ∙ e))))

  pub filed_at : (i : ℕ) (s : CodeAnswer) → r.refused ≡ 0 → i < length dirs / 3
      → FileAnswer n (direction_at dirs i) s → s.refusal ≡ 0
  filed_at i s q l f = by_told fs (λ z e. sym (refusal_at p.each i s l f) ∙ all_zero fs z i)
      (λ m z e. absurd (omega (arith, q, ap (λ (a : SweepAnswer). a.refused) (p.answer ∙ e))))

-- ---- in the list

pub found : {n : ℕ} {dirs : List ℤ} {out new : List ℕ} {r : SweepAnswer} → SweptInto n dirs out r new
    → Found n dirs out r new
found {n} {dirs} {out} {new} {r} x =
    let p = x.swept in
    let m = many_codes p in
    let rest = drop (length x.codes) out in
    record {
      single = λ i s l f. ap (λ (y : List ℕ). get_or y i 0) x.put
          ∙ get_or-append x.codes rest 0 i (omega (arith, l, m))
          ∙ ap (λ (y : List ℕ). get_or y i 0) p.are ∙ code_at_lem p.each i s l f;
      later = ap (drop (length dirs / 3)) x.put ∙ drop_at x.codes rest (length dirs / 3) m
          ∙ ap (λ (k : ℕ). drop k out) m;
      first = first_at p;
      inside = first_inside p;
      none_before = none_at p;
      none_refused = none_told p;
      all_filed = filed_at p;
    }

-- ---- two parts

pub into_parts : {n : ℕ} (h : ℕ) (dirs : List ℤ) {out mid late : List ℕ} {a b : SweepAnswer}
    → 3 * h ≤ length dirs
    → SweptInto n (take (3 * h) dirs) out a mid → SweptInto n (drop (3 * h) dirs) (drop h mid) b late
    → SweptInto n dirs out (joined h a b) (take h mid ++ late)
into_parts {n} h dirs {out} {mid} {late} {a} {b} l x y =
    let c = x.codes in
    let d = y.codes in
    let t = length-take-le (3 * h) dirs l in
    let e : length c ≡ h = omega (arith, swept_long x.swept, t) in
    let rest = drop (length c) out in
    record {
      codes = c ++ d;
      swept = subst (λ (l : List ℤ). Swept n l (joined h a b) (c ++ d)) (take-append-drop (3 * h) dirs)
          (swept_append h t x.swept y.swept);
      put = (λ i. take h (x.put i) ++ y.put i)
          ∙ (λ i. take h (c ++ rest) ++ over d (drop h (x.put i)))
          ∙ (λ i. take_at c rest h e i ++ over d (drop_at c rest h e i))
          ∙ sym (append_assoc c d (drop (length d) rest))
          ∙ ap (λ (z : List ℕ). (c ++ d) ++ z) (drop-drop (length d) (length c) out)
          ∙ ap (λ (k : ℕ). (c ++ d) ++ drop k out) (sym (length-append c d));
    }

-- ---- a direction alone

pub alone : {n : ℕ} {x y z : ℤ} {r : SweepAnswer} {cs : List ℕ} {s : CodeAnswer}
    → Swept n (x ∷ y ∷ z ∷ []) r cs
    → FileAnswer n (towards x y z) s
    → (s.refusal ≡ 0 → r ≡ no_sweep 0) × ((s.refusal ≡ 0 → ⊥) → r ≡ sweep_answer 0 1 0 s.refusal)
alone {n} {x} {y} {z} {r} {cs} {s} p f =
    let e : r ≡ told (s.refusal ∷ []) =
    p.answer ∙ ap (λ (rs : List CodeAnswer). told (refusals_of rs)) (singles_one p.each (then f done)) in (
      λ k. e ∙ told_none (s.refusal ∷ []) (ap (λ (g : ℕ). non_zeros (g ∷ [])) k),
      λ k. e ∙ told_one s.refusal k,
    )
