-- A list is accepted exactly when it should be, and else the first offending place is the one answered. Assumes
-- nothing.
use mathlib.Core.Path.{◌≡◌, ◌∙◌, refl, sym, ap}
use mathlib.Core.Bool.{true, false, not}
use mathlib.Core.Logic.{⊎_elim, ◌↔◌}
use mathlib.Core.List.{List, [], ◌∷◌, ◌++◌}
use Prim.Native.Nat.{ℕ, zero, suc, ◌+◌, ◌-◌, ◌<◌, ◌≤◌}
use native.Mathlib.Nat.{eq-or-lt_of_le}
use native.Mathlib.Decide.{dec_le}
use native.Mathlib.Omega.{arith}
use borrow.Author.Tests.{eqb-true, eqb-false, eq-eqb, ne_eqb, not-false}
use lib.Dec.{eqb}
use lib.ListN.{length, get_or, take, length-append, get_or-append}
use lib.Seq.{get_or-take, length-take-le, get_or_at}
use Rattle.frame.specs.Lists.{some, first_place}
use Rattle.frame.proofs.Refusing.{none_so}
use Rattle.frame.proofs.Scanning.{first_there, none_before, none_each, none_there, first_is}
use Rattle.frame.proofs.Below.{length_below, at_below}
use Rattle.cells.specs.Order.{valid, less_than, inside_of}
use Rattle.cells.specs.Checking.{reason_at, reasons, offends, verdict, accepted, checked, Accepted}
use Rattle.cells.specs.Promises.{OneAnswer, FirstOffence, Checks, LastDecides}
use Rattle.cells.specs.Means.Ranks.{ClearTo}
use Rattle.cells.specs.Checking.{Verdict}
use Rattle.cells.proofs.Dictionary.{known, clash}
use Rattle.cells.proofs.Spelling.{less_self, less_trans, less_ne, less_one_way, above, inside_between}
use Rattle.cells.proofs.Spelling.{not_inside}

module _ (ws : List ℕ) where
  abbrev at : ℕ → ℕ
  at i = get_or ws i 0

  -- ---- what a place that offends in nothing is

  first_clear : (reason_at ws 0 ≡ 0) ↔ (valid (at 0) ≡ true)
  unfolding reason_at some
  first_clear =
      let n = none_so (1 ∷ 2 ∷ 3 ∷ 4 ∷ []) _ tt in
      (λ e. not-false _ (n.0 e).0, λ v. n.1 (ap not v, (refl, tt)))

  -- the four tests of a later place
  pub record Later (i : ℕ) : Type 0 where
    pub code : valid (at (suc i)) ≡ true
    pub not_less : less_than (at (suc i)) (at i) ≡ false
    pub other : eqb (at (suc i)) (at i) ≡ false
    pub outside : some (inside_of (at (suc i))) (take (suc i) ws) ≡ false

  later_clear : (i : ℕ) → (reason_at ws (suc i) ≡ 0) ↔ Later i
  unfolding reason_at
  later_clear i =
      let n = none_so (1 ∷ 2 ∷ 3 ∷ 4 ∷ []) _ tt in (
        λ e. let f = n.0 e in
            record { code = not-false _ f.0; not_less = f.1.0; other = f.1.1.0; outside = f.1.1.1.0 },
        λ f. n.1 (ap not f.code, (f.not_less, (f.other, (f.outside, tt)))),
      )

  -- ---- places that rise

  abbrev Rise : ℕ → Type 0
  Rise n = (i : ℕ) → suc i < n → less_than (at i) (at (suc i)) ≡ true

  module _ {n : ℕ} (r : Rise n) where
    rises : (k i : ℕ) → suc (i + k) < n → less_than (at i) (at (suc (i + k))) ≡ true
    rises zero i l = let e : suc (i + 0) ≡ suc i = omega arith in rw e (r i (omega arith))
    rises (suc k) i l =
        let e : suc (i + suc k) ≡ suc (suc (i + k)) = omega arith in
        rw e (less_trans (at i) (at (suc (i + k))) (at (suc (suc (i + k)))) (rises k i (omega arith))
        (r (suc (i + k)) (omega arith)))

    -- from place to place, and so from any place to any later one
    pub rises_to : (i j : ℕ) → i < j → j < n → less_than (at i) (at j) ≡ true
    rises_to i j h l =
        let e : suc (i + (j - suc i)) ≡ j = omega arith in rw e at (rises (j - suc i) i (omega arith))

  -- ---- n places that offend in nothing

  module _ {n : ℕ} (fits : n ≤ length ws) (c : ClearTo ws n) where
    pub clear_valid : (i : ℕ) → i < n → valid (at i) ≡ true
    clear_valid zero l = first_clear.0 (c 0 l)
    clear_valid (suc i) l = ((later_clear i).0 (c (suc i) l)).code

    clear_rise : Rise n
    clear_rise i l =
        let f = (later_clear i).0 (c (suc i) l) in
        above (at (suc i)) (at i) f.code (clear_valid i (omega arith)) f.not_less
        (eqb-false (at (suc i)) (at i) f.other)

    clear_apart : (i j : ℕ) → i < n → j < n → inside_of (at i) (at j) ≡ false
    clear_apart i j l k = go (dec_le (suc j) i)
      where
        earlier : (i : ℕ) → j < i → i < n → inside_of (at i) (at j) ≡ false
        earlier zero h l = absurd (omega arith)
        earlier (suc i) h l =
            let k : j < length (take (suc i) ws) =
            omega (arith, length-take-le (suc i) ws (omega (arith, l, fits)), h) in
            let o = ((later_clear i).0 (c (suc i) l)).outside in
            let q = none_there (inside_of (at (suc i))) 0 (take (suc i) ws) j k o in
            rw (get_or-take (suc i) ws j 0 h) at q

        later : i ≤ j → less_than (at j) (at i) ≡ true → ⊥
        later h b =
            ⊎_elim
            (λ e. clash (ap (λ (k : ℕ). less_than (at j) (at k)) (sym e) ∙ b) (less_self (at j)))
            (λ m. clash (less_trans _ _ _ b (rises_to clear_rise i j m k)) (less_self (at j)))
            (eq-or-lt_of_le h)

        go : Dec (suc j ≤ i) → inside_of (at i) (at j) ≡ false
        go (yes h) = earlier i h l
        go (no n) = not_inside _ _ (later (omega arith))

    -- a word above the last of them lies inside one of them only where it lies inside the last
    pub last_clear : (w i j : ℕ) → suc i ≡ n → less_than (at i) w ≡ true → j < n → inside_of w (at j) ≡ true
        → inside_of w (at i) ≡ true
    last_clear w i j e l h b =
        ⊎_elim (λ q. ap (λ (k : ℕ). inside_of w (at k)) (sym q) ∙ b)
        (λ m. absurd (clash (inside_between (at j) (at i) w (rises_to clear_rise j i m (omega arith)) l b)
        (clear_apart i j (omega arith) h)))
        (eq-or-lt_of_le (let k : j ≤ i = omega arith in k))

  -- ---- all places

  clear_accepted : ClearTo ws (length ws) → Accepted ws
  clear_accepted c =
      let all : length ws ≤ length ws = omega arith in
      record { codes = clear_valid all c; rise = clear_rise all c; apart = clear_apart all c }

  pub accepted_clear : Accepted ws → ClearTo ws (length ws)
  accepted_clear a zero l = first_clear.1 (a.codes 0 l)
  accepted_clear a (suc i) l =
      let r = a.rise i l in
      (later_clear i).1 record {
        code = a.codes (suc i) l;
        not_less = less_one_way (at (suc i)) (at i) r;
        other = ne_eqb (at (suc i)) (at i) (λ e. less_ne (at i) (at (suc i)) r (sym e));
        outside = none_each (inside_of (at (suc i))) 0 (take (suc i) ws) (λ j h.
            let k : j < suc i = omega (arith, h, length-take-le (suc i) ws (omega (arith, l))) in
            rw (get_or-take (suc i) ws j 0 k) (a.apart (suc i) j l (omega arith)));
      }

  -- ---- the answer

  abbrev rs : List ℕ
  rs = reasons ws

  long : length rs ≡ length ws
  long = length_below (length ws) (reason_at ws)

  reason_is : (i : ℕ) → i < length ws → get_or rs i 0 ≡ reason_at ws i
  reason_is i l = at_below (length ws) (reason_at ws) 0 i l

  offends_none : {r : ℕ} → r ≡ 0 → offends r ≡ false
  offends_none {r} e = ap not (eq-eqb r 0 e)

  none_offends : {r : ℕ} → offends r ≡ false → r ≡ 0
  none_offends {r} e = eqb-true r 0 (not-false _ e)

  offends_some : {r : ℕ} → (r ≡ 0 → ⊥) → offends r ≡ true
  offends_some {r} n = ap not (ne_eqb r 0 n)

  pub all_clear : ClearTo ws (length ws) → checked ws ≡ accepted
  unfolding checked
  all_clear c = rw (none_each offends 0 rs (λ i l.
      let k : i < length ws = omega (arith, l, long) in offends_none (reason_is i k ∙ c i k)))

  pub first_offence : (i : ℕ) → i < length ws → ClearTo ws i → (reason_at ws i ≡ 0 → ⊥)
      → checked ws ≡ verdict (reason_at ws i) i
  unfolding checked
  first_offence i l c n =
      let q : offends (get_or rs i 0) ≡ true = rw (reason_is i l) (offends_some n) in
      let b : (j : ℕ) → j < i → offends (get_or rs j 0) ≡ false =
      (λ j k. offends_none (reason_is j (omega (arith, k, l)) ∙ c j k)) in
      let p = first_is offends 0 rs i (omega (arith, l, long)) b q in
      rw (p.0, p.1) (ap (λ (r : ℕ). verdict r i) (reason_is i l))

  none_clear : some offends rs ≡ false → ClearTo ws (length ws)
  none_clear e i l =
      sym (reason_is i l) ∙ none_offends (none_there offends 0 rs i (omega (arith, l, long)) e)

  found : some offends rs ≡ true → FirstOffence ws (checked ws)
  unfolding checked
  found e =
      let p = first_place offends rs in
      let t = first_there offends 0 rs e in
      let l : p < length ws = omega (arith, t.0, long) in
      rw e record {
        there = l;
        reason = reason_is p l;
        some = λ z. clash t.1 (offends_none z);
        first = λ i k. sym (reason_is i (omega (arith, k, l))) ∙ none_offends (none_before offends 0 rs i k);
      }

  -- no reason is given only where the list is accepted
  pub reason_none : (checked ws).reason ≡ 0 → Accepted ws
  reason_none e =
      clear_accepted (⊎_elim (λ s. absurd ((found s).some e)) none_clear (known (some offends rs)))

  exactly : (checked ws ≡ accepted) ↔ Accepted ws
  exactly = (λ e. reason_none (ap (λ (r : Verdict). r.reason) e), λ a. all_clear (accepted_clear a))

  offence : (Accepted ws → ⊥) → FirstOffence ws (checked ws)
  offence n = ⊎_elim found (λ e. absurd (n (clear_accepted (none_clear e)))) (known (some offends rs))

  only : (r : Verdict) → FirstOffence ws r → r ≡ checked ws
  only r f =
      (λ i. verdict (f.reason i) r.place)
      ∙ sym (first_offence r.place f.there f.first (λ z. f.some (f.reason ∙ z)))

pub one_answer : OneAnswer
one_answer = record { check = λ ws. (checked ws, record { meets = refl; only = λ s e. e }) }

pub checks : Checks
checks = record {
  exactly = exactly;
  offence = offence;
  only = only;
  empty = all_clear [] (λ i l. absurd (omega arith));
}

pub last_decides : LastDecides
last_decides ws u w a l i h b =
    let all = ws ++ (u ∷ []) in
    let n : length all ≡ suc (length ws) = length-append ws (u ∷ []) ∙ omega arith in
    let e : get_or all (length ws) 0 ≡ u = get_or_at ws u [] 0 (length ws) refl in
    let g : get_or all i 0 ≡ get_or ws i 0 = get_or-append ws (u ∷ []) 0 i h in
    ap (inside_of w) (sym e)
    ∙ last_clear all {n = length all} (omega arith) (accepted_clear all a) w (length ws) i (sym n)
    (ap (λ (k : ℕ). less_than k w) e ∙ l) (omega (arith, n, h)) (ap (inside_of w) g ∙ b)
