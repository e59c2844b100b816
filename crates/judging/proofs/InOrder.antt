-- One code more is judged: the key before it and the end of the last one kept decide. Assumes nothing.
use mathlib.Core.Path.{◌≡◌, ◌∙◌, refl, sym, ap, subst}
use mathlib.Core.Bool.{Bool, true, false, not, ◌&&◌}
use mathlib.Core.Logic.{◌⊎◌, inl, inr, ⊎_elim}
use mathlib.Core.List.{List, [], ◌∷◌, ◌++◌}
use Prim.Native.Nat.{ℕ, zero, suc, ◌≤◌, ◌<◌}
use native.Mathlib.Nat.{eq-or-lt_of_le}
use native.Mathlib.Decide.{dec_le}
use native.Mathlib.Omega.{arith}
use borrow.Author.Tests.{eqb-true, eqb-false, eq-eqb, ne_eqb, lt-ltb, ltb-true, ltb-false}
use lib.Dec.{eqb, ltb}
use lib.ListN.{length, get_or, take, set, length-append, get_or-append}
use lib.Seq.{get_or-set_same, get_or-set_other, get_or-take, get_or_at, length-take-le}
use Rattle.frame.specs.Refusals.{first_of}
use Rattle.frame.specs.Lists.{some}
use Rattle.frame.proofs.Scanning.{none_each, none_there}
use Rattle.cells.proofs.Dictionary.{known, clash}
use Rattle.judging.specs.Means.Keys.{end_of}
use Rattle.judging.specs.Means.Turns.{at, holds, Outer, why_at, why_next, InTurn, Nested, JudgedTo, Judged, Kept}

-- ---- one inside the other

pub holds_so : (r k : ℕ) → (r ≡ 0 → ⊥) → r < k → k < end_of r → holds r k ≡ true
unfolding holds
holds_so r k n l m = rw (ne_eqb r 0 n, lt-ltb r k l, lt-ltb k (end_of r) m)

pub record Held (r k : ℕ) : Type 0 where
  pub some : r ≡ 0 → ⊥
  pub below : r < k
  pub above : k < end_of r

both : (a b c : Bool) → not a && (b && c) ≡ true → (a ≡ false) × ((b ≡ true) × (c ≡ true))
both false true true e = (refl, (refl, refl))
both true b c e = absurd (clash e refl)
both false false c e = absurd (clash e refl)
both false true false e = absurd (clash e refl)

pub held : (r k : ℕ) → holds r k ≡ true → Held r k
unfolding holds
held r k e =
    let p = both (eqb r 0) (ltb r k) (ltb k (end_of r)) e in
    record { some = eqb-false r 0 p.0; below = ltb-true r k p.1.0; above = ltb-true k (end_of r) p.1.1 }

-- ---- the tests in turn

module _ (last end k : ℕ) where
  pub why_three : eqb k last ≡ true → why_next last end k ≡ 0 → ⊥
  unfolding why_next first_of
  why_three a z = let e : ◌≡◌ {A = ℕ} 3 0 = rw a at z in omega (arith, e)

  pub why_four : eqb k last ≡ false → ltb k end ≡ true → why_next last end k ≡ 0 → ⊥
  unfolding why_next first_of
  why_four a b z = let e : ◌≡◌ {A = ℕ} 4 0 = rw (a, b) at z in omega (arith, e)

  pub why_zero : eqb k last ≡ false → ltb k end ≡ false → why_next last end k ≡ 0
  unfolding why_next first_of
  why_zero a b = rw (a, b)

-- ---- one more

module _ (ks ps : List ℕ) (t : InTurn ks ps) where
  abbrev K : ℕ → ℕ
  K j = at ks (at ps j)

  -- keys do not fall
  rising : (j i : ℕ) → j ≤ i → i < length ps → K j ≤ K i
  rising j i l h =
      ⊎_elim (λ (e : j ≡ i). let q = ap K e in omega (arith, q))
      (λ m. ⊎_elim (λ q. omega (arith, q)) (λ q. omega (arith, q.0)) (t.turn j i m h)) (eq-or-lt_of_le l)

  -- a code with a lesser key comes before
  sooner : (q i : ℕ) → q < length ks → (at ks q ≡ 0 → ⊥) → i < length ps → at ks q < K i
      → (j : ℕ) × ((j < i) × (at ps j ≡ q))
  sooner q i l n h m = go (t.all q l n)
    where
      go : (j : ℕ) × ((j < length ps) × (at ps j ≡ q)) → (j : ℕ) × ((j < i) × (at ps j ≡ q))
      go (j, (h', e)) = at_most (dec_le (suc j) i)
        where
          at_most : Dec (suc j ≤ i) → (j : ℕ) × ((j < i) × (at ps j ≡ q))
          at_most (yes b) = (j, (b, e))
          at_most (no b) =
              let r = rising i j (omega arith) h' in
              let s : K j ≡ at ks q = ap (at ks) e in
              absurd (omega (arith, r, s, m))

  -- and so does an earlier place with the same key
  earlier : (q i : ℕ) → q < at ps i → (at ks q ≡ 0 → ⊥) → i < length ps → at ks q ≡ K i
      → (j : ℕ) × ((j < i) × (at ps j ≡ q))
  earlier q i l n h m = go (t.all q (omega (arith, l, (t.there i h).0)) n)
    where
      go : (j : ℕ) × ((j < length ps) × (at ps j ≡ q)) → (j : ℕ) × ((j < i) × (at ps j ≡ q))
      go (j, (h', e)) = at_most (dec_le (suc j) i) (dec_le j i)
        where
          at_most : Dec (suc j ≤ i) → Dec (j ≤ i) → (j : ℕ) × ((j < i) × (at ps j ≡ q))
          at_most (yes b) c = (j, (b, e))
          at_most (no b) (yes c) =
              let s : at ps j ≡ at ps i = ap (at ps) (let z : j ≡ i = omega arith in z) in
              absurd (omega (arith, s, e, l))
          at_most (no b) (no c) =
              let s : K j ≡ at ks q = ap (at ks) e in
              absurd (⊎_elim (λ r. omega (arith, r, s, m)) (λ r. omega (arith, r.1, e, l))
              (t.turn i j (omega arith) h'))

  module _ (old why kept : List ℕ) (i last end : ℕ) (h : i < length ps)
      (g : JudgedTo ks ps old i last end why kept) where
    abbrev p : ℕ
    p = at ps i

    some_key : K i ≡ 0 → ⊥
    some_key = (t.there i h).1

    -- the key before is not above it
    last_low : last ≤ K i
    last_low = go i refl
      where
        go : (n : ℕ) → n ≡ i → last ≤ K i
        go zero e = omega (arith, g.none (sym e))
        go (suc j) e = omega (arith, g.last_is j e, rising j i (omega (arith, e)) h)

    done_low : (j : ℕ) → j < i → K j ≤ last
    done_low j l = go i refl
      where
        go : (n : ℕ) → n ≡ i → K j ≤ last
        go zero e = absurd (omega (arith, e, l))
        go (suc k) e = omega (arith, g.last_is k e, rising j k (omega (arith, e, l)) (omega (arith, e, h)))

    -- equal to an earlier word exactly where it has the key before
    repeated : K i ≡ last → some (eqb (K i)) (take p ks) ≡ true
    repeated e = go i refl
      where
        go : (n : ℕ) → n ≡ i → some (eqb (K i)) (take p ks) ≡ true
        go zero z = absurd (some_key (e ∙ g.none (sym z)))
        go (suc j) z =
            let s : K j ≡ K i = sym (g.last_is j z) ∙ sym e in
            let l : at ps j < p =
            ⊎_elim (λ q. absurd (omega (arith, q, s))) (λ q. q.1) (t.turn j i (omega (arith, z)) h) in
            let m : at ps j < length (take p ks) =
            omega (arith, l, length-take-le p ks (omega (arith, (t.there i h).0))) in
            let is : get_or (take p ks) (at ps j) 0 ≡ K j = get_or-take p ks (at ps j) 0 l in
            ⊎_elim (λ y. y)
            (λ y. absurd (clash (eq-eqb (K i) (get_or (take p ks) (at ps j) 0) (sym s ∙ sym is))
            (none_there (eqb (K i)) 0 (take p ks) (at ps j) m y)))
            (known (some (eqb (K i)) (take p ks)))

    not_repeated : (K i ≡ last → ⊥) → some (eqb (K i)) (take p ks) ≡ false
    not_repeated n = none_each (eqb (K i)) 0 (take p ks) each
      where
        long : length (take p ks) ≡ p
        long = length-take-le p ks (omega (arith, (t.there i h).0))

        each : (q : ℕ) → q < length (take p ks) → eqb (K i) (get_or (take p ks) q 0) ≡ false
        each q l =
            let m : q < p = omega (arith, l, long) in
            let is : get_or (take p ks) q 0 ≡ at ks q = get_or-take p ks q 0 m in
            ne_eqb (K i) (get_or (take p ks) q 0) (λ e.
            let s : at ks q ≡ K i = sym is ∙ sym e in
            let f = earlier q i m (λ z. some_key (sym s ∙ z)) h s in
            let w : K f.0 ≡ K i = ap (at ks) f.1.1 ∙ s in
            n (omega (arith, w, done_low f.0 f.1.0, last_low)))

    -- inside another exactly where it is below the end
    held_by : (j : ℕ) → j < i → K j < K i → K i < end_of (K j) → some (λ r. holds r (K i)) ks ≡ true
    held_by j l a b =
        let x = t.there j (omega (arith, l, h)) in
        ⊎_elim (λ y. y)
        (λ y. absurd (clash (holds_so (K j) (K i) x.1 a b)
        (none_there (λ r. holds r (K i)) 0 ks (at ps j) x.0 y)))
        (known (some (λ r. holds r (K i)) ks))

    inside_end : (K i ≡ last → ⊥) → K i < end → some (λ r. holds r (K i)) ks ≡ true
    inside_end n l = ⊎_elim (λ z. absurd (omega (arith, l, z))) by g.holder
      where
        by : (j : ℕ) × ((j < i) × (end_of (K j) ≡ end)) → some (λ r. holds r (K i)) ks ≡ true
        by (j, (m, e)) =
            held_by j m (⊎_elim (λ q. absurd (n (omega (arith, q, done_low j m, last_low)))) (λ q. q)
            (eq-or-lt_of_le (let z : K j ≤ K i = omega (arith, done_low j m, last_low) in z)))
            (omega (arith, e, l))

    outside_end : end ≤ K i → Outer ks (K i)
    outside_end l = none_each (λ r. holds r (K i)) 0 ks (λ q m.
        ⊎_elim (λ y. absurd (by q m y)) (λ y. y) (known (holds (at ks q) (K i))))
      where
        by : (q : ℕ) → q < length ks → holds (at ks q) (K i) ≡ true → ⊥
        by q m y =
            let x = held (at ks q) (K i) y in
            let f = sooner q i m x.some h x.below in
            let z : holds (K f.0) (K i) ≡ true = ap (λ (k : ℕ). holds (at ks k) (K i)) f.1.1 ∙ y in
            omega (arith, l, g.reached f.0 p f.1.0 (t.there i h).0 last_low z)

    -- ---- the reason

    pub why_next_lem : why_at ks p ≡ why_next last end (K i)
    unfolding why_at why_next first_of
    why_next_lem = go (known (eqb (K i) last)) (known (ltb (K i) end))
      where
        go : (eqb (K i) last ≡ true) ⊎ (eqb (K i) last ≡ false) → (ltb (K i) end ≡ true) ⊎ (ltb (K i) end ≡ false)
            → why_at ks p ≡ why_next last end (K i)
        go (inl a) b = rw (a, repeated (eqb-true _ _ a))
        go (inr a) (inl b) =
            let n = eqb-false _ _ a in rw (a, b, not_repeated n, inside_end n (ltb-true _ _ b))
        go (inr a) (inr b) =
            let n = eqb-false _ _ a in rw (a, b, not_repeated n, outside_end (ltb-false _ _ b))

    -- what is told of the first i, and of this one, is told of one more
    extend : {P : ℕ → Type 0} → ((j : ℕ) → j < i → P j) → P i → (j : ℕ) → j < suc i → P j
    extend {P} f x j l =
        ⊎_elim (λ (e : j ≡ i). subst P (sym e) x) (λ m. f j m) (eq-or-lt_of_le (let z : j ≤ i = omega arith in z))

    places_differ : (j : ℕ) → j < i → at ps j ≡ p → ⊥
    places_differ j l e =
        let s : K j ≡ K i = ap (at ks) e in
        ⊎_elim (λ q. omega (arith, q, s)) (λ q. omega (arith, q.1, e)) (t.turn j i l h)

    module _ (in-why : p < length why) (f : ℕ) (is : f ≡ why_next last end (K i)) where
      abbrev new : List ℕ
      new = set why p f

      new_reasons : (j : ℕ) → j < suc i → at new (at ps j) ≡ why_at ks (at ps j)
      new_reasons = extend {P = λ j. at new (at ps j) ≡ why_at ks (at ps j)}
          (λ j l. get_or-set_other why p (at ps j) f 0 (places_differ j l) ∙ g.reasons j l)
          (get_or-set_same why p f 0 in-why ∙ is ∙ sym why_next_lem)

      new_others : (q : ℕ) → ((j : ℕ) → j < suc i → at ps j ≡ q → ⊥) → at new q ≡ at old q
      new_others q n =
          get_or-set_other why p q f 0 (λ e. n i (omega arith) (sym e))
          ∙ g.others q (λ j l. n j (omega (arith, l)))

      new_last : (j : ℕ) → suc j ≡ suc i → K i ≡ K j
      new_last j e = ap K (let z : i ≡ j = omega (arith, e) in z)

      -- a code that is dropped
      pub next_dropped : Nested ks → (f ≡ 0 → ⊥) → JudgedTo ks ps old (suc i) (K i) end new kept
      next_dropped nest n = record {
        reasons = new_reasons;
        others = new_others;
        last_is = new_last;
        none = λ e. absurd (omega (arith, e));
        reached = λ j q l m a y. reach j q (eq-or-lt_of_le (let z : j ≤ i = omega (arith, l) in z)) m a y;
        holder = ⊎_elim inl (λ x. inr (x.0, (omega (arith, x.1.0), x.1.1))) g.holder;
        rise = g.rise;
        low = λ a l. omega (arith, g.low a l, last_low);
        from = λ a l. let x = g.from a l in (x.0, (omega (arith, x.1.0), x.1.1));
        all = extend {P = λ j. Outer ks (K j) → (a : ℕ) × ((a < length kept) × (at kept a ≡ K j))} g.all this;
      }
        where
          same_or_held : (K i ≡ last) ⊎ ((K i ≡ last → ⊥) × (K i < end))
          same_or_held = go (known (eqb (K i) last)) (known (ltb (K i) end))
            where
              go : (eqb (K i) last ≡ true) ⊎ (eqb (K i) last ≡ false)
                  → (ltb (K i) end ≡ true) ⊎ (ltb (K i) end ≡ false)
                  → (K i ≡ last) ⊎ ((K i ≡ last → ⊥) × (K i < end))
              go (inl a) b = inl (eqb-true _ _ a)
              go (inr a) (inl b) = inr (eqb-false _ _ a, ltb-true _ _ b)
              go (inr a) (inr b) = absurd (n (is ∙ why_zero last end (K i) a b))

          -- what has the key before is told as that one is
          before : K i ≡ last → (j : ℕ) × ((j < i) × (K j ≡ K i))
          before e = go i refl
            where
              go : (n : ℕ) → n ≡ i → (j : ℕ) × ((j < i) × (K j ≡ K i))
              go zero z = absurd (some_key (e ∙ g.none (sym z)))
              go (suc j) z = (j, (omega (arith, z), sym (g.last_is j z) ∙ sym e))

          this : Outer ks (K i) → (a : ℕ) × ((a < length kept) × (at kept a ≡ K i))
          this o = ⊎_elim same (λ x. absurd (clash (inside_end x.0 x.1) o)) same_or_held
            where
              same : K i ≡ last → (a : ℕ) × ((a < length kept) × (at kept a ≡ K i))
              same e =
                  let b = before e in
                  let x = g.all b.0 b.1.0 (ap (λ (k : ℕ). some (λ r. holds r k) ks) b.1.1 ∙ o) in
                  (x.0, (x.1.0, x.1.1 ∙ b.1.1))

          reach : (j q : ℕ) → (j ≡ i) ⊎ (j < i) → q < length ks → K i ≤ at ks q
              → holds (K j) (at ks q) ≡ true → at ks q < end
          reach j q (inr l) m a y = g.reached j q l m (omega (arith, a, last_low)) y
          reach j q (inl e) m a y = ⊎_elim same inner same_or_held
            where
              y' : holds (K i) (at ks q) ≡ true
              y' = ap (λ (k : ℕ). holds (K k) (at ks q)) (sym e) ∙ y

              same : K i ≡ last → at ks q < end
              same z =
                  let b = before z in
                  g.reached b.0 q b.1.0 m (omega (arith, a, last_low))
                  (ap (λ (k : ℕ). holds k (at ks q)) b.1.1 ∙ y')

              inner : (K i ≡ last → ⊥) × (K i < end) → at ks q < end
              inner (d, l) = ⊎_elim (λ z. absurd (omega (arith, l, z))) by g.holder
                where
                  by : (j : ℕ) × ((j < i) × (end_of (K j) ≡ end)) → at ks q < end
                  by (u, (v, w)) =
                      let x = t.there u (omega (arith, v, h)) in
                      let b : K u < K i = ⊎_elim (λ z. absurd (d (omega (arith, z, done_low u v, last_low)))) (λ z. z)
                      (eq-or-lt_of_le (let z : K u ≤ K i = omega (arith, done_low u v, last_low) in z)) in
                      let c = holds_so (K u) (K i) x.1 b (omega (arith, w, l)) in
                      omega (arith, w, nest (at ps u) p q x.0 (t.there i h).0 m c y')

      -- a code that is kept
      pub next_kept : f ≡ 0 → JudgedTo ks ps old (suc i) (K i) (end_of (K i)) new (kept ++ (K i ∷ []))
      next_kept e = record {
        reasons = new_reasons;
        others = new_others;
        last_is = new_last;
        none = λ z. absurd (omega (arith, z));
        reached = λ j q l m a y. reach j q (eq-or-lt_of_le (let z : j ≤ i = omega (arith, l) in z)) m a y;
        holder = inr (i, (omega arith, refl));
        rise = rise;
        low = λ a l. ⊎_elim (λ z. omega (arith, at_end a z)) (λ z. omega (arith, at_kept a z, g.low a z, last_low))
            (eq-or-lt_of_le (let z : a ≤ length kept = omega (arith, l, long) in z));
        from = λ a l. from a (eq-or-lt_of_le (let z : a ≤ length kept = omega (arith, l, long) in z));
        all = extend {P = λ j. Outer ks (K j) → (a : ℕ) × ((a < length more) × (at more a ≡ K j))}
            (λ j l o. let x = g.all j l o in
            (x.0, (omega (arith, x.1.0, long), at_kept x.0 x.1.0 ∙ x.1.1)))
            (λ o. (length kept, (omega (arith, long), at_end (length kept) refl)));
      }
        where
          other : (K i ≡ last → ⊥) × (end ≤ K i)
          other = go (known (eqb (K i) last)) (known (ltb (K i) end))
            where
              go : (eqb (K i) last ≡ true) ⊎ (eqb (K i) last ≡ false)
                  → (ltb (K i) end ≡ true) ⊎ (ltb (K i) end ≡ false) → (K i ≡ last → ⊥) × (end ≤ K i)
              go (inl a) b = absurd (why_three last end (K i) a (sym is ∙ e))
              go (inr a) (inl b) = absurd (why_four last end (K i) a b (sym is ∙ e))
              go (inr a) (inr b) = (eqb-false _ _ a, ltb-false _ _ b)

          more : List ℕ
          more = kept ++ (K i ∷ [])

          long : length more ≡ suc (length kept)
          long = length-append kept (K i ∷ []) ∙ omega arith

          at_kept : (a : ℕ) → a < length kept → at more a ≡ at kept a
          at_kept a l = get_or-append kept (K i ∷ []) 0 a l

          at_end : (a : ℕ) → a ≡ length kept → at more a ≡ K i
          at_end a z = get_or_at kept (K i) [] 0 a (sym z)

          above : last < K i
          above = ⊎_elim (λ z. absurd (other.0 (sym z))) (λ z. z) (eq-or-lt_of_le last_low)

          rise : (a b : ℕ) → a < b → b < length more → at more a < at more b
          rise a b l m = go (eq-or-lt_of_le (let z : b ≤ length kept = omega (arith, m, long) in z))
            where
              go : (b ≡ length kept) ⊎ (b < length kept) → at more a < at more b
              go (inr z) =
                  omega (arith, g.rise a b l z, at_kept a (omega (arith, l, z)), at_kept b z)
              go (inl z) =
                  let x : a < length kept = omega (arith, l, z) in
                  omega (arith, at_kept a x, g.low a x, above, at_end b z)

          from : (a : ℕ) → (a ≡ length kept) ⊎ (a < length kept)
              → (j : ℕ) × ((j < suc i) × ((K j ≡ at more a) × Outer ks (K j)))
          from a (inl z) = (i, (omega arith, (sym (at_end a z), outside_end other.1)))
          from a (inr z) =
              let x = g.from a z in
              (x.0, (omega (arith, x.1.0), (x.1.1.0 ∙ sym (at_kept a z), x.1.1.1)))

          reach : (j q : ℕ) → (j ≡ i) ⊎ (j < i) → q < length ks → K i ≤ at ks q
              → holds (K j) (at ks q) ≡ true → at ks q < end_of (K i)
          reach j q (inl z) m a y =
              let w : K j ≡ K i = ap K z in
              let x = held (K j) (at ks q) y in
              omega (arith, x.above, ap end_of w)
          reach j q (inr l) m a y =
              absurd (omega (arith, g.reached j q l m (omega (arith, a, last_low)) y, other.1, a))

  -- ---- all

  module _ (old why kept : List ℕ) (last end : ℕ) (g : JudgedTo ks ps old (length ps) last end why kept) where
    pub judged_all : Judged ks old why
    judged_all = record {
      codes = λ p l n. let x = t.all p l n in
          ap (at why) (sym x.1.1) ∙ g.reasons x.0 x.1.0 ∙ ap (why_at ks) x.1.1;
      others = λ p l z. g.others p (λ j m e. (t.there j m).1 (ap (at ks) e ∙ z));
    }

    pub kept_all : Kept ks kept
    kept_all = record {
      rise = g.rise;
      from = λ a l. let x = g.from a l in
          let y = t.there x.0 x.1.0 in (at ps x.0, (y.0, (y.1, x.1.1)));
      all = λ p l n o.
          let x = t.all p l n in
          let e = ap (at ks) x.1.1 in
          let y = g.all x.0 x.1.0 (ap (λ (k : ℕ). some (λ r. holds r k) ks) e ∙ o) in
          (y.0, (y.1.0, y.1.1 ∙ e));
    }
