-- One degree's merges in one pass: over a sound list the pass makes the list and the merges of the definition. Assumes
-- nothing.
use mathlib.Core.Path.{◌≡◌, ◌∙◌, refl, sym, ap, subst}
use mathlib.Core.Bool.{true, false, ◌&&◌}
use mathlib.Core.Logic.{◌⊎◌, inl, inr, ⊎_elim}
use mathlib.Core.List.{List, [], ◌∷◌}
use Prim.Native.Nat.{ℕ, zero, suc, ◌≤◌, ◌<◌}
use native.Mathlib.Omega.{arith}
use lib.Dec.{eqb, lit<}
use lib.ListN.{length}
use borrow.Author.Tests.{eqb-true, eq-eqb}
use Rattle.frame.specs.Lists.{some}
use Rattle.words.specs.Words.{degree_of, digit_of}
use Rattle.cells.specs.Order.{valid, less_than, inside_of}
use Rattle.cells.proofs.Dictionary.{known, clash}
use Rattle.cells.proofs.Spelling.{less_ne, less_trans, above, inside_less, inside_between}
use Rattle.mending.specs.Mending.{merges_at, replaced}
use Rattle.mending.specs.Means.InRows.{joined, joins, in_row, passed, passed_merges}
use Rattle.mending.proofs.Nodes.{four_of}
use Rattle.mending.proofs.WordNodes.{up, up_valid, up_degree, up_inside}
use Rattle.mending.proofs.Members.{not_so, true_and, both_true, Mem, mem_cast, mem_some, some_mem, Rises}
use Rattle.mending.proofs.Members.{rises_one}
use Rattle.mending.proofs.Children.{kid, kid_degree, kid_digit, up_kid, kid_order, firsts_less, kid_covers}
use Rattle.mending.proofs.Children.{mem_whole}
use Rattle.mending.proofs.Merging.{Good, is_first, first_facts, first_kid, is_first_lem, merge_mem, merge_low}
use Rattle.mending.proofs.Merging.{merge_kid, mem_merge, new_mem, mem_left_new, mem_merge_new, not_both}
use Rattle.mending.proofs.Mended.{merges_rise_lem, next_good}

-- the four children of u, and a list after them
abbrev four : ℕ → List ℕ → List ℕ
four u ws = kid u 0 ∷ kid u 1 ∷ kid u 2 ∷ kid u 3 ∷ ws

module _ (d : ℕ) (d< : d < 24) (all : List ℕ) (g : Good (suc d) all) where
  abbrev ms : List ℕ
  ms = merges_at d all

  low : (u : ℕ) → Mem u ms → degree_of u < 24
  low u m = merge_low d d< all g u m

  good : (u : ℕ) → Mem u ms → valid u ≡ true
  good u m = (merge_mem d d< all g u m).0

  there : (u k : ℕ) → Mem u ms → k < 4 → Mem (kid u k) all
  there u k m h = (merge_kid d d< all g u k m h).0

  within : (u k : ℕ) → Mem u ms → k < 4 → inside_of (kid u k) u ≡ true
  within u k m h = (merge_kid d d< all g u k m h).1

  rising : (u j k : ℕ) → Mem u ms → j < 4 → k < 4 → less_than (kid u j) (kid u k) ≡ true → j < k
  rising u j k m h l = (kid_order u j k (good u m) (low u m) h l).0

  -- what lies inside a merge is one of its children
  inside_kid : (w u : ℕ) → Mem w all → Mem u ms → inside_of w u ≡ true → (k : ℕ) × (k < 4) × (w ≡ kid u k)
  inside_kid w u m n h =
      let c = kid_covers w u (g.codes w m) (good u n) (low u n) h in
      let k = c.0 in
      (k, c.1, ⊎_elim (λ e. sym e) (λ i. absurd (clash i (g.apart w (kid u k) m (there u k n c.1)))) c.2)

  -- A part of the list that begins and ends in no four's middle.
  record Rest (ws : List ℕ) : Type 0 where
    pub sub : (w : ℕ) → Mem w ws → Mem w all
    pub rises : Rises ws
    pub whole : (u : ℕ) → Mem u ms → (k j : ℕ) → k < 4 → j < 4 → Mem (kid u k) ws → Mem (kid u j) ws

  -- ---- a child stands before the next

  -- Right after child i of u the later ones are to come.
  record Later (u i : ℕ) (xs : List ℕ) : Type 0 where
    pub sub : (w : ℕ) → Mem w xs → Mem w all
    pub rises : Rises (kid u i ∷ xs)
    pub kids : (k : ℕ) → i < k → k < 4 → Mem (kid u k) xs

  -- a later child stands further on
  past : (u i k : ℕ) (xs : List ℕ) → Mem u ms → k < 4 → i < k → Mem (kid u k) (kid u i ∷ xs) → Mem (kid u k) xs
  past u i k xs m h l (inl q) =
      absurd (less_ne (kid u i) (kid u k) ((kid_order u i k (good u m) (low u m) (omega arith) h).1 l) (sym q))
  past u i k xs m h l (inr q) = q

  next_kid : (u i y : ℕ) (ys : List ℕ) → Mem u ms → suc i < 4 → Later u i (y ∷ ys)
      → Mem (kid u (suc i)) (y ∷ ys) → y ≡ kid u (suc i)
  next_kid u i y ys m h o (inl q) = sym q
  next_kid u i y ys m h o (inr q) =
      let l : i < 4 = omega arith in
      let k = kid u (suc i) in
      let a : less_than (kid u i) y ≡ true = o.rises.0 y (inl refl) in
      let b : less_than y k ≡ true = o.rises.1.0 k q in
      let c : less_than u y ≡ true = less_trans u (kid u i) y (inside_less (kid u i) u (within u i m l)) a in
      let s = inside_kid y u (o.sub y (inl refl)) m (inside_between u y k c b (within u (suc i) m h)) in
      let after = rising u i s.0 m l s.1 (ap (less_than (kid u i)) (sym s.2) ∙ a) in
      let before = rising u s.0 (suc i) m s.1 h (ap (λ (j : ℕ). less_than j k) (sym s.2) ∙ b) in
      absurd (omega (arith, after, before))

  next : (u i : ℕ) (xs : List ℕ) → Mem u ms → suc i < 4 → Later u i xs
      → (ys : List ℕ) × (xs ≡ kid u (suc i) ∷ ys) × Later u (suc i) ys
  next u i [] m h o = absurd (o.kids (suc i) (omega arith) h)
  next u i (y ∷ ys) m h o =
      let e : y ≡ kid u (suc i) = next_kid u i y ys m h o (o.kids (suc i) (omega arith) h) in (
        ys,
        λ j. e j ∷ ys,
        record {
          sub = λ w k. o.sub w (inr k);
          rises = subst (λ (z : ℕ). Rises (z ∷ ys)) e o.rises.1;
          kids = λ k l n. past u (suc i) k ys m n l
              (subst (λ (z : ℕ). Mem (kid u k) (z ∷ ys)) e (o.kids k (omega arith) n));
        },
      )

  -- so a part that begins with a first child begins with the four
  four_ahead : (u : ℕ) (xs : List ℕ) → Mem u ms → Rest (kid u 0 ∷ xs)
      → (ws : List ℕ) × (kid u 0 ∷ xs ≡ four u ws)
  four_ahead u xs m r =
      let z : 0 < 4 = lit< tt in
      let a = next u 0 xs m (lit< tt) record {
        sub = λ w k. r.sub w (inr k);
        rises = r.rises;
        kids = λ k l h. past u 0 k xs m h l (r.whole u m 0 k z h (inl refl));
      } in
      let b = next u 1 a.0 m (lit< tt) a.2 in
      let c = next u 2 b.0 m (lit< tt) b.2 in (
        c.0,
        ap (λ (l : List ℕ). kid u 0 ∷ l) a.1 ∙ ap (λ (l : List ℕ). kid u 0 ∷ kid u 1 ∷ l) b.1
            ∙ ap (λ (l : List ℕ). kid u 0 ∷ kid u 1 ∷ kid u 2 ∷ l) c.1,
      )

  -- ---- what the pass makes of a part

  abbrev Out : ℕ → List ℕ → Type 0
  Out w ws = (Mem w ws × (some (inside_of w) ms ≡ false)) ⊎ (Mem w ms × Mem (kid w 0) ws)

  record Did (ws : List ℕ) : Type 0 where
    pub from : (w : ℕ) → Mem w (passed d ws) → Out w ws
    pub to : (w : ℕ) → Out w ws → Mem w (passed d ws)
    pub rises : Rises (passed d ws)
    pub merges_from : (u : ℕ) → Mem u (passed_merges d ws) → Mem u ms × Mem (kid u 0) ws
    pub merges_to : (u : ℕ) → Mem u ms → Mem (kid u 0) ws → Mem u (passed_merges d ws)
    pub merges_rise : Rises (passed_merges d ws)

  -- what is no part of a merge and before its first child comes before it
  before_merge : (a x : ℕ) → Mem a all → Mem x ms → less_than a (kid x 0) ≡ true → (inside_of a x ≡ true → ⊥)
      → less_than a x ≡ true
  before_merge a x ma mx h n =
      let ne : a ≡ x → ⊥ = λ q. not_both d d< all g x (mem_cast a x all q ma) mx in
      ⊎_elim (λ e. e)
      (λ e. absurd (n (inside_between x a (kid x 0) (above a x (g.codes a ma) (good x mx) e ne) h
      (within x 0 mx (lit< tt)))))
      (known (less_than a x))

  -- ---- a word that is in no merge

  -- a row of four is a merge's
  row_merge : (a b c e : ℕ) → Mem a all → Mem b all → Mem c all → Mem e all → in_row d a b c e ≡ true
      → Mem (up a) ms × (inside_of a (up a) ≡ true)
  unfolding in_row
  row_merge a b c e ma mb mc me h =
      let u = up a in
      let p = both_true (is_first d a) (eqb b (kid u 1) && (eqb c (kid u 2) && eqb e (kid u 3))) h in
      let r = both_true (eqb b (kid u 1)) (eqb c (kid u 2) && eqb e (kid u 3)) p.1 in
      let s = both_true (eqb c (kid u 2)) (eqb e (kid u 3)) r.1 in
      let v = g.codes a ma in
      let n : degree_of a ≡ suc d = (first_facts d a p.0).0 in
      let l : 1 ≤ degree_of a = omega (arith, n) in
      let whole = mem_whole all u (four_of (λ k. Mem (kid u k) all)
      (mem_cast a (kid u 0) all (sym (first_kid d a v p.0)) ma)
      (mem_cast b (kid u 1) all (eqb-true b (kid u 1) r.0) mb)
      (mem_cast c (kid u 2) all (eqb-true c (kid u 2) s.0) mc)
      (mem_cast e (kid u 3) all (eqb-true e (kid u 3) s.1) me)) in
      (mem_merge d d< all g u (up_valid a v l) (up_degree a v l ∙ omega (arith, n)) whole, up_inside a v l)

  skip_list : (a : ℕ) (rest : List ℕ) → ((w : ℕ) → Mem w (a ∷ rest) → Mem w all) → some (inside_of a) ms ≡ false
      → (passed d (a ∷ rest) ≡ a ∷ passed d rest) × (passed_merges d (a ∷ rest) ≡ passed_merges d rest)
  unfolding joined joins
  skip_list a [] f n = (refl, refl)
  skip_list a (b ∷ []) f n = (refl, refl)
  skip_list a (b ∷ c ∷ []) f n = (refl, refl)
  skip_list a (b ∷ c ∷ e ∷ ws) f n =
      let z : in_row d a b c e ≡ false =
      not_so (in_row d a b c e) (λ h.
      let p = row_merge a b c e (f a (inl refl)) (f b (inr (inl refl))) (f c (inr (inr (inl refl))))
      (f e (inr (inr (inr (inl refl))))) h in
      clash (mem_some (inside_of a) (up a) ms p.0 p.1) n) in
      (rw z, rw z)

  module _ (a : ℕ) (rest : List ℕ) (r : Rest (a ∷ rest)) (n : some (inside_of a) ms ≡ false) where
    -- it is nobody's child
    no_kid : (u k : ℕ) → Mem u ms → k < 4 → kid u k ≡ a → ⊥
    no_kid u k m h e =
        clash (mem_some (inside_of a) u ms m (ap (λ (j : ℕ). inside_of j u) (sym e) ∙ within u k m h)) n

    skip_rest : Rest rest
    skip_rest = record {
      sub = λ w m. r.sub w (inr m);
      rises = r.rises.1;
      whole = λ u m k j hk hj x. ⊎_elim (λ e. absurd (no_kid u j m hj e)) (λ y. y) (r.whole u m k j hk hj (inr x));
    }

    skip_did : Did rest → Did (a ∷ rest)
    skip_did h =
        let s = skip_list a rest r.sub n in
        record {
          from = λ w m. from w (rw s.0 at m);
          to = λ w o. rw s.0 (to w o);
          rises = rw s.0 (λ x m. lower x (h.from x m), h.rises);
          merges_from = λ u m. let p = h.merges_from u (rw s.1 at m) in (p.0, inr p.1);
          merges_to = λ u m k.
              rw s.1 (h.merges_to u m (⊎_elim (λ e. absurd (no_kid u 0 m (lit< tt) e)) (λ y. y) k));
          merges_rise = rw s.1 h.merges_rise;
        }
      where
        from : (w : ℕ) → (w ≡ a) ⊎ Mem w (passed d rest) → Out w (a ∷ rest)
        from w (inl e) = inl (inl e, ap (λ (j : ℕ). some (inside_of j) ms) e ∙ n)
        from w (inr m) = ⊎_elim (λ p. inl (inr p.0, p.1)) (λ p. inr (p.0, inr p.1)) (h.from w m)

        to : (w : ℕ) → Out w (a ∷ rest) → (w ≡ a) ⊎ Mem w (passed d rest)
        to w (inl (inl e, q)) = inl e
        to w (inl (inr m, q)) = inr (h.to w (inl (m, q)))
        to w (inr (m, inl e)) = absurd (no_kid w 0 m (lit< tt) e)
        to w (inr (m, inr k)) = inr (h.to w (inr (m, k)))

        lower : (x : ℕ) → Out x rest → less_than a x ≡ true
        lower x (inl p) = r.rises.0 x p.0
        lower x (inr p) =
            before_merge a x (r.sub a (inl refl)) p.0 (r.rises.0 (kid x 0) p.1)
            (λ i. clash (mem_some (inside_of a) x ms p.0 i) n)

  -- ---- four in a row

  row_true : (u : ℕ) → Mem u ms → in_row d (kid u 0) (kid u 1) (kid u 2) (kid u 3) ≡ true
  unfolding in_row
  row_true u m =
      let z : 0 < 4 = lit< tt in
      let e : degree_of u ≡ d = (merge_mem d d< all g u m).1 in
      let p : u ≡ up (kid u 0) = sym (up_kid u 0 (good u m) (low u m) z) in
      let n : degree_of (kid u 0) ≡ suc d = kid_degree u 0 (good u m) (low u m) z ∙ ap suc e in
      let i : digit_of (kid u 0) (suc d) ≡ 0 =
      ap (λ (j : ℕ). digit_of (kid u 0) (suc j)) (sym e) ∙ kid_digit u 0 (good u m) (low u m) z in
      true_and _ _ (is_first_lem d (kid u 0) n i)
      (true_and _ _ (eq-eqb _ _ (ap (λ (j : ℕ). kid j 1) p))
      (true_and _ _ (eq-eqb _ _ (ap (λ (j : ℕ). kid j 2) p)) (eq-eqb _ _ (ap (λ (j : ℕ). kid j 3) p))))

  four_list : (u : ℕ) (ws : List ℕ) → Mem u ms
      → (passed d (four u ws) ≡ u ∷ passed d ws) × (passed_merges d (four u ws) ≡ u ∷ passed_merges d ws)
  unfolding joined joins
  four_list u ws m =
      let t = row_true u m in
      let e : up (kid u 0) ≡ u = up_kid u 0 (good u m) (low u m) (lit< tt) in
      (rw t (λ i. e i ∷ passed d ws), rw t (λ i. e i ∷ passed_merges d ws))

  module _ (u : ℕ) (ws : List ℕ) (m : Mem u ms) (r : Rest (four u ws)) where
    -- one of the four, or further on
    of_four : (w : ℕ) → Mem w (four u ws) → ((k : ℕ) × (k < 4) × (w ≡ kid u k)) ⊎ Mem w ws
    of_four w (inl e) = inl (0, lit< tt, e)
    of_four w (inr (inl e)) = inl (1, lit< tt, e)
    of_four w (inr (inr (inl e))) = inl (2, lit< tt, e)
    of_four w (inr (inr (inr (inl e)))) = inl (3, lit< tt, e)
    of_four w (inr (inr (inr (inr y)))) = inr y

    further : (w : ℕ) → Mem w ws → Mem w (four u ws)
    further w y = inr (inr (inr (inr y)))

    -- no child of u comes again
    gone : (k : ℕ) → k < 4 → Mem (kid u k) ws → ⊥
    gone k h y =
        let l = rising u 3 k m (lit< tt) h (r.rises.1.1.1.0 (kid u k) y) in omega (arith, h, l)

    -- a merge of which a child is there is u, or the child stands further on
    which : (x k : ℕ) → Mem x ms → k < 4 → Mem (kid x k) (four u ws) → (x ≡ u) ⊎ Mem (kid x k) ws
    which x k mx h y = ⊎_elim (λ p. inl (same p.0 p.1 p.2)) inr (of_four (kid x k) y)
      where
        same : (i : ℕ) → i < 4 → kid x k ≡ kid u i → x ≡ u
        same i l f =
            sym (up_kid x k (good x mx) (low x mx) h) ∙ ap (λ (w : ℕ). up w) f
            ∙ up_kid u i (good u m) (low u m) l

    four_rest : Rest ws
    four_rest = record {
      sub = λ w y. r.sub w (further w y);
      rises = r.rises.1.1.1.1;
      whole = λ x mx k j hk hj y.
          ⊎_elim (λ f. absurd (gone k hk (mem_cast (kid x k) (kid u k) ws (ap (λ (i : ℕ). kid i k) f) y)))
          (λ f. f) (which x j mx hj (r.whole x mx k j hk hj (further (kid x k) y)));
    }

    four_did : Did ws → Did (four u ws)
    four_did h =
        let t = four_list u ws m in
        record {
          from = λ w k. from w (rw t.0 at k);
          to = λ w o. rw t.0 (to w o);
          rises = rw t.0 (λ x k. lower x (h.from x k), h.rises);
          merges_from = λ x k. merges_from_lem x (rw t.1 at k);
          merges_to = λ x mx k. rw t.1 (⊎_elim inl (λ f. inr (h.merges_to x mx f)) (which x 0 mx (lit< tt) k));
          merges_rise = rw t.1 (λ x k. lower x (inr (h.merges_from x k)), h.merges_rise);
        }
      where
        -- u itself
        is_u : (w : ℕ) → w ≡ u → Mem w ms × Mem (kid w 0) (four u ws)
        is_u w f = (mem_cast u w ms (sym f) m, inl (ap (λ (j : ℕ). kid j 0) f))

        from : (w : ℕ) → (w ≡ u) ⊎ Mem w (passed d ws) → Out w (four u ws)
        from w (inl f) = inr (is_u w f)
        from w (inr k) =
            ⊎_elim (λ y. inl (further w y.0, y.1)) (λ y. inr (y.0, further (kid w 0) y.1)) (h.from w k)

        to : (w : ℕ) → Out w (four u ws) → (w ≡ u) ⊎ Mem w (passed d ws)
        to w (inl (k, n)) =
            ⊎_elim (λ p. absurd (clash (mem_some (inside_of w) u ms m
            (ap (λ (j : ℕ). inside_of j u) p.2 ∙ within u p.0 m p.1)) n))
            (λ y. inr (h.to w (inl (y, n)))) (of_four w k)
        to w (inr (mw, k)) = ⊎_elim inl (λ f. inr (h.to w (inr (mw, f)))) (which w 0 mw (lit< tt) k)

        merges_from_lem : (x : ℕ) → (x ≡ u) ⊎ Mem x (passed_merges d ws) → Mem x ms × Mem (kid x 0) (four u ws)
        merges_from_lem x (inl f) = is_u x f
        merges_from_lem x (inr k) = let y = h.merges_from x k in (y.0, further (kid x 0) y.1)

        -- u comes before its first child, and that before the rest
        lower : (x : ℕ) → Out x ws → less_than u x ≡ true
        lower x (inl y) =
            less_trans u (kid u 0) x (inside_less (kid u 0) u (within u 0 m (lit< tt)))
            (r.rises.0 x (inr (inr (inr y.0))))
        lower x (inr y) =
            firsts_less u x (good u m) (good x y.0)
            ((merge_mem d d< all g u m).1 ∙ sym (merge_mem d d< all g x y.0).1) (low x y.0)
            (r.rises.0 (kid x 0) (inr (inr (inr y.1))))

  -- ---- the whole pass

  did_nothing : Did []
  unfolding joined joins
  did_nothing = record {
    from = λ w m. absurd m;
    to = λ w o. ⊎_elim (λ p. absurd p.0) (λ p. absurd p.1) o;
    rises = tt;
    merges_from = λ u m. absurd m;
    merges_to = λ u m k. absurd k;
    merges_rise = tt;
  }

  did : (n : ℕ) (ws : List ℕ) → length ws ≤ n → Rest ws → Did ws
  did zero [] l r = did_nothing
  did (suc n) [] l r = did_nothing
  did zero (a ∷ rest) l r = absurd (omega arith)
  did (suc n) (a ∷ rest) l r = go (known (some (inside_of a) ms)) (did n)
    where
      -- a stands first, so it is the first child
      is_kid : (u k : ℕ) → Mem u ms → k < 4 → a ≡ kid u k → a ≡ kid u 0
      is_kid u k m h e =
          ⊎_elim (λ f. sym f)
          (λ f.
          let p = rising u k 0 m h (lit< tt) (ap (λ (j : ℕ). less_than j (kid u 0)) (sym e) ∙ r.rises.0 (kid u 0) f) in
          absurd (omega (arith, p)))
          (r.whole u m k 0 h (lit< tt) (inl (sym e)))

      merge : (u : ℕ) → Mem u ms → a ≡ kid u 0 → ((ws : List ℕ) → length ws ≤ n → Rest ws → Did ws)
          → Did (a ∷ rest)
      merge u m e ih =
          let f = four_ahead u rest m (subst (λ (x : ℕ). Rest (x ∷ rest)) e r) in
          let q : a ∷ rest ≡ four u f.0 = ap (λ (x : ℕ). x ∷ rest) e ∙ f.1 in
          let s : Rest (four u f.0) = subst Rest q r in
          let k : length (a ∷ rest) ≡ length (four u f.0) = ap (λ (xs : List ℕ). length xs) q in
          subst Did (sym q) (four_did u f.0 m s (ih f.0 (omega (arith, k, l)) (four_rest u f.0 m s)))

      go : (some (inside_of a) ms ≡ true) ⊎ (some (inside_of a) ms ≡ false)
          → ((ws : List ℕ) → length ws ≤ n → Rest ws → Did ws) → Did (a ∷ rest)
      go (inr h) ih = skip_did a rest r h (ih rest (omega arith) (skip_rest a rest r h))
      go (inl h) ih =
          let p = some_mem (inside_of a) ms h in
          let k = inside_kid a p.0 (r.sub a (inl refl)) p.1 p.2 in
          merge p.0 p.1 (is_kid p.0 k.0 p.1 k.1 k.2) ih

  all_rest : Rest all
  all_rest = record { sub = λ w m. m; rises = g.rises; whole = λ u m k j hk hj x. there u j m hj }

  -- the pass makes the list and the merges
  pub pass_is : (passed d all ≡ replaced (merges_at d all) all) × (passed_merges d all ≡ merges_at d all)
  pass_is =
      let h = did (length all) all (omega arith) all_rest in (
        rises_one (passed d all) (replaced ms all) h.rises (next_good d d< all g).rises
            (λ w m. ⊎_elim (λ p. mem_left_new d d< all g w p.0 p.1) (λ p. mem_merge_new d d< all g w p.0)
            (h.from w m))
            (λ w m. h.to w (⊎_elim inl (λ p. inr (p, there w 0 p (lit< tt))) (new_mem d d< all g w m))),
        rises_one (passed_merges d all) ms h.merges_rise (merges_rise_lem d d< all g.codes g.rises)
            (λ u m. (h.merges_from u m).0) (λ u m. h.merges_to u m (there u 0 m (lit< tt))),
      )
