-- One degree's merges: the list goes on being sound, covers the same, and has no four whole children of that degree
-- any more. Assumes nothing.
use mathlib.Core.Path.{◌≡◌, ◌∙◌, sym, ap}
use mathlib.Core.Bool.{Bool, true, false, not, ◌&&◌}
use mathlib.Core.Logic.{◌⊎◌, inl, inr, ⊎_elim}
use mathlib.Core.List.{List, ◌++◌}
use Prim.Native.Nat.{ℕ, suc, ◌≤◌, ◌<◌}
use native.Mathlib.Nat.{eq-or-lt_of_le}
use native.Mathlib.Omega.{arith}
use lib.Dec.{eqb, lit<}
use borrow.Author.Tests.{eqb-true, eq-eqb, not-true}
use Rattle.frame.specs.Lists.{some, those}
use Rattle.words.specs.Words.{degree_of, digit_of}
use Rattle.cells.specs.Order.{valid, inside_of}
use Rattle.cells.proofs.Dictionary.{known, clash}
use Rattle.cells.proofs.Spelling.{inside_trans}
use Rattle.mending.specs.Mending.{whole_in, parents, merges_at, replaced}
use Rattle.mending.proofs.WordNodes.{up, up_valid, up_degree, inside_within}
use Rattle.mending.proofs.Members.{not_so, true_and, both_true, Mem, mem_cast, some_mem, mem_some}
use Rattle.mending.proofs.Members.{those_mem, mem_those, append_mem, mem_left, mem_right, map_mem, mem_map}
use Rattle.mending.proofs.Members.{ordered_mem, mem_ordered, Rises, Once, Valid, ordered_rises, those_rises}
use Rattle.mending.proofs.Members.{rises_once, append_once}
use Rattle.mending.proofs.Children.{kid, kid_degree, kid_digit, up_kid, kid_inside, kid_covers, whole_mem}
use Rattle.mending.proofs.Children.{mem_whole, kid_up}

-- The triangle t is one of the list, or lies inside one.
pub record Holds (ws : List ℕ) (t : ℕ) : Type 0 where
  pub by : ℕ
  pub mem : Mem by ws
  pub is : (by ≡ t) ⊎ (inside_of t by ≡ true)

-- Valid codes that rise, none inside another; no four whole children of a triangle of degree d or deeper.
pub record Good (d : ℕ) (ws : List ℕ) : Type 0 where
  pub codes : Valid ws
  pub rises : Rises ws
  pub apart : (w u : ℕ) → Mem w ws → Mem u ws → inside_of w u ≡ false
  pub no_four : (u : ℕ) → valid u ≡ true → d ≤ degree_of u → degree_of u < 24 → whole_in ws u ≡ false

-- a first child of degree d + 1, its degree and its last digit
abbrev pub is_first : ℕ → ℕ → Bool
is_first d w = eqb (degree_of w) (suc d) && eqb (digit_of w (suc d)) 0

pub first_facts : (d w : ℕ) → is_first d w ≡ true → (degree_of w ≡ suc d) × (digit_of w (suc d) ≡ 0)
first_facts d w h =
    let b = both_true (eqb (degree_of w) (suc d)) (eqb (digit_of w (suc d)) 0) h in
    (eqb-true (degree_of w) (suc d) b.0, eqb-true (digit_of w (suc d)) 0 b.1)

-- it is the first child of its parent
pub first_kid : (d w : ℕ) → valid w ≡ true → is_first d w ≡ true → kid (up w) 0 ≡ w
first_kid d w v h =
    let f = first_facts d w h in
    ap (λ (k : ℕ). kid (up w) k) (sym f.1) ∙ kid_up d w v f.0

pub is_first_lem : (d w : ℕ) → degree_of w ≡ suc d → digit_of w (suc d) ≡ 0 → is_first d w ≡ true
is_first_lem d w a b = true_and _ _ (eq-eqb (degree_of w) (suc d) a) (eq-eqb (digit_of w (suc d)) 0 b)

module _ (d : ℕ) (d< : d < 24) (ws : List ℕ) (g : Good (suc d) ws) where
  abbrev ms : List ℕ
  ms = merges_at d ws

  parent_mem : (u : ℕ) → Mem u (parents d ws) → (valid u ≡ true) × (degree_of u ≡ d)
  unfolding parents
  parent_mem u m =
      let p = map_mem up u (those (is_first d) ws) m in
      let w = p.0 in
      let q = those_mem (is_first d) w ws p.1 in
      let e = (first_facts d w q.1).0 in
      let v = g.codes w q.0 in
      let n : degree_of (up w) ≡ d = up_degree w v (omega (arith, e)) ∙ omega (arith, e) in
      (ap valid p.2 ∙ up_valid w v (omega (arith, e)), ap degree_of p.2 ∙ n)

  -- a merge is a triangle of degree d whose four children are in the list, and each such triangle is one
  pub merge_mem : (u : ℕ) → Mem u ms → (valid u ≡ true) × (degree_of u ≡ d) × (whole_in ws u ≡ true)
  unfolding merges_at
  merge_mem u m =
      let p = those_mem (whole_in ws) u (parents d ws) m in
      let q = parent_mem u p.0 in
      (q.0, q.1, p.1)

  pub merge_low : (u : ℕ) → Mem u ms → degree_of u < 24
  merge_low u m = omega (arith, (merge_mem u m).1)

  -- its children
  pub merge_kid : (u k : ℕ) → Mem u ms → k < 4 → Mem (kid u k) ws × (inside_of (kid u k) u ≡ true)
  merge_kid u k m h =
      let p = merge_mem u m in
      (whole_mem ws u p.2 k h, kid_inside u k p.0 (merge_low u m) h)

  pub mem_merge : (u : ℕ) → valid u ≡ true → degree_of u ≡ d → whole_in ws u ≡ true → Mem u ms
  unfolding merges_at parents
  mem_merge u v e h =
      let l : degree_of u < 24 = omega arith in
      let z : 0 < 4 = lit< tt in
      let w = kid u 0 in
      let a : degree_of w ≡ suc d = kid_degree u 0 v l z ∙ ap suc e in
      let b : digit_of w (suc d) ≡ 0 = ap (λ (j : ℕ). digit_of w (suc j)) (sym e) ∙ kid_digit u 0 v l z in
      let m : Mem w (those (is_first d) ws) =
      mem_those (is_first d) w ws (whole_mem ws u h 0 z) (is_first_lem d w a b) in
      mem_those (whole_in ws) u (parents d ws)
      (mem_cast (up w) u (parents d ws) (up_kid u 0 v l z) (mem_map up w (those (is_first d) ws) m)) h

  -- ---- the list after the merges

  abbrev left : ℕ → Bool
  left w = not (some (inside_of w) ms)

  abbrev new : List ℕ
  new = replaced ms ws

  pub new_mem : (w : ℕ) → Mem w new → (Mem w ws × (some (inside_of w) ms ≡ false)) ⊎ Mem w ms
  unfolding replaced
  new_mem w m =
      ⊎_elim (λ p. let q = those_mem left w ws p in inl (q.0, not-true _ q.1)) inr
      (append_mem w (those left ws) ms (ordered_mem w (those left ws ++ ms) m))

  pub mem_left_new : (w : ℕ) → Mem w ws → some (inside_of w) ms ≡ false → Mem w new
  unfolding replaced
  mem_left_new w m h =
      mem_ordered w (those left ws ++ ms) (mem_left w (those left ws) ms (mem_those left w ws m (ap not h)))

  pub mem_merge_new : (u : ℕ) → Mem u ms → Mem u new
  unfolding replaced
  mem_merge_new u m = mem_ordered u (those left ws ++ ms) (mem_right u (those left ws) ms m)

  -- a merge is in no list that has its children
  pub not_both : (u : ℕ) → Mem u ws → Mem u ms → ⊥
  not_both u m k = let p = merge_kid u 0 k (lit< tt) in clash p.1 (g.apart (kid u 0) u p.0 m)

  module _ (once : Once ms) where
    new_valid : Valid new
    new_valid w m = ⊎_elim (λ p. g.codes w p.0) (λ p. (merge_mem w p).0) (new_mem w m)

    new_rises : Rises new
    unfolding replaced
    new_rises =
        ordered_rises (those left ws ++ ms)
        (λ w m. ⊎_elim (λ p. g.codes w (those_mem left w ws p).0) (λ p. (merge_mem w p).0)
        (append_mem w (those left ws) ms m))
        (append_once (those left ws) ms (rises_once (those left ws) (those_rises left ws g.rises)) once
        (λ w a b. not_both w (those_mem left w ws a).0 b))

    new_apart : (w u : ℕ) → Mem w new → Mem u new → inside_of w u ≡ false
    new_apart w u m k = not_so (inside_of w u) (λ h. go h (new_mem w m) (new_mem u k))
      where
        go : inside_of w u ≡ true → (Mem w ws × (some (inside_of w) ms ≡ false)) ⊎ Mem w ms
            → (Mem u ws × (some (inside_of u) ms ≡ false)) ⊎ Mem u ms → ⊥
        go h (inl a) (inl b) = clash h (g.apart w u a.0 b.0)
        go h (inl a) (inr b) = clash (mem_some (inside_of w) u ms b h) a.1
        go h (inr a) (inl b) =
            let p = merge_kid w 0 a (lit< tt) in
            clash (inside_trans (kid w 0) w u p.1 h) (g.apart (kid w 0) u p.0 b.0)
        go h (inr a) (inr b) =
            let p = merge_mem w a in
            let q = merge_mem u b in
            omega (arith, (inside_within w u p.0 q.0 h).0, p.1, q.1)

    new_four : (u : ℕ) → valid u ≡ true → d ≤ degree_of u → degree_of u < 24 → whole_in new u ≡ false
    new_four u v h l = not_so (whole_in new u) (λ e. go e (eq-or-lt_of_le h))
      where
        -- its children are in the list as it was
        old : whole_in new u ≡ true → (k : ℕ) → k < 4
            → Mem (kid u k) ws × (some (inside_of (kid u k)) ms ≡ false)
        old e k b =
            ⊎_elim (λ p. p) (λ p. absurd (omega (arith, kid_degree u k v l b, (merge_mem (kid u k) p).1)))
            (new_mem (kid u k) (whole_mem new u e k b))

        whole : whole_in new u ≡ true → whole_in ws u ≡ true
        whole e = mem_whole ws u (λ k b. (old e k b).0)

        go : whole_in new u ≡ true → (d ≡ degree_of u) ⊎ (d < degree_of u) → ⊥
        go e (inr q) = clash (whole e) (g.no_four u v q l)
        go e (inl q) =
            let m = mem_merge u v (sym q) (whole e) in
            clash (mem_some (inside_of (kid u 0)) u ms m (kid_inside u 0 v l (lit< tt))) (old e 0 (lit< tt)).1

    pub step_good : Good d new
    step_good = record { codes = new_valid; rises = new_rises; apart = new_apart; no_four = new_four }

  -- ---- the same triangles of degree 24

  pub step_there : (t : ℕ) → Holds ws t → Holds new t
  step_there t h = go (known (some (inside_of h.by) ms))
    where
      go : (some (inside_of h.by) ms ≡ true) ⊎ (some (inside_of h.by) ms ≡ false) → Holds new t
      go (inr e) = record { by = h.by; mem = mem_left_new h.by h.mem e; is = h.is }
      go (inl e) =
          let p = some_mem (inside_of h.by) ms e in
          record {
            by = p.0;
            mem = mem_merge_new p.0 p.1;
            is = inr (⊎_elim (λ q. ap (λ (w : ℕ). inside_of w p.0) (sym q) ∙ p.2)
                (λ q. inside_trans t h.by p.0 q p.2) h.is);
          }

  pub step_back : (t : ℕ) → valid t ≡ true → degree_of t ≡ 24 → Holds new t → Holds ws t
  step_back t v e h =
      ⊎_elim (λ p. record { by = h.by; mem = p.0; is = h.is }) (λ p. merged p h.is)
      (new_mem h.by h.mem)
    where
      merged : Mem h.by ms → (h.by ≡ t) ⊎ (inside_of t h.by ≡ true) → Holds ws t
      merged m (inl q) = absurd (omega (arith, (merge_mem h.by m).1, ap degree_of q))
      merged m (inr q) =
          let c = kid_covers t h.by v (merge_mem h.by m).0 (merge_low h.by m) q in
          record { by = kid h.by c.0; mem = (merge_kid h.by c.0 m c.1).0; is = c.2 }
