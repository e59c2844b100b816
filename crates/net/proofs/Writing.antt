-- Twelve weights over the front of a list: zeros one by one, and then the three of a point at the corners of its side.
-- Assumes nothing.
use mathlib.Core.Path.{◌≡◌, ◌∙◌, refl, sym, ap}
use mathlib.Core.Logic.{⊎_elim}
use mathlib.Core.List.{List, ◌++◌}
use Prim.Native.Nat.{ℕ, suc, ◌+◌, ◌≤◌, ◌<◌}
use native.Mathlib.Nat.{lt_of_lt_of_le, le_of_lt}
use native.Mathlib.Numerals.{add-one}
use native.Mathlib.Omega.{arith}
use lib.ListN.{length, get_or, take, drop, set, length-set}
use lib.Seq.{drop-cons, set_at, length-take-le, append_snoc, take-suc}
use lib.Seq.{ext_get_or, get_or-set_same, get_or-set_other, set-append_left}
use Rattle.frame.specs.Answers.{over}
use Rattle.net.specs.Division.{vertices}
use Rattle.net.specs.Means.Spreads.{no_weights, spread, weight_at}
use Rattle.net.specs.Means.States.{point}
use Rattle.net.specs.Sides.{IsSide, OneToThree, corner_vertex}
use Rattle.net.specs.declared.Point.{Point}
use Rattle.net.proofs.Loads.{at_vertex, weight, weight_other, weight_own}
use Rattle.net.proofs.SharedVertices.{has_or_not, vertex_small}
use Rattle.net.proofs.Spread.{each_same, load_zero}
use Rattle.net.proofs.StateCode.{spread_length}
use Rattle.net.proofs.Table.{below, either_way, same, sound, three}

-- ---- zeros

-- one place more of ws over the front of a list
pub over_more : (ws old : List ℕ) (i : ℕ) → i < length ws → length ws ≤ length old
    → set (take i ws ++ drop i old) i (get_or ws i 0) ≡ take (i + 1) ws ++ drop (i + 1) old
over_more ws old i h r =
    let a = get_or ws i 0 in
    ap (λ (l : List ℕ). set (take i ws ++ l) i a) (drop-cons old i 0 (lt_of_lt_of_le h r))
    ∙ set_at (take i ws) (get_or old i 0) (drop (suc i) old) a i (length-take-le i ws (le_of_lt h))
    ∙ sym (append_snoc (take i ws) a (drop (suc i) old))
    ∙ ap (λ (l : List ℕ). l ++ drop (suc i) old) (sym (take-suc ws i 0 h))
    ∙ ap (λ (n : ℕ). take n ws ++ drop n old) (sym (add-one i))

none_at : (v : ℕ) → v < 12 → get_or no_weights v 0 ≡ 0
unfolding no_weights
none_at = sound (below 12 λ v. same (get_or no_weights v 0) 0) refl

-- so with the zeros
pub none_more : (old : List ℕ) (v : ℕ) → v < 12 → 12 ≤ length old
    → set (take v no_weights ++ drop v old) v 0 ≡ take (v + 1) no_weights ++ drop (v + 1) old
unfolding no_weights
none_more old v h l = ap (set (take v no_weights ++ drop v old) v) (sym (none_at v h)) ∙ over_more no_weights old v h l

pub none_all : (old : List ℕ) → take 12 no_weights ++ drop 12 old ≡ over no_weights old
unfolding no_weights
none_all old = refl

-- ---- the three corners of a side

-- a place of ws, over the front of a list
set_over : (ws old : List ℕ) (i x : ℕ) → i < length ws → set (over ws old) i x ≡ over (set ws i x) old
set_over ws old i x h =
    set-append_left ws (drop (length ws) old) i x h ∙ ap (λ (n : ℕ). set ws i x ++ drop n old)
    (sym (length-set ws i x))

module _ (s : ℕ) (h : IsSide s) where
  -- a point without weight
  none_spread : no_weights ≡ spread s (point 0 0 0)
  unfolding no_weights spread weight_at
  none_spread = each_same (λ v. 0) (weight_at s (point 0 0 0)) (λ v. simp load_zero) vertices

  -- from the weights of p to those of q, which differs from p at corner i alone
  module _ (i : ℕ) (m : OneToThree i) (p q : Point)
      (e : (j : ℕ) → OneToThree j → (j ≡ i → ⊥) → weight j p ≡ weight j q) where
    elsewhere : (v : ℕ) → (v ≡ corner_vertex s i → ⊥) → weight_at s p v ≡ weight_at s q v
    elsewhere v f =
        ⊎_elim
        (⊎_elim (at 1 (omega arith)) (⊎_elim (at 2 (omega arith)) (at 3 (omega arith))))
        (λ g. weight_other s v p g ∙ sym (weight_other s v q g))
        (has_or_not s v)
      where
        at : (j : ℕ) → OneToThree j → v ≡ corner_vertex s j → weight_at s p v ≡ weight_at s q v
        at j l g =
            rw g (weight_own s p h j l ∙ e j l (λ k. f (g ∙ ap (corner_vertex s) k)) ∙ sym (weight_own s q h j l))

    in_list : corner_vertex s i < length (spread s p)
    in_list = omega (arith, spread_length s p, vertex_small s h i m)

    set_spread : set (spread s p) (corner_vertex s i) (weight i q) ≡ spread s q
    set_spread =
        let k = corner_vertex s i in
        let x = weight i q in
        let n = length-set (spread s p) k x ∙ spread_length s p in
        ext_get_or 0 _ _ (n ∙ sym (spread_length s q)) λ v l.
        let r : v < 12 = omega arith in
        ⊎_elim
        (λ f. rw f (get_or-set_same (spread s p) k x 0 in_list ∙ sym (weight_own s q h i m)))
        (λ f. get_or-set_other (spread s p) k v x 0 f ∙ at_vertex s p v r ∙ elsewhere v f)
        (either_way (same v k))
        ∙ sym (at_vertex s q v r)

    put : (old : List ℕ) {l : List ℕ} {k : ℕ} → l ≡ over (spread s p) old → k ≡ corner_vertex s i
        → set l k (weight i q) ≡ over (spread s q) old
    put old a b =
        (λ d. set (a d) (b d) (weight i q))
        ∙ set_over (spread s p) old (corner_vertex s i) (weight i q) in_list
        ∙ ap (λ (ws : List ℕ). over ws old) set_spread

  -- so three of them lead from no weight to any point
  pub put_three : (p : Point) (old : List ℕ) {l : List ℕ} {a b c : ℕ} → l ≡ over no_weights old
      → a ≡ corner_vertex s 1 → b ≡ corner_vertex s 2 → c ≡ corner_vertex s 3
      → set (set (set l a p.w1) b p.w2) c p.w3 ≡ over (spread s p) old
  put_three p old e ea eb ec =
      let q0 = point 0 0 0 in
      let q1 = point p.w1 0 0 in
      let q2 = point p.w1 p.w2 0 in
      let at1 = three (λ j. (j ≡ 1 → ⊥) → weight j q0 ≡ weight j q1) (λ f. absurd (f refl)) (λ f. refl)
      (λ f. refl) in
      let at2 = three (λ j. (j ≡ 2 → ⊥) → weight j q1 ≡ weight j q2) (λ f. refl) (λ f. absurd (f refl))
      (λ f. refl) in
      let at3 = three (λ j. (j ≡ 3 → ⊥) → weight j q2 ≡ weight j p) (λ f. refl) (λ f. refl)
      (λ f. absurd (f refl)) in
      let e0 = e ∙ ap (λ (ws : List ℕ). over ws old) none_spread in
      let e1 = put 1 (omega arith) q0 q1 at1 old e0 ea in
      let e2 = put 2 (omega arith) q1 q2 at2 old e1 eb in
      put 3 (omega arith) q2 p at3 old e2 ec
