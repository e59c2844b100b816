-- The four children of a code, whether they are in a list, and what lies inside it. Assumes nothing.
use mathlib.Core.Path.{◌≡◌, ◌∙◌, refl, sym, ap}
use mathlib.Core.Bool.{true}
use mathlib.Core.Logic.{◌⊎◌, inl, inr, ⊎_elim, ◌↔◌}
use mathlib.Core.List.{List, ◌∷◌}
use Prim.Native.Nat.{ℕ, zero, suc, ◌+◌, ◌*◌, ◌≤◌, ◌<◌}
use native.Mathlib.Omega.{arith}
use lib.Dec.{lit<}
use Rattle.words.specs.Words.{degree_of, digit_of, digits, first_digits, side_of}
use Rattle.words.specs.Family.{code_of, refuse_child, child_of}
use Rattle.words.specs.Counting.{place_of}
use Rattle.words.specs.declared.TriangleCode.{TriangleCode}
use Rattle.words.proofs.Codes.{Has}
use Rattle.words.proofs.ParentChild.{child_passes, child_has, child_then_parent}
use Rattle.words.proofs.ChildPlaces.{child_place}
use Rattle.cells.specs.Order.{valid, less_than, inside_of}
use Rattle.cells.proofs.Dictionary.{clash}
use Rattle.cells.proofs.Spelling.{valid_code, code_valid, inside}
use Rattle.mending.specs.Mending.{member, whole_in}
use Rattle.mending.proofs.Nodes.{node, child, four_of}
use Rattle.mending.proofs.WordNodes.{node_of, up, less_place, up_valid, up_degree, up_child, inside_up}
use Rattle.mending.proofs.Members.{Mem, true_and, both_true, member_mem, mem_member}

-- the child k of u
abbrev pub kid : (u k : ℕ) → ℕ
kid u k = (child_of (code_of u) k).0

-- ---- a child

module _ (u k : ℕ) (v : valid u ≡ true) (l : degree_of u < 24) (h : k < 4) where
  pub kid_allowed : refuse_child (code_of u) k ≡ 0
  kid_allowed = (child_passes (code_of u) k).1 ((valid_code u v).passes, omega arith, l)

  kid_has : Has (side_of u) (suc (degree_of u)) (k ∷ digits u (degree_of u)) (child_of (code_of u) k)
  kid_has = child_has (code_of u) k kid_allowed

  pub kid_valid : valid (kid u k) ≡ true
  kid_valid = code_valid (kid u k) kid_has.code

  pub kid_degree : degree_of (kid u k) ≡ suc (degree_of u)
  kid_degree = kid_has.code.degree_is

  -- its last digit
  pub kid_digit : digit_of (kid u k) (suc (degree_of u)) ≡ k
  unfolding first_digits
  kid_digit = cc kid_has.digits_are

  kid_place : place_of (code_of (kid u k)) ≡ 4 * place_of (code_of u) + k
  kid_place = child_place (valid_code u v) l k (omega arith)

  pub kid_node : node_of (kid u k) ≡ child (node_of u) k
  kid_node = λ i. node (kid_degree i) (kid_place i)

  -- its parent
  pub up_kid : up (kid u k) ≡ u
  up_kid = ap (λ (t : TriangleCode). t.0) (child_then_parent (code_of u) k kid_allowed).1

  pub kid_inside : inside_of (kid u k) u ≡ true
  kid_inside = (inside.parent (kid u k) u (child_then_parent (code_of u) k kid_allowed).0 v).1 (inl (sym up_kid))

-- the order of children of one degree, by their parents' places and their digits
kids_less : (w u j k : ℕ) → valid w ≡ true → valid u ≡ true → degree_of w ≡ degree_of u → degree_of u < 24 → j < 4
    → k < 4
    → (less_than (kid w j) (kid u k) ≡ true) ↔ (4 * place_of (code_of w) + j < 4 * place_of (code_of u) + k)
kids_less w u j k v v' e l h m =
    let n : degree_of w < 24 = omega arith in
    let a = kid_place w j v n h in
    let b = kid_place u k v' l m in
    let d : degree_of (kid w j) ≡ degree_of (kid u k) =
    kid_degree w j v n h ∙ ap suc e ∙ sym (kid_degree u k v' l m) in
    let o = less_place (kid w j) (kid u k) (kid_valid w j v n h) (kid_valid u k v' l m) d in
    (λ q. rw (a, b) at (o.0 q), λ q. o.1 (rw (a, b) q))

-- of one parent: that of their digits
pub kid_order : (u j k : ℕ) → valid u ≡ true → degree_of u < 24 → j < 4 → k < 4
    → (less_than (kid u j) (kid u k) ≡ true) ↔ (j < k)
kid_order u j k v l h m =
    let o = kids_less u u j k v v refl l h m in
    (λ q. let p = o.0 q in omega (arith, p), λ q. o.1 (omega (arith, q)))

-- parents are in the order of their first children
pub firsts_less : (w u : ℕ) → valid w ≡ true → valid u ≡ true → degree_of w ≡ degree_of u → degree_of u < 24
    → less_than (kid w 0) (kid u 0) ≡ true → less_than w u ≡ true
firsts_less w u v v' e l h =
    let o = (kids_less w u 0 0 v v' e l (lit< tt) (lit< tt)).0 h in
    (less_place w u v v' e).1 (omega (arith, o))

-- ---- a code by its parent and its last digit

pub kid_up : (d w : ℕ) → valid w ≡ true → degree_of w ≡ suc d → kid (up w) (digit_of w (suc d)) ≡ w
kid_up d w v e = ap (λ (j : ℕ). kid (up w) (digit_of w j)) (sym e) ∙ up_child w v (omega arith)

-- ---- what lies inside

covers_by : (n t u : ℕ) → degree_of t ≡ n → valid t ≡ true → valid u ≡ true → degree_of u < 24 → inside_of t u ≡ true
    → (k : ℕ) × (k < 4) × ((kid u k ≡ t) ⊎ (inside_of t (kid u k) ≡ true))
covers_by zero t u e v v' l h = absurd (clash h (inside.side t u e))
covers_by (suc n) t u e v v' l h =
    let m : 1 ≤ degree_of t = omega arith in
    ⊎_elim (λ q. (digit_of t (suc n), omega arith, inl (ap (λ (j : ℕ). kid j (digit_of t (suc n))) q ∙ kid_up n t v e)))
    (λ b.
    let r = covers_by n (up t) u (up_degree t v m ∙ omega arith) (up_valid t v m) v' l b in
    (r.0, r.1, inr ((inside_up t v m (kid u r.0) (kid_valid u r.0 v' l r.1)).1 r.2)))
    ((inside_up t v m u v').0 h)

-- a triangle inside u is, or lies inside, a child of u
pub kid_covers : (t u : ℕ) → valid t ≡ true → valid u ≡ true → degree_of u < 24 → inside_of t u ≡ true
    → (k : ℕ) × (k < 4) × ((kid u k ≡ t) ⊎ (inside_of t (kid u k) ≡ true))
kid_covers t u v v' l h = covers_by (degree_of t) t u refl v v' l h

-- ---- four whole children

pub whole_mem : (ws : List ℕ) (u : ℕ) → whole_in ws u ≡ true → (k : ℕ) → k < 4 → Mem (kid u k) ws
unfolding whole_in
whole_mem ws u h =
    let p = both_true (member (kid u 0) ws) _ h in
    let q = both_true (member (kid u 1) ws) _ p.1 in
    let r = both_true (member (kid u 2) ws) (member (kid u 3) ws) q.1 in
    four_of (λ k. Mem (kid u k) ws) (member_mem (kid u 0) ws p.0) (member_mem (kid u 1) ws q.0)
    (member_mem (kid u 2) ws r.0) (member_mem (kid u 3) ws r.1)

pub mem_whole : (ws : List ℕ) (u : ℕ) → ((k : ℕ) → k < 4 → Mem (kid u k) ws) → whole_in ws u ≡ true
unfolding whole_in
mem_whole ws u f =
    true_and _ _ (mem_member (kid u 0) ws (f 0 (lit< tt))) (true_and _ _ (mem_member (kid u 1) ws (f 1 (lit< tt)))
    (true_and _ _ (mem_member (kid u 2) ws (f 2 (lit< tt))) (mem_member (kid u 3) ws (f 3 (lit< tt)))))
