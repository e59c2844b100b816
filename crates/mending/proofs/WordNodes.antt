-- A valid code as a degree and a place among the codes of the degree: it is a child of its parent's, and it lies inside
-- another exactly where it is deeper and within it. Assumes nothing.
use mathlib.Core.Path.{◌≡◌, ◌∙◌, refl, sym, ap}
use mathlib.Core.Bool.{true}
use mathlib.Core.Logic.{◌⊎◌, inl, inr, ⊎_elim, ◌↔◌}
use Prim.Native.Nat.{ℕ, zero, suc, ◌+◌, ◌-◌, ◌*◌, ◌≤◌, ◌<◌}
use native.Mathlib.Nat.{eq-or-lt_of_le}
use native.Mathlib.Omega.{arith}
use Rattle.words.specs.Words.{degree_of, digit_of}
use Rattle.words.specs.Refusals.{IsCode}
use Rattle.words.specs.Family.{code_of, refuse_parent, parent_of, child_of}
use Rattle.words.specs.Counting.{place_of}
use Rattle.words.specs.declared.TriangleCode.{TriangleCode}
use Rattle.words.proofs.CodeCount.{one_place, places_rise}
use Rattle.words.proofs.ParentChild.{parent_passes, parent_has, parent_then_child}
use Rattle.words.proofs.ChildPlaces.{child_place}
use Rattle.cells.specs.Order.{valid, less_than, inside_of}
use Rattle.cells.proofs.Dictionary.{clash}
use Rattle.cells.proofs.Spelling.{valid_code, code_valid, inside}
use Rattle.cells.proofs.Ranks.{degree_fits}
use Rattle.cells.proofs.OneDegree.{ordered}
use Rattle.mending.proofs.Nodes.{Node, node, Within, child, within_level, within_trans, child_within, child_one}
use Rattle.mending.proofs.Nodes.{above_child}

-- the node of a code
abbrev pub node_of : ℕ → Node
node_of w = node (degree_of w) (place_of (code_of w))

-- the parent of w
abbrev pub up : ℕ → ℕ
up w = (parent_of (code_of w)).0

-- ---- codes of one degree

module _ (w u : ℕ) (v : valid w ≡ true) (v' : valid u ≡ true) where
  of_degree : degree_of w ≡ degree_of u → IsCode (degree_of u) (code_of w)
  of_degree d = record { passes = (valid_code w v).passes; degree_is = d }

  -- the same node, the same code
  pub node_one : node_of w ≡ node_of u → w ≡ u
  node_one e =
      one_place (valid_code u v') (of_degree (ap (λ (x : Node). x.deg) e)) (ap (λ (x : Node). x.at) e)

  -- their order is that of their places
  pub less_place : degree_of w ≡ degree_of u
      → (less_than w u ≡ true) ↔ (place_of (code_of w) < place_of (code_of u))
  less_place d =
      let a = ordered.one_degree w u v v' d in
      let b = places_rise (of_degree d) (valid_code u v') in
      (λ h. b.0 (a.0 h), λ h. a.1 (b.1 h))

-- ---- a parent

module _ (w : ℕ) (v : valid w ≡ true) (l : 1 ≤ degree_of w) where
  pub up_allowed : refuse_parent (code_of w) ≡ 0
  up_allowed = (parent_passes (code_of w)).1 ((valid_code w v).passes, l)

  up_code : IsCode (degree_of w - 1) (parent_of (code_of w))
  up_code = (parent_has (code_of w) up_allowed).code

  pub up_valid : valid (up w) ≡ true
  up_valid = code_valid (up w) up_code

  pub up_degree : degree_of (up w) ≡ degree_of w - 1
  up_degree = up_code.degree_is

  -- a code is its parent's child
  pub up_child : (child_of (code_of (up w)) (digit_of w (degree_of w))).0 ≡ w
  up_child = ap (λ (t : TriangleCode). t.0) (parent_then_child (code_of w) up_allowed).1

  up_node : node_of w ≡ child (node_of (up w)) (digit_of w (degree_of w))
  up_node =
      let k = digit_of w (degree_of w) in
      let d : degree_of w ≡ suc (degree_of (up w)) = omega (arith, up_degree, l) in
      let p : place_of (code_of w) ≡ 4 * place_of (code_of (up w)) + k =
      ap (λ (x : ℕ). place_of (code_of x)) (sym up_child)
      ∙ child_place (valid_code (up w) up_valid) (omega (arith, d, degree_fits w v)) k (omega arith) in
      λ i. node (d i) (p i)

  up_within : Within (node_of w) (node_of (up w))
  up_within = rw up_node (child_within (node_of (up w)) (digit_of w (degree_of w)) (omega arith))

  -- where a code is the child of a node, its parent is that node
  pub node_up : (x : Node) (k : ℕ) → k < 4 → node_of w ≡ child x k → node_of (up w) ≡ x
  node_up x k h e = child_one (digit_of w (degree_of w)) k (omega arith) h (sym up_node ∙ e)

  -- what it lies inside is the parent, or has the parent inside
  pub inside_up : (u : ℕ) → valid u ≡ true → (inside_of w u ≡ true) ↔ ((u ≡ up w) ⊎ (inside_of (up w) u ≡ true))
  inside_up u v' = inside.parent w u up_allowed v'

  pub up_inside : inside_of w (up w) ≡ true
  up_inside = (inside_up (up w) up_valid).1 (inl refl)

-- ---- insides

-- both by the parents of w, which are its ancestors
inside_by : (n w u : ℕ) → degree_of w ≡ n → valid w ≡ true → valid u ≡ true → inside_of w u ≡ true
    → (degree_of u < degree_of w) × Within (node_of w) (node_of u)
inside_by zero w u e v v' h = absurd (clash h (inside.side w u e))
inside_by (suc n) w u e v v' h =
    let l : 1 ≤ degree_of w = omega arith in
    let d : degree_of (up w) ≡ n = up_degree w v l ∙ omega arith in
    ⊎_elim (λ q. (omega (arith, ap (λ (x : ℕ). degree_of x) q, d, e), rw q (up_within w v l)))
    (λ b. let r = inside_by n (up w) u d (up_valid w v l) v' b in
    (omega (arith, r.0, d, e), within_trans (up_within w v l) r.1))
    ((inside_up w v l u v').0 h)

within_by : (n w u : ℕ) → degree_of w ≡ n → valid w ≡ true → valid u ≡ true → degree_of u < n
    → Within (node_of w) (node_of u) → inside_of w u ≡ true
within_by zero w u e v v' l h = absurd (omega arith)
within_by (suc n) w u e v v' l h =
    let m : 1 ≤ degree_of w = omega arith in
    let p = up w in
    let d : degree_of p ≡ n = up_degree w v m ∙ omega arith in
    let g : Within (child (node_of p) (digit_of w (degree_of w))) (node_of u) = rw (up_node w v m) at h in
    let b : Within (node_of p) (node_of u) =
    ⊎_elim (λ q. absurd (omega (arith, ap (λ (x : Node). x.deg) q, d, l))) (λ x. x)
    (above_child (digit_of w (degree_of w)) (omega arith) g) in
    (inside_up w v m u v').1
    (⊎_elim (λ q. inl (node_one u p v' (up_valid w v m) (sym (within_level (d ∙ sym q) b))))
    (λ q. inr (within_by n p u d (up_valid w v m) v' q b))
    (eq-or-lt_of_le (let k : degree_of u ≤ n = omega arith in k)))

module _ (w u : ℕ) (v : valid w ≡ true) (v' : valid u ≡ true) where
  -- inside another: deeper, and within
  pub inside_within : inside_of w u ≡ true → (degree_of u < degree_of w) × Within (node_of w) (node_of u)
  inside_within h = inside_by (degree_of w) w u refl v v' h

  pub within_inside : degree_of u < degree_of w → Within (node_of w) (node_of u) → inside_of w u ≡ true
  within_inside l h = within_by (degree_of w) w u refl v v' l h
