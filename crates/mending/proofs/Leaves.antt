-- The triangles of degree 24 as codes and as places; a list of codes as one of nodes. Assumes nothing.
use mathlib.Core.Path.{◌≡◌, ◌∙◌, refl, sym, ap, subst}
use mathlib.Core.Bool.{true}
use mathlib.Core.Logic.{◌⊎◌, inl, inr, ⊎_elim}
use mathlib.Core.List.{List, map}
use Prim.Native.Nat.{ℕ, ◌+◌, ◌-◌, ◌*◌, ◌/◌, ◌^◌, ◌<◌}
use native.Mathlib.Nat.{div-lt_iff_lt-mul, eq-or-lt_of_le}
use native.Mathlib.Omega.{arith}
use lib.ListN.{length, get_or, length-map, get_or-map}
use lib.Pow.{pow-add}
use Rattle.words.specs.Words.{degree_of, first_digits, path}
use Rattle.words.specs.Refusals.{IsCode}
use Rattle.words.specs.Family.{code_of}
use Rattle.words.specs.Counting.{code_at, place_of}
use Rattle.words.proofs.CodeCount.{four_pos, code_at_lem, place_at, place_below}
use Rattle.cells.specs.Order.{valid, inside_of}
use Rattle.cells.proofs.Spelling.{valid_code, code_valid}
use Rattle.cells.proofs.Ranks.{degree_fits}
use Rattle.mending.specs.Covering.{Covers}
use Rattle.mending.specs.Promises.{AllValid}
use Rattle.mending.proofs.Nodes.{Node, node, In, Within, leaf_in, leaf_within, within_level}
use Rattle.mending.proofs.WordNodes.{node_of, node_one, inside_within, within_inside}
use Rattle.mending.proofs.Minimal.{At, nowhere, Cover}

-- the code of the triangle t of degree 24
abbrev leaf : ℕ → ℕ
leaf t = (code_at 24 t).0

module _ (t : ℕ) (l : t < 20 * 4 ^ 24) where
  leaf_code : IsCode 24 (code_of (leaf t))
  leaf_code = code_at_lem 24 t (omega arith) l

  leaf_valid : valid (leaf t) ≡ true
  leaf_valid = code_valid (leaf t) leaf_code

  leaf_node : node_of (leaf t) ≡ node 24 t
  leaf_node =
      let p : place_of (code_of (leaf t)) ≡ t = place_at 24 t (omega arith) in
      λ i. node (leaf_code.degree_is i) (p i)

  -- in a code: the code itself, or inside it
  in_holds : (w : ℕ) → valid w ≡ true → In t (node_of w) → (w ≡ leaf t) ⊎ (inside_of (leaf t) w ≡ true)
  in_holds w v e =
      let h = degree_fits w v in
      let g : Within (node 24 t) (node_of w) = leaf_within (node 24 t) (node_of w) refl h e in
      ⊎_elim (λ q. inl (node_one w (leaf t) v leaf_valid (sym (within_level (sym q) g) ∙ sym leaf_node)))
      (λ q. inr (within_inside (leaf t) w leaf_valid v (omega (arith, leaf_code.degree_is)) (rw leaf_node g)))
      (eq-or-lt_of_le h)

  holds_in : (w : ℕ) → valid w ≡ true → (w ≡ leaf t) ⊎ (inside_of (leaf t) w ≡ true) → In t (node_of w)
  holds_in w v (inl e) =
      subst (λ (x : Node). In t x) (sym (ap node_of e ∙ leaf_node)) (leaf_in (node 24 t) refl)
  holds_in w v (inr h) =
      let g : Within (node 24 t) (node_of w) = rw leaf_node at (inside_within (leaf t) w leaf_valid v h).1 in
      g.under

-- only triangles of degree 24 are in a code
in_range : (t w : ℕ) → valid w ≡ true → In t (node_of w) → t < 20 * 4 ^ 24
in_range t w v e =
    let n = degree_of w in
    let l : t / 4 ^ (24 - n) < 20 * 4 ^ n = omega (arith, e, place_below (valid_code w v)) in
    let m = (div-lt_iff_lt-mul (four_pos (24 - n))).0 l in
    let s : n + (24 - n) ≡ 24 = omega (arith, degree_fits w v) in
    let p : 4 ^ n * 4 ^ (24 - n) ≡ 4 ^ 24 = sym (pow-add 4 n (24 - n)) ∙ ap (λ (j : ℕ). 4 ^ j) s in
    omega (arith, m, p)

-- ---- lists

abbrev pub nodes : List ℕ → List Node
nodes ws = map node_of ws

nothing_node : nowhere ≡ node_of 0
unfolding place_of first_digits path
nothing_node = refl

pub at_node : (ws : List ℕ) (i : ℕ) → At (nodes ws) i ≡ node_of (get_or ws i 0)
at_node ws i = ap (λ (x : Node). get_or (nodes ws) i x) nothing_node ∙ get_or-map node_of ws i 0

pub nodes_length : (ws : List ℕ) → length (nodes ws) ≡ length ws
nodes_length ws = length-map ws node_of

-- the same cover, of codes and of nodes
pub cover_there : (ws us : List ℕ) → AllValid ws → ((t : ℕ) → IsCode 24 (code_of t) → Covers ws t → Covers us t)
    → (t : ℕ) → Cover (nodes ws) t → Cover (nodes us) t
cover_there ws us vs same t (i, l, e) =
    let w = get_or ws i 0 in
    let h : i < length ws = omega (arith, nodes_length ws) in
    let g : In t (node_of w) = rw (at_node ws i) at e in
    let r = in_range t w (vs i h) g in
    let k = same (leaf t) (leaf_code t r)
    (record { place = i; within = h; code = vs i h; holds = in_holds t r w (vs i h) g }) in (
      k.place,
      omega (arith, nodes_length us, k.within),
      rw (at_node us k.place) (holds_in t r (get_or us k.place 0) k.code k.holds),
    )
