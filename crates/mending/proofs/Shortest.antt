-- No list of codes that covers the same is shorter than the mended one, and no other passes the checker and has no four
-- whole children. Assumes nothing.
use mathlib.Core.Path.{◌≡◌, ◌∙◌, sym, ap}
use mathlib.Core.Bool.{true}
use mathlib.Core.Logic.{⊎_elim}
use mathlib.Core.List.{List, [], ◌∷◌}
use Prim.Native.Nat.{ℕ, suc, ◌≤◌, ◌<◌}
use native.Mathlib.Nat.{eq-or-lt_of_le}
use native.Mathlib.Decide.{dec_le}
use native.Mathlib.Omega.{arith}
use lib.Dec.{lit<}
use lib.ListN.{length, get_or}
use Rattle.words.specs.Words.{degree_of}
use Rattle.words.specs.Refusals.{IsCode}
use Rattle.words.specs.Family.{code_of}
use Rattle.cells.specs.Order.{valid, less_than}
use Rattle.cells.specs.Checking.{checked, accepted, Accepted}
use Rattle.cells.proofs.Dictionary.{clash}
use Rattle.cells.proofs.Spelling.{less_ne}
use Rattle.cells.proofs.Ranks.{degree_fits}
use Rattle.cells.proofs.Accepting.{checks, rises_to}
use Rattle.mending.specs.Mending.{mended}
use Rattle.mending.specs.Covering.{Covers, SameCover}
use Rattle.mending.specs.Promises.{AllValid, NoFour}
use Rattle.mending.proofs.Nodes.{Node, Within, child, within_level, within_both, within_trans}
use Rattle.mending.proofs.Minimal.{At, NodeMem, Normal, held, shortest}
use Rattle.mending.proofs.WordNodes.{node_of, up, node_one, up_valid, node_up, within_inside}
use Rattle.mending.proofs.Members.{Mem, mem_cast, mem_at, at_mem, Rises, rises_one}
use Rattle.mending.proofs.Children.{kid, kid_valid, kid_node, mem_whole}
use Rattle.mending.proofs.Leaves.{nodes, at_node, nodes_length, cover_there}
use Rattle.mending.proofs.Mended.{mended_accepted, covers, no_four_lem}

-- a list that passes the checker and has no four whole children
module _ (ws : List ℕ) (a : Accepted ws) (f : NoFour ws) where
  node_degree : (i : ℕ) → i < length ws → (At (nodes ws) i).deg ≤ 24
  node_degree i l = rw (at_node ws i) (degree_fits (get_or ws i 0) (a.codes i l))

  -- the same word at two places
  one_place : (i j : ℕ) → i < length ws → j < length ws → get_or ws i 0 ≡ get_or ws j 0 → i ≡ j
  one_place i j l k e = go (dec_le (suc i) j) (dec_le (suc j) i)
    where
      go : Dec (suc i ≤ j) → Dec (suc j ≤ i) → i ≡ j
      go (yes h) n = absurd (less_ne (get_or ws i 0) (get_or ws j 0) (rises_to ws a.rise i j h k) e)
      go (no m) (yes h) = absurd (less_ne (get_or ws j 0) (get_or ws i 0) (rises_to ws a.rise j i h l) (sym e))
      go (no m) (no n) = omega arith

  node_apart : (i j : ℕ) → i < length ws → j < length ws
      → Within (node_of (get_or ws i 0)) (node_of (get_or ws j 0)) → i ≡ j
  node_apart i j l k h =
      let w = get_or ws i 0 in
      let u = get_or ws j 0 in
      ⊎_elim (λ e. one_place i j l k (node_one w u (a.codes i l) (a.codes j k) (within_level (sym e) h)))
      (λ e. absurd (clash (within_inside w u (a.codes i l) (a.codes j k) e h) (a.apart i j l k)))
      (eq-or-lt_of_le h.deeper)

  -- a node of the list as a word of it
  node_word : (x : Node) → NodeMem (nodes ws) x → (w : ℕ) × Mem w ws × (valid w ≡ true) × (node_of w ≡ x)
  node_word x m =
      let l : m.place < length ws = omega (arith, nodes_length ws, m.within) in
      (get_or ws m.place 0, at_mem ws m.place l, a.codes m.place l, sym (at_node ws m.place) ∙ m.is)

  node_four : (x : Node) → x.deg < 24 → ((k : ℕ) → k < 4 → NodeMem (nodes ws) (child x k)) → ⊥
  node_four x l m =
      let w = node_word (child x 0) (m 0 (lit< tt)) in
      let u = up w.0 in
      let d : degree_of w.0 ≡ suc x.deg = ap (λ (y : Node). y.deg) w.3 in
      let v : valid u ≡ true = up_valid w.0 w.2 (omega arith) in
      let n : node_of u ≡ x = node_up w.0 w.2 (omega arith) x 0 (lit< tt) w.3 in
      let e : degree_of u < 24 = omega (arith, ap (λ (y : Node). y.deg) n) in
      clash (mem_whole ws u (λ k h. one u k v n e h (m k h))) (f u v e)
    where
      one : (u k : ℕ) → valid u ≡ true → node_of u ≡ x → degree_of u < 24 → k < 4 → NodeMem (nodes ws) (child x k)
          → Mem (kid u k) ws
      one u k v n e h m =
          let w = node_word (child x k) m in
          let q : node_of w.0 ≡ node_of (kid u k) =
          w.3 ∙ ap (λ (y : Node). child y k) (sym n) ∙ sym (kid_node u k v e h) in
          mem_cast w.0 (kid u k) ws (node_one w.0 (kid u k) w.2 (kid_valid u k v e h) q) w.1

  normal : Normal (nodes ws)
  normal = record {
    degrees = λ i l. node_degree i (omega (arith, nodes_length ws));
    apart = λ i j l k h. node_apart i j (omega (arith, nodes_length ws)) (omega (arith, nodes_length ws))
        (rw (at_node ws i, at_node ws j) at h);
    no_four = node_four;
  }

  -- "no shorter list of triangles covers the same"
  normal_shortest : (us : List ℕ) → AllValid us → SameCover us ws → length ws ≤ length us
  normal_shortest us vs c =
      let r = shortest (nodes ws) normal (nodes us)
      (λ j l. rw (at_node us j) (degree_fits (get_or us j 0) (vs j (omega (arith, nodes_length us)))))
      (cover_there ws us a.codes (λ t k h. (c t k).1 h)) (cover_there us ws vs (λ t k h. (c t k).0 h)) in
      omega (arith, nodes_length ws, nodes_length us)

  -- a code of a list that covers no more lies within one of this list
  within_one : (us : List ℕ) → AllValid us → ((t : ℕ) → IsCode 24 (code_of t) → Covers us t → Covers ws t) → (w : ℕ)
      → Mem w us → (u : ℕ) × Mem u ws × (valid u ≡ true) × Within (node_of w) (node_of u)
  within_one us vs c w m =
      let p = mem_at w us m in
      let v : valid w ≡ true = ap valid (sym p.2) ∙ vs p.0 p.1 in
      let k = held (nodes ws) normal (node_of w) (degree_fits w v)
      (λ t e.
      cover_there us ws vs c t (p.0, omega (arith, nodes_length us, p.1), rw (at_node us p.0, p.2) e)) in
      let l : k.0 < length ws = omega (arith, nodes_length ws, k.1) in
      (get_or ws k.0 0, at_mem ws k.0 l, a.codes k.0 l, rw (at_node ws k.0) at k.2)

  -- two words of the list, one within the other, are one
  same_word : (w u : ℕ) → Mem w ws → Mem u ws → Within (node_of w) (node_of u) → w ≡ u
  same_word w u m k h =
      let p = mem_at w ws m in
      let q = mem_at u ws k in
      let g : Within (node_of (get_or ws p.0 0)) (node_of (get_or ws q.0 0)) = rw (p.2, q.2) h in
      let e = node_apart p.0 q.0 p.1 q.1 g in
      sym p.2 ∙ ap (λ (i : ℕ). get_or ws i 0) e ∙ q.2

-- ---- the one such list

accepted_rises : (ws : List ℕ) → Accepted ws → Rises ws
accepted_rises ws a = go ws (rises_to ws a.rise)
  where
    go : (xs : List ℕ)
        → ((i j : ℕ) → i < j → j < length xs → less_than (get_or xs i 0) (get_or xs j 0) ≡ true) → Rises xs
    go [] f = tt
    go (x ∷ xs) f = (
      λ u m.
          let p = mem_at u xs m in
          ap (less_than x) (sym p.2) ∙ f 0 (suc p.0) (omega arith) (omega (arith, p.1)),
      go xs (λ i j h l. f (suc i) (suc j) (omega arith) (omega arith)),
    )

module _ (xs ys : List ℕ) (a : Accepted xs) (f : NoFour xs) (b : Accepted ys) (g : NoFour ys)
    (c : SameCover xs ys) where
  contained : (w : ℕ) → Mem w xs → Mem w ys
  contained w m =
      let p = within_one ys b g xs a.codes (λ t k h. (c t k).0 h) w m in
      let q = within_one xs a f ys b.codes (λ t k h. (c t k).1 h) p.0 p.1 in
      let e : w ≡ q.0 = same_word xs a f w q.0 m q.1 (within_trans p.3 q.3) in
      let n : node_of p.0 ≡ node_of w = within_both (rw (sym e) at q.3) p.3 in
      let r = mem_at w xs m in
      let v : valid w ≡ true = ap valid (sym r.2) ∙ a.codes r.0 r.1 in
      mem_cast p.0 w ys (node_one p.0 w p.2 v n) p.1

only_one : (xs ys : List ℕ) → Accepted xs → NoFour xs → Accepted ys → NoFour ys → SameCover xs ys → xs ≡ ys
only_one xs ys a f b g c =
    rises_one xs ys (accepted_rises xs a) (accepted_rises ys b) (contained xs ys a f b g c)
    (contained ys xs b g a f (λ t k. ((c t k).1, (c t k).0)))

-- ---- the mended list

as_mended : (ws us : List ℕ) → SameCover us ws → SameCover us (mended ws)
as_mended ws us c t k = let m = covers ws t k in (λ h. m.1 ((c t k).0 h), λ h. (c t k).1 (m.0 h))

pub mended_shortest : (ws us : List ℕ) → AllValid us → SameCover us ws → length (mended ws) ≤ length us
mended_shortest ws us vs c =
    normal_shortest (mended ws) (mended_accepted ws) (no_four_lem ws) us vs (as_mended ws us c)

pub mended_only : (ws us : List ℕ) → checked us ≡ accepted → NoFour us → SameCover us ws → us ≡ mended ws
mended_only ws us p f c =
    only_one us (mended ws) ((checks.exactly us).0 p) f (mended_accepted ws) (no_four_lem ws) (as_mended ws us c)
