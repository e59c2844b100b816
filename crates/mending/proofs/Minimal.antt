-- A list of triangles of which none lies within another and no four are the children of one is the shortest that covers
-- what it covers. Assumes nothing.
use mathlib.Core.Path.{◌≡◌, refl, sym}
use mathlib.Core.Logic.{◌⊎◌, inl, inr, ⊎_elim}
use mathlib.Core.List.{List}
use Prim.Native.Nat.{ℕ, zero, suc, ◌+◌, ◌-◌, ◌≤◌, ◌<◌}
use native.Mathlib.Omega.{arith}
use lib.Dec.{lit<}
use lib.ListN.{length, get_or}
use Rattle.mending.proofs.Nodes.{Node, node, In, Within, child, first, four_of, first_in, leaf_in, leaf_within}
use Rattle.mending.proofs.Nodes.{within_in, nested, within_trans, child_within, above_child}
use Rattle.mending.proofs.Pigeons.{pigeons}

-- of triangles M of degree 24 or less, no four of which are the children of one, some one holds whatever they cover
-- together
module _ (M : Node → Type 0) (degrees : (y : Node) → M y → y.deg ≤ 24)
    (no_four : (x : Node) → x.deg < 24 → ((d : ℕ) → d < 4 → M (child x d)) → ⊥) where
  abbrev Covered : Node → Type 0
  Covered x = (t : ℕ) → In t x → (y : Node) × M y × In t y

  abbrev Held : Node → Type 0
  Held x = (y : Node) × M y × Within x y

  -- a held child is one of M, or the parent is held
  child_case : (x : Node) (d : ℕ) → d < 4 → Held (child x d) → M (child x d) ⊎ Held x
  child_case x d h (y, m, w) = ⊎_elim (λ e. inl (rw e m)) (λ v. inr (y, m, v)) (above_child d h w)

  part : (x : Node) (d : ℕ) → x.deg < 24 → d < 4 → Covered x → Covered (child x d)
  part x d l h c t e = c t (within_in t l (child_within x d h) e)

  four : (x : Node) → x.deg < 24 → ((d : ℕ) → d < 4 → M (child x d) ⊎ Held x) → Held x
  four x l f = go (f 0 (lit< tt)) (f 1 (lit< tt)) (f 2 (lit< tt)) (f 3 (lit< tt))
    where
      go : M (child x 0) ⊎ Held x → M (child x 1) ⊎ Held x → M (child x 2) ⊎ Held x → M (child x 3) ⊎ Held x
          → Held x
      go (inr h) b c d = h
      go (inl a) (inr h) c d = h
      go (inl a) (inl b) (inr h) d = h
      go (inl a) (inl b) (inl c) (inr h) = h
      go (inl a) (inl b) (inl c) (inl d) = absurd (no_four x l (four_of (λ k. M (child x k)) a b c d))

  -- by how far x is from degree 24
  maximal : (k : ℕ) (x : Node) → x.deg + k ≡ 24 → Covered x → Held x
  maximal zero x e c =
      let d : x.deg ≡ 24 = omega arith in
      let y = c x.at (leaf_in x d) in
      (y.0, y.1, leaf_within x y.0 d (degrees y.0 y.1) y.2)
  maximal (suc k) x e c =
      let l : x.deg < 24 = omega arith in
      four x l (λ d h. child_case x d h (maximal k (child x d) (omega arith) (part x d l h c)))

abbrev pub nowhere : Node
nowhere = node 0 0

-- a place of a list
abbrev pub At : List Node → ℕ → Node
At xs i = get_or xs i nowhere

pub record NodeMem (xs : List Node) (x : Node) : Type 0 where
  pub place : ℕ
  pub within : place < length xs
  pub is : At xs place ≡ x

-- what a list covers
abbrev pub Cover : List Node → ℕ → Type 0
Cover xs t = (i : ℕ) × (i < length xs) × In t (At xs i)

-- Degrees of 24 or less, none within another, no four whole children.
pub record Normal (xs : List Node) : Type 0 where
  pub degrees : (i : ℕ) → i < length xs → (At xs i).deg ≤ 24
  pub apart : (i j : ℕ) → i < length xs → j < length xs → Within (At xs i) (At xs j) → i ≡ j
  pub no_four : (x : Node) → x.deg < 24 → ((d : ℕ) → d < 4 → NodeMem xs (child x d)) → ⊥

module _ (xs : List Node) (n : Normal xs) where
  mem_degree : (y : Node) → NodeMem xs y → y.deg ≤ 24
  mem_degree y m = rw m.is at (n.degrees m.place m.within)

  -- a triangle that the list covers lies within one of the list
  pub held : (y : Node) → y.deg ≤ 24 → ((t : ℕ) → In t y → Cover xs t)
      → (i : ℕ) × (i < length xs) × Within y (At xs i)
  held y h c =
      let r = maximal (NodeMem xs) mem_degree n.no_four (24 - y.deg) y (omega arith)
      (λ t e. let p = c t e in (At xs p.0, record { place = p.0; within = p.1; is = refl }, p.2)) in
      (r.1.place, r.1.within, rw r.1.is r.2)

  module _ (ys : List Node) (deg : (j : ℕ) → j < length ys → (At ys j).deg ≤ 24)
      (there : (t : ℕ) → Cover xs t → Cover ys t) (back : (t : ℕ) → Cover ys t → Cover xs t) where
    -- the place j of ys has the first triangle of the place i of xs
    record Takes (i j : ℕ) : Type 0 where
      pub below : j < length ys
      pub has : In (first (At xs i)) (At ys j)

    -- what has a triangle of x lies within x
    inside : (i j : ℕ) → i < length xs → Takes i j → Within (At ys j) (At xs i)
    inside i j h t =
        ⊎_elim (λ w. outward w) (λ w. w)
        (nested (first (At xs i)) (n.degrees i h) (deg j t.below) (first_in (At xs i)) t.has)
      where
        outward : Within (At xs i) (At ys j) → Within (At ys j) (At xs i)
        outward w =
            let z = held (At ys j) (deg j t.below) (λ s e. back s (j, t.below, e)) in
            let e : i ≡ z.0 = n.apart i z.0 h z.1 (within_trans w z.2) in
            rw e z.2

    one_each : (i i' j : ℕ) → i < length xs → i' < length xs → Takes i j → Takes i' j → i ≡ i'
    one_each i i' j h h' a b =
        let s = first (At xs i') in
        let v : In s (At xs i) = within_in s (deg j a.below) (inside i j h a) b.has in
        ⊎_elim (λ w. n.apart i i' h h' w) (λ w. sym (n.apart i' i h' h w))
        (nested s (n.degrees i h) (n.degrees i' h') v (first_in (At xs i')))

    -- "no shorter list of triangles covers the same"
    pub shortest : length xs ≤ length ys
    shortest =
        pigeons (length ys) (length xs) Takes
        (λ i h.
        let p = there (first (At xs i)) (i, h, first_in (At xs i)) in
        (p.0, p.1, record { below = p.1; has = p.2 }))
        one_each
