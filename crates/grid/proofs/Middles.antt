-- The middle of an edge has odd weights at just two vertices, so that it is no kept corner and tells the edge's two
-- ends. Assumes nothing.
use mathlib.Core.Path.{◌≡◌, ◌∙◌, refl, sym, ap}
use mathlib.Core.Bool.{Bool, true, false}
use mathlib.Core.List.{[], ◌∷◌}
use mathlib.Core.Logic.{inl, inr, ⊎_elim}
use Prim.Native.Nat.{ℕ, zero, suc, ◌+◌, ◌*◌, ◌≤◌, ◌<◌}
use native.Mathlib.Omega.{arith}
use lib.Dec.{eqb}
use lib.ListN.{get_or, length}
use borrow.Author.Tests.{eq-eqb, ne_eqb}
use Rattle.net.specs.Division.{Weights, kept, load, middle}
use Rattle.net.specs.Means.Spreads.{spread, weight_at}
use Rattle.net.specs.Means.States.{point_of}
use Rattle.net.specs.Sides.{IsSide, OneToThree, corner_vertex, next, prev}
use Rattle.net.specs.Steps.{SameTwo}
use Rattle.net.specs.declared.State.{State}
use Rattle.net.specs.declared.State.TheVariants.{Down, Up}
use Rattle.net.proofs.Loads.{at_vertex}
use Rattle.net.proofs.SharedVertices.{vertex_small, vertices_differ}
use Rattle.net.proofs.StateCode.{spread_length}
use Rattle.net.proofs.Stepping.{next_three, prev_three}
use Rattle.net.proofs.Table.{either_way, same, three}

-- ---- weights, read one by one

-- one weight for each vertex
abbrev pub Twelve : Weights → Type 0
Twelve p = length p ≡ 12

-- twice as much at each vertex, and the sum at each
at_kept : (p : Weights) (v : ℕ) → get_or (kept p) v 0 ≡ 2 * get_or p v 0
at_kept [] v = refl
at_kept (x ∷ xs) zero = refl
at_kept (x ∷ xs) (suc v) = at_kept xs v

at_middle : (p q : Weights) → length p ≡ length q → (v : ℕ) → get_or (middle p q) v 0 ≡ get_or p v 0 + get_or q v 0
at_middle [] [] l v = refl
at_middle [] (y ∷ ys) l v = absurd (omega arith)
at_middle (x ∷ xs) [] l v = absurd (omega arith)
at_middle (x ∷ xs) (y ∷ ys) l zero = refl
at_middle (x ∷ xs) (y ∷ ys) l (suc v) = at_middle xs ys (omega arith) v

-- weights that agree at each vertex are the same
same_places : (p q : Weights) → length p ≡ length q → ((v : ℕ) → v < length p → get_or p v 0 ≡ get_or q v 0) → p ≡ q
same_places [] [] l f = refl
same_places [] (y ∷ ys) l f = absurd (omega arith)
same_places (x ∷ xs) [] l f = absurd (omega arith)
same_places (x ∷ xs) (y ∷ ys) l f = let e = f 0 (omega arith) in λ i. e i ∷ same_places xs ys (omega arith)
    (λ v h. f (suc v) (omega arith)) i

same_twelve : (p q : Weights) → Twelve p → Twelve q → ((v : ℕ) → v < 12 → get_or p v 0 ≡ get_or q v 0) → p ≡ q
same_twelve p q l m f = same_places p q (l ∙ sym m) (λ v h. f v (omega (arith, l)))

-- a kept corner tells the corner
pub kept_one : (p q : Weights) → Twelve p → Twelve q → kept p ≡ kept q → p ≡ q
kept_one p q l m e = same_twelve p q l m
    (λ v h. omega (arith, at_kept p v, at_kept q v, ap (λ (w : Weights). get_or w v 0) e))

-- ---- the two ends of an edge

-- 1 at the vertex u, and else 0
abbrev bit : (v u : ℕ) → ℕ
bit v u = load (eqb v u) 1

bit_own : (v u : ℕ) → v ≡ u → bit v u ≡ 1
bit_own v u e = simp (eq-eqb v u e)

bit_other : (v u : ℕ) → (v ≡ u → ⊥) → bit v u ≡ 0
bit_other v u f = simp (ne_eqb v u f)

bit_small : (v u : ℕ) → bit v u ≤ 1
bit_small v u = ⊎_elim (λ e. omega (arith, bit_own v u e)) (λ f. omega (arith, bit_other v u f)) (either_way (same v u))

-- v is at most one of two vertices
bits_apart : (u w : ℕ) → (u ≡ w → ⊥) → (v : ℕ) → bit v u + bit v w ≤ 1
bits_apart u w f v =
    ⊎_elim (λ e. omega (arith, bit_own v u e, bit_other v w (λ z. f (sym e ∙ z))))
    (λ g. omega (arith, bit_other v u g, bit_small v w)) (either_way (same v u))

-- p has 1 more than q at the vertex u, q has 1 more than p at the vertex w, and all else is the same
pub record Leans (p q : Weights) : Type 0 where
  pub twelve : Twelve p
  pub twelve' : Twelve q
  pub u : ℕ
  pub w : ℕ
  pub u_small : u < 12
  pub differ : u ≡ w → ⊥
  pub leans : (v : ℕ) → v < 12 → get_or p v 0 + bit v w ≡ get_or q v 0 + bit v u

-- the middle is odd at one vertex at least: it is no kept corner
pub middle_not_kept : (p q c : Weights) → Leans p q → middle p q ≡ kept c → ⊥
middle_not_kept p q c h e =
    let v = h.u in
    omega (
      arith,
      at_middle p q (h.twelve ∙ sym h.twelve') v,
      at_kept c v,
      ap (λ (w : Weights). get_or w v 0) e,
      h.leans v h.u_small,
      bit_own v v refl,
      bit_other v h.w h.differ,
    )

-- the middle is odd at u and w alone: it tells them, and with them the ends
module _ (p q p' q' : Weights) (h : Leans p q) (k : Leans p' q') (e : middle p q ≡ middle p' q') where
  -- the sums agree at each vertex, and so do their odd places
  sums : (v : ℕ) → get_or p v 0 + get_or q v 0 ≡ get_or p' v 0 + get_or q' v 0
  sums v = sym (at_middle p q (h.twelve ∙ sym h.twelve') v) ∙ ap (λ (w : Weights). get_or w v 0) e
      ∙ at_middle p' q' (k.twelve ∙ sym k.twelve') v

  odds : (v : ℕ) → v < 12 → bit v h.u + bit v h.w ≡ bit v k.u + bit v k.w
  odds v l = omega (
    arith,
    sums v,
    h.leans v l,
    k.leans v l,
    bits_apart h.u h.w h.differ v,
    bits_apart k.u
        k.w k.differ v,
  )

  -- where the first vertices agree, and where they are exchanged
  straight : h.u ≡ k.u → SameTwo p q p' q'
  straight z = inl (
    same_twelve p p' h.twelve k.twelve (λ v l. (go v l).0),
    same_twelve q q' h.twelve'
        k.twelve' (λ v l. (go v l).1),
  )
    where
      go : (v : ℕ) → v < 12 → (get_or p v 0 ≡ get_or p' v 0) × (get_or q v 0 ≡ get_or q' v 0)
      go v l = omega (arith, sums v, odds v l, h.leans v l, k.leans v l, ap (bit v) z)

  turned : h.u ≡ k.w → SameTwo p q p' q'
  turned z = inr (
    same_twelve p q' h.twelve k.twelve' (λ v l. (go v l).0),
    same_twelve q p' h.twelve'
        k.twelve (λ v l. (go v l).1),
  )
    where
      go : (v : ℕ) → v < 12 → (get_or p v 0 ≡ get_or q' v 0) × (get_or q v 0 ≡ get_or p' v 0)
      go v l = omega (arith, sums v, odds v l, h.leans v l, k.leans v l, ap (bit v) z)

  pub middle_one : SameTwo p q p' q'
  middle_one = ⊎_elim straight (λ f. ⊎_elim turned (λ g. absurd (none f g)) (either_way (same h.u k.w)))
      (either_way (same h.u k.u))
    where
      none : (h.u ≡ k.u → ⊥) → (h.u ≡ k.w → ⊥) → ⊥
      none f g = let v = h.u in omega (
        arith,
        odds v h.u_small,
        bit_own v v refl,
        bit_other v k.u f,
        bit_other v
            k.w g,
      )
          -- ---- the corners of a triangle inside a side

-- an up one has 1 more than its floor at the corner's own vertex, a down one at the other two

load_suc : (b : Bool) (x : ℕ) → load b (suc x) ≡ load b 1 + load b x
load_suc true x = omega arith
load_suc false x = refl

module _ (s v x y z : ℕ) where
  abbrev load_of : ℕ → State → ℕ
  load_of i a = weight_at s (point_of i a) v

  abbrev own : ℕ → ℕ
  own i = bit v (corner_vertex s i)

  abbrev Up-leans : ℕ → Type 0
  Up-leans k = load_of (next k) (Up x y z) + own (prev k) ≡ load_of (prev k) (Up x y z) + own (next k)

  abbrev Down-leans : ℕ → Type 0
  Down-leans k = load_of (next k) (Down x y z) + own (next k) ≡ load_of (prev k) (Down x y z) + own (prev k)

  more : (i w : ℕ) → load (eqb v (corner_vertex s i)) (suc w) ≡ own i + load (eqb v (corner_vertex s i)) w
  more i w = load_suc (eqb v (corner_vertex s i)) w

  up_leans : (k : ℕ) → OneToThree k → Up-leans k
  unfolding weight_at
  up_leans = three Up-leans (omega (arith, more 2 y, more 3 z)) (omega (arith, more 1 x, more 3 z))
      (omega (arith, more 1 x, more 2 y))

  down_leans : (k : ℕ) → OneToThree k → Down-leans k
  unfolding weight_at
  down_leans = three Down-leans (omega (arith, more 2 y, more 3 z)) (omega (arith, more 1 x, more 3 z))
      (omega (arith, more 1 x, more 2 y))

-- the two ends have different numbers
pub ends_apart : (k : ℕ) → OneToThree k → next k ≡ prev k → ⊥
ends_apart = three (λ k. next k ≡ prev k → ⊥) (λ e. omega arith) (λ e. omega arith) (λ e. omega arith)

-- the ends of an edge lean to each other
pub state_leans : (s : ℕ) → IsSide s → (k : ℕ) → OneToThree k → (a : State)
    → Leans (spread s (point_of (next k) a)) (spread s (point_of (prev k) a))
state_leans s hs k l (Up x y z) = record {
  twelve = spread_length s _;
  twelve' = spread_length s _;
  u = corner_vertex s (next k);
  w = corner_vertex s (prev k);
  u_small = vertex_small s hs (next k) (next_three k l);
  differ = λ e. ends_apart k l (vertices_differ s hs (next k) (next_three k l) (prev k) (prev_three k l) e);
  leans = λ v h. omega (
    arith,
    up_leans s v x y z k l,
    at_vertex s (point_of (next k) (Up x y z)) v h,
    at_vertex s
        (point_of (prev k) (Up x y z)) v h,
  );
}
state_leans s hs k l (Down x y z) = record {
  twelve = spread_length s _;
  twelve' = spread_length s _;
  u = corner_vertex s (prev k);
  w = corner_vertex s (next k);
  u_small = vertex_small s hs (prev k) (prev_three k l);
  differ = λ e. ends_apart k l (vertices_differ s hs (next k) (next_three k l) (prev k) (prev_three k l) (sym e));
  leans = λ v h. omega (
    arith,
    down_leans s v x y z k l,
    at_vertex s (point_of (next k) (Down x y z)) v h,
    at_vertex s
        (point_of (prev k) (Down x y z)) v h,
  );
}
