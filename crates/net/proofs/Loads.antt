-- The twelve weights of a corner, read one by one: those of a side tell the point, and which sides it can lie in. Assumes nothing.
use mathlib.Core.Path.{◌≡◌, ◌∙◌, refl, sym, ap}
use mathlib.Core.Logic.{inl, inr, ⊎_elim}
use mathlib.Core.Bool.{Bool, true, false}
use mathlib.Core.List.{List, [], ◌∷◌}
use Prim.Native.Nat.{ℕ, zero, suc, ◌+◌, ◌^◌, ◌≤◌, ◌<◌}
use native.Mathlib.Omega.{arith}
use lib.Dec.{eqb}
use lib.ListN.{length, get_or}
use borrow.Author.Tests.{eq-eqb, ne_eqb, eqb-true, eqb-false}
use Rattle.net.specs.Division.{Weights, corner_of, each, load, sum, vertices}
use Rattle.net.specs.Means.Spreads.{spread, weight_at}
use Rattle.net.specs.Means.States.{point_of, state_of}
use Rattle.net.specs.Sides.{IsSide, OneToThree, corner_vertex, nth}
use Rattle.net.specs.declared.Point.{Point}
use Rattle.net.proofs.SharedVertices.{HasVertex, has_or_not, vertex_small, vertices_differ}
use Rattle.net.proofs.Spread.{all_three, same_point}
use Rattle.net.proofs.Table.{three}
use Rattle.net.proofs.Totals.{point_total, total_is}

-- the weight of a point at corner i of its side
abbrev pub weight : ℕ → Point → ℕ
weight i p = nth i p.w1 p.w2 p.w3

-- the triangle of a side and digits has the corner with the weights p
abbrev pub HasAt : (s : ℕ) (ds : List ℕ) (p : Weights) → Type 0
HasAt s ds p = (i : ℕ) × OneToThree i × (corner_of s ds i ≡ p)

-- THE BRIDGE: a corner's twelve weights are the three of the state's corner, at the side's vertices
pub corner_is : (s : ℕ) (ds : List ℕ) (i : ℕ) → corner_of s ds i ≡ spread s (point_of i (state_of ds))
unfolding corner_of
corner_is s ds zero = (all_three s ds).s3
corner_is s ds (suc zero) = (all_three s ds).s1
corner_is s ds (suc (suc zero)) = (all_three s ds).s2
corner_is s ds (suc (suc (suc i))) = (all_three s ds).s3

-- the numbers a, a + 1, .., n of them
abbrev count : ℕ → ℕ → List ℕ
count a zero = []
count a (suc n) = a ∷ count (suc a) n

at_count : (f : ℕ → ℕ) (a n v : ℕ) → v < n → get_or (each f (count a n)) v 0 ≡ f (a + v)
at_count f a zero v h = absurd (omega arith)
at_count f a (suc n) zero h = let e : a ≡ a + 0 = omega arith in ap f e
at_count f a (suc n) (suc v) h = let e : suc a + v ≡ a + suc v = omega arith in at_count f (suc a) n v (omega arith) ∙ ap f e

pub at_vertex : (s : ℕ) (p : Point) (v : ℕ) → v < 12 → get_or (spread s p) v 0 ≡ weight_at s p v
unfolding spread
at_vertex s p v h = let e : 0 + v ≡ v = omega arith in at_count (weight_at s p) 0 12 v h ∙ ap (weight_at s p) e

hit : (a b x : ℕ) → a ≡ b → load (eqb a b) x ≡ x
hit a b x e = simp (eq-eqb a b e)

miss : (a b x : ℕ) → (a ≡ b → ⊥) → load (eqb a b) x ≡ 0
miss a b x f = simp (ne_eqb a b f)

-- a point's weight at a vertex of its side, and at any other
pub weight_own : (s : ℕ) (p : Point) → IsSide s → (i : ℕ) → OneToThree i → weight_at s p (corner_vertex s i) ≡ weight i p
unfolding weight_at
weight_own s p h =
    three (λ i. weight_at s p (corner_vertex s i) ≡ weight i p)
    (omega (arith, on 1 p.w1, off 1 2 p.w2 (omega arith) (omega arith) (λ e. omega arith), off 1 3 p.w3 (omega arith) (omega arith) (λ e. omega arith)))
    (omega (arith, on 2 p.w2, off 2 1 p.w1 (omega arith) (omega arith) (λ e. omega arith), off 2 3 p.w3 (omega arith) (omega arith) (λ e. omega arith)))
    (omega (arith, on 3 p.w3, off 3 1 p.w1 (omega arith) (omega arith) (λ e. omega arith), off 3 2 p.w2 (omega arith) (omega arith) (λ e. omega arith)))
  where
    on : (i x : ℕ) → load (eqb (corner_vertex s i) (corner_vertex s i)) x ≡ x
    on i x = hit (corner_vertex s i) (corner_vertex s i) x refl

    off : (i j x : ℕ) → OneToThree i → OneToThree j → (i ≡ j → ⊥) → load (eqb (corner_vertex s i) (corner_vertex s j)) x ≡ 0
    off i j x l m f = miss (corner_vertex s i) (corner_vertex s j) x (λ e. f (vertices_differ s h i l j m e))

pub weight_other : (t v : ℕ) (q : Point) → (HasVertex t v → ⊥) → weight_at t q v ≡ 0
unfolding weight_at
weight_other t v q f =
    omega (arith, miss v (corner_vertex t 1) q.w1 (λ e. f (inl e)), miss v (corner_vertex t 2) q.w2 (λ e. f (inr (inl e))), miss v (corner_vertex t 3) q.w3 (λ e. f (inr (inr e))))

pub same_weights : (s t : ℕ) (p q : Point) → spread s p ≡ spread t q → (v : ℕ) → v < 12 → weight_at s p v ≡ weight_at t q v
same_weights s t p q e v h = sym (at_vertex s p v h) ∙ ap (λ (l : List ℕ). get_or l v 0) e ∙ at_vertex t q v h

-- two points of one side with the same weights are one
pub spread_one : (s : ℕ) (p q : Point) → IsSide s → spread s p ≡ spread s q → p ≡ q
spread_one s p q h e = same_point p q (go 1 (omega arith)) (go 2 (omega arith)) (go 3 (omega arith))
  where
    go : (i : ℕ) → OneToThree i → weight i p ≡ weight i q
    go i l = sym (weight_own s p h i l) ∙ same_weights s s p q e _ (vertex_small s h i l) ∙ weight_own s q h i l

-- a vertex at which a point has weight is one of each side that has the point
pub weight_has : (s t : ℕ) (p q : Point) → IsSide s → spread s p ≡ spread t q → (i : ℕ) → OneToThree i → 1 ≤ weight i p → HasVertex t (corner_vertex s i)
weight_has s t p q h e i l w =
    ⊎_elim (λ y. y) (λ f. absurd (omega (arith, weight_own s p h i l, same_weights s t p q e _ (vertex_small s h i l), weight_other t _ q f))) (has_or_not t (corner_vertex s i))

-- The sum of the weights.
sum_add : (f g : ℕ → ℕ) (vs : List ℕ) → sum (each (λ v. f v + g v) vs) ≡ sum (each f vs) + sum (each g vs)
unfolding sum
sum_add f g [] = refl
sum_add f g (v ∷ vs) = omega (arith, sum_add f g vs)

sum_none : (c x a n : ℕ) → c < a → sum (each (λ v. load (eqb v c) x) (count a n)) ≡ 0
unfolding sum
sum_none c x a zero h = refl
sum_none c x a (suc n) h = omega (arith, sum_none c x (suc a) n (omega arith), miss a c x (λ e. omega arith))

sum_one : (c x a n : ℕ) → a ≤ c → c < a + n → sum (each (λ v. load (eqb v c) x) (count a n)) ≡ x
unfolding sum
sum_one c x a zero l h = absurd (omega arith)
sum_one c x a (suc n) l h = go (eqb a c) refl (λ m. sum_one c x (suc a) n m (omega arith))
  where
    go : (b : Bool) → eqb a c ≡ b → (suc a ≤ c → sum (each (λ v. load (eqb v c) x) (count (suc a) n)) ≡ x) → sum (each (λ v. load (eqb v c) x) (count a (suc n))) ≡ x
    go true e r = let f = eqb-true a c e in omega (arith, hit a c x f, sum_none c x (suc a) n (omega arith))
    go false e r = let f = eqb-false a c e in omega (arith, miss a c x f, r (omega arith))

pub sum_spread : (s : ℕ) (p : Point) → IsSide s → sum (spread s p) ≡ p.w1 + p.w2 + p.w3
unfolding spread weight_at
sum_spread s p h =
    let f : (i : ℕ) → ℕ → ℕ → ℕ = λ i x v. load (eqb v (corner_vertex s i)) x in
    omega (
      arith,
      sum_add (λ v. f 1 p.w1 v + f 2 p.w2 v) (f 3 p.w3) vertices,
      sum_add (f 1 p.w1) (f 2 p.w2) vertices,
      sum_one (corner_vertex s 1) p.w1 0 12 (omega arith) (omega (arith, vertex_small s h 1 (omega arith))),
      sum_one (corner_vertex s 2) p.w2 0 12 (omega arith) (omega (arith, vertex_small s h 2 (omega arith))),
      sum_one (corner_vertex s 3) p.w3 0 12 (omega arith) (omega (arith, vertex_small s h 3 (omega arith))),
    )

-- "So they add to 2^N."
pub weights_add : (s : ℕ) (ds : List ℕ) (i : ℕ) → IsSide s → sum (corner_of s ds i) ≡ 2 ^ length ds
weights_add s ds i h = ap sum (corner_is s ds i) ∙ sum_spread s (point_of i (state_of ds)) h ∙ point_total i (state_of ds) ∙ total_is ds
