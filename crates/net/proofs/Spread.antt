-- The bridge from twelve weights to three: a corner's weights lie at its side's three vertices, as the division by
-- states has them.
-- Assumes nothing.
use mathlib.Core.Path.{◌≡◌, ◌∙◌, refl, ap}
use mathlib.Core.Bool.{Bool, true, false}
use mathlib.Core.List.{List, [], ◌∷◌}
use Prim.Native.Nat.{ℕ, zero, suc, ◌+◌, ◌*◌}
use native.Mathlib.Omega.{arith}
use lib.Dec.{eqb}
use Rattle.net.specs.Division.{Triangle, Weights, divide, each, kept, load, m1, m2, m3, middle}
use Rattle.net.specs.Division.{triangle_at, unit_at, vertices}
use Rattle.net.specs.Means.Spreads.{spread, weight_at}
use Rattle.net.specs.Means.States.{first, point, second, state_of, step, third}
use Rattle.net.specs.Sides.{corner_vertex}
use Rattle.net.specs.declared.Point.{Point}
use Rattle.net.specs.declared.State.{State}
use Rattle.net.specs.declared.State.TheVariants.{Down, Up}

-- ---- points of a side: twice one, and the middle of two

abbrev twice_of : Point → Point
twice_of p = point (2 * p.w1) (2 * p.w2) (2 * p.w3)

abbrev plus : Point → Point → Point
plus p q = point (p.w1 + q.w1) (p.w2 + q.w2) (p.w3 + q.w3)

pub same_point : (p q : Point) → p.w1 ≡ q.w1 → p.w2 ≡ q.w2 → p.w3 ≡ q.w3 → p ≡ q
same_point p q e f g = λ i. record { w1 = e i; w2 = f i; w3 = g i }

-- ---- twelve weights

pub load_zero : (b : Bool) → load b 0 ≡ 0
load_zero true = refl
load_zero false = refl

load_twice : (b : Bool) (x : ℕ) → load b (2 * x) ≡ 2 * load b x
load_twice true x = refl
load_twice false x = refl

load_add : (b : Bool) (x y : ℕ) → load b (x + y) ≡ load b x + load b y
load_add true x y = refl
load_add false x y = refl

-- a middle's ends in the other order
pub middle_turned : (p q : Weights) → middle p q ≡ middle q p
middle_turned [] [] = refl
middle_turned [] (y ∷ ys) = refl
middle_turned (x ∷ xs) [] = refl
middle_turned (x ∷ xs) (y ∷ ys) =
    let e : x + y ≡ y + x = omega arith in
    λ i. e i ∷ middle_turned xs ys i

pub each_same : (f g : ℕ → ℕ) → ((v : ℕ) → f v ≡ g v) → (vs : List ℕ) → each f vs ≡ each g vs
each_same f g e [] = refl
each_same f g e (v ∷ vs) = cc (e v, each_same f g e vs)

each_kept : (f : ℕ → ℕ) (vs : List ℕ) → kept (each f vs) ≡ each (λ v. 2 * f v) vs
each_kept f [] = refl
each_kept f (v ∷ vs) = ap (λ (l : List ℕ). (2 * f v) ∷ l) (each_kept f vs)

each_middle : (f g : ℕ → ℕ) (vs : List ℕ) → middle (each f vs) (each g vs) ≡ each (λ v. f v + g v) vs
each_middle f g [] = refl
each_middle f g (v ∷ vs) = ap (λ (l : List ℕ). (f v + g v) ∷ l) (each_middle f g vs)

module _ (s : ℕ) where
  spread_kept : (p : Point) → kept (spread s p) ≡ spread s (twice_of p)
  unfolding spread weight_at
  spread_kept p =
      each_kept (weight_at s p) vertices
      ∙ each_same (λ v. 2 * weight_at s p v) (weight_at s (twice_of p)) (λ v. simp load_twice (omega arith)) vertices

  spread_middle : (p q : Point) → middle (spread s p) (spread s q) ≡ spread s (plus p q)
  unfolding spread weight_at
  spread_middle p q =
      each_middle (weight_at s p) (weight_at s q) vertices
      ∙ each_same (λ v. weight_at s p v + weight_at s q v) (weight_at s (plus p q))
      (λ v. simp load_add (omega arith)) vertices

  -- a triangle of weights is that of a state, corner by corner
  pub record Spreads (a : State) (t : Triangle) : Type 0 where
    pub s1 : t.a1 ≡ spread s (first a)
    pub s2 : t.a2 ≡ spread s (second a)
    pub s3 : t.a3 ≡ spread s (third a)

  -- then so is its child: the points r that its kept corners and its middles are
  module _ (a : State) (t : Triangle) (h : Spreads a t) where
    twice : (p : Point) {b : List ℕ} {r : Point} → b ≡ spread s p → twice_of p ≡ r → kept b ≡ spread s r
    twice p e f = ap kept e ∙ spread_kept p ∙ ap (spread s) f

    between : (p q : Point) {b c : List ℕ} {r : Point} → b ≡ spread s p → c ≡ spread s q → plus p q ≡ r
        → middle b c ≡ spread s r
    between p q e f g = (λ i. middle (e i) (f i)) ∙ spread_middle p q ∙ ap (spread s) g

    k1 : {r : Point} → twice_of (first a) ≡ r → kept t.a1 ≡ spread s r
    k1 = twice (first a) h.s1

    k2 : {r : Point} → twice_of (second a) ≡ r → kept t.a2 ≡ spread s r
    k2 = twice (second a) h.s2

    k3 : {r : Point} → twice_of (third a) ≡ r → kept t.a3 ≡ spread s r
    k3 = twice (third a) h.s3

    n1 : {r : Point} → plus (second a) (third a) ≡ r → m1 t ≡ spread s r
    n1 = between (second a) (third a) h.s2 h.s3

    n2 : {r : Point} → plus (third a) (first a) ≡ r → m2 t ≡ spread s r
    n2 = between (third a) (first a) h.s3 h.s1

    n3 : {r : Point} → plus (first a) (second a) ≡ r → m3 t ≡ spread s r
    n3 = between (first a) (second a) h.s1 h.s2

  child : (d : ℕ) (a : State) (t : Triangle) → Spreads a t → Spreads (step d a) (divide d t)
  child zero (Up x y z) t h = record {
    s1 = n1 (Up x y z) t h (same_point _ _ (omega arith) (omega arith) (omega arith));
    s2 = n2 (Up x y z) t h (same_point _ _ (omega arith) (omega arith) (omega arith));
    s3 = n3 (Up x y z) t h (same_point _ _ (omega arith) (omega arith) (omega arith));
  }
  child zero (Down x y z) t h = record {
    s1 = n1 (Down x y z) t h (same_point _ _ (omega arith) (omega arith) (omega arith));
    s2 = n2 (Down x y z) t h (same_point _ _ (omega arith) (omega arith) (omega arith));
    s3 = n3 (Down x y z) t h (same_point _ _ (omega arith) (omega arith) (omega arith));
  }
  child (suc zero) (Up x y z) t h = record {
    s1 = k1 (Up x y z) t h (same_point _ _ (omega arith) (omega arith) (omega arith));
    s2 = n3 (Up x y z) t h (same_point _ _ (omega arith) (omega arith) (omega arith));
    s3 = n2 (Up x y z) t h (same_point _ _ (omega arith) (omega arith) (omega arith));
  }
  child (suc zero) (Down x y z) t h = record {
    s1 = k1 (Down x y z) t h (same_point _ _ (omega arith) (omega arith) (omega arith));
    s2 = n3 (Down x y z) t h (same_point _ _ (omega arith) (omega arith) (omega arith));
    s3 = n2 (Down x y z) t h (same_point _ _ (omega arith) (omega arith) (omega arith));
  }
  child (suc (suc zero)) (Up x y z) t h = record {
    s1 = n3 (Up x y z) t h (same_point _ _ (omega arith) (omega arith) (omega arith));
    s2 = k2 (Up x y z) t h (same_point _ _ (omega arith) (omega arith) (omega arith));
    s3 = n1 (Up x y z) t h (same_point _ _ (omega arith) (omega arith) (omega arith));
  }
  child (suc (suc zero)) (Down x y z) t h = record {
    s1 = n3 (Down x y z) t h (same_point _ _ (omega arith) (omega arith) (omega arith));
    s2 = k2 (Down x y z) t h (same_point _ _ (omega arith) (omega arith) (omega arith));
    s3 = n1 (Down x y z) t h (same_point _ _ (omega arith) (omega arith) (omega arith));
  }
  child (suc (suc (suc k))) (Up x y z) t h = record {
    s1 = n2 (Up x y z) t h (same_point _ _ (omega arith) (omega arith) (omega arith));
    s2 = n1 (Up x y z) t h (same_point _ _ (omega arith) (omega arith) (omega arith));
    s3 = k3 (Up x y z) t h (same_point _ _ (omega arith) (omega arith) (omega arith));
  }
  child (suc (suc (suc k))) (Down x y z) t h = record {
    s1 = n2 (Down x y z) t h (same_point _ _ (omega arith) (omega arith) (omega arith));
    s2 = n1 (Down x y z) t h (same_point _ _ (omega arith) (omega arith) (omega arith));
    s3 = k3 (Down x y z) t h (same_point _ _ (omega arith) (omega arith) (omega arith));
  }

  unit : (i : ℕ) (p : Point) → ((v : ℕ) → load (eqb v (corner_vertex s i)) 1 ≡ weight_at s p v)
      → unit_at (corner_vertex s i) ≡ spread s p
  unfolding spread unit_at
  unit i p e = each_same (λ v. load (eqb v (corner_vertex s i)) 1) (weight_at s p) e vertices

  start : Spreads (Up 0 0 0) (triangle_at s [])
  unfolding triangle_at weight_at
  start = record {
    s1 = unit 1 (point 1 0 0) (λ v. simp load_zero (omega arith));
    s2 = unit 2 (point 0 1 0) (λ v. simp load_zero (omega arith));
    s3 = unit 3 (point 0 0 1) (λ v. simp load_zero (omega arith));
  }

  pub all_three : (ds : List ℕ) → Spreads (state_of ds) (triangle_at s ds)
  unfolding triangle_at state_of
  all_three [] = start
  all_three (d ∷ ds) = child d (state_of ds) (triangle_at s ds) (all_three ds)
