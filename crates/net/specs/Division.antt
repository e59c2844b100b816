-- Document 01, 'Division and weights'. Assumes nothing.
use Rattle.std.specs.Prelude.{ℕ, zero, suc, ◌+◌, ◌*◌, Bool, true, false, List, [], ◌∷◌, eqb}
use Rattle.net.specs.Sides.{nth, corner_vertex}

-- "A corner of degree N has twelve whole weights, one for each vertex": here as many as a list holds; corners have twelve.
abbrev pub Weights : Type 0
Weights = List ℕ

abbrev pub vertices : List ℕ
vertices = 0 ∷ 1 ∷ 2 ∷ 3 ∷ 4 ∷ 5 ∷ 6 ∷ 7 ∷ 8 ∷ 9 ∷ 10 ∷ 11 ∷ []

abbrev pub each : (ℕ → ℕ) → List ℕ → List ℕ
each f [] = []
each f (v ∷ vs) = f v ∷ each f vs

-- x where the test holds, and else 0
abbrev pub load : Bool → ℕ → ℕ
load true x = x
load false x = 0

-- "At degree 0 one weight is 1 and the rest 0."
unfoldable pub unit_at : ℕ → Weights
unit_at v = each (λ u. load (eqb u v) 1) vertices

-- "At each step a kept corner's weights are doubled"
abbrev pub kept : Weights → Weights
kept = each (λ x. 2 * x)

-- "and a middle's weights are the sum of its two ends'."
abbrev pub middle : Weights → Weights → Weights
middle [] [] = []
middle [] (y ∷ ys) = []
middle (x ∷ xs) [] = []
middle (x ∷ xs) (y ∷ ys) = (x + y) ∷ middle xs ys

-- "a triangle with corners A1, A2, A3"
pub record Triangle : Type 0 where
  pub a1 : Weights
  pub a2 : Weights
  pub a3 : Weights

abbrev pub triangle : Weights → Weights → Weights → Triangle
triangle a b c = record { a1 = a; a2 = b; a3 = c }

-- "Write M1, M2, M3 for the middles of edges 1, 2, 3"
abbrev pub m1 : Triangle → Weights
m1 t = middle t.a2 t.a3

abbrev pub m2 : Triangle → Weights
m2 t = middle t.a3 t.a1

abbrev pub m3 : Triangle → Weights
m3 t = middle t.a1 t.a2

-- "Its children have corners: digit 0: M1, M2, M3; digit 1: A1, M3, M2; digit 2: M3, A2, M1; digit 3: M2, M1, A3."
abbrev pub divide : (digit : ℕ) → Triangle → Triangle
divide zero t = triangle (m1 t) (m2 t) (m3 t)
divide (suc zero) t = triangle (kept t.a1) (m3 t) (m2 t)
divide (suc (suc zero)) t = triangle (m3 t) (kept t.a2) (m1 t)
divide (suc (suc (suc d))) t = triangle (m2 t) (m1 t) (kept t.a3)

-- The triangle of a side and digits, the last digit first: a child has one more at the head.
unfoldable pub triangle_at : (side : ℕ) → (digits : List ℕ) → Triangle
triangle_at s [] = triangle (unit_at (corner_vertex s 1)) (unit_at (corner_vertex s 2)) (unit_at (corner_vertex s 3))
triangle_at s (d ∷ ds) = divide d (triangle_at s ds)

-- Its corner 1, 2 or 3.
abbrev pub pick_corner : ℕ → Triangle → Weights
pick_corner i t = nth i t.a1 t.a2 t.a3

unfoldable pub corner_of : (side : ℕ) → (digits : List ℕ) → (i : ℕ) → Weights
corner_of s ds i = pick_corner i (triangle_at s ds)

unfoldable pub sum : Weights → ℕ
sum [] = 0
sum (x ∷ xs) = x + sum xs
