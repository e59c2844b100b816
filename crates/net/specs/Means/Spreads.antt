-- A point of a side as twelve weights. Assumes nothing.
use Rattle.std.specs.Prelude.{◌≡◌, true, false, ℕ, zero, suc, ◌+◌, get_or, eqb, Option, Some, None}
use Rattle.net.specs.Sides.{IsSide, corner_vertex}
use Rattle.net.specs.Division.{Weights, vertices, each, load}
use Rattle.net.specs.Refusals.{on_side, on_one_side}
use Rattle.net.specs.declared.Point.{Point}

-- the weight that a point of the side s has at the vertex v
unfoldable pub weight_at : (s : ℕ) → Point → (v : ℕ) → ℕ
weight_at s p v = load (eqb v (corner_vertex s 1)) p.w1 + load (eqb v (corner_vertex s 2)) p.w2
    + load (eqb v (corner_vertex s 3)) p.w3

-- all twelve
unfoldable pub spread : (s : ℕ) → Point → Weights
spread s p = each (weight_at s p) vertices

-- no weight at any vertex
unfoldable pub no_weights : Weights
no_weights = each (λ v. 0) vertices

-- 1 for a number that is not 0
abbrev pub sign : ℕ → ℕ
sign zero = 0
sign (suc x) = 1

-- the point of the side s that twelve weights are, where they lie on it
abbrev pub point_in : (s : ℕ) → Weights → Point
point_in s p = record {
  w1 = get_or p (corner_vertex s 1) 0;
  w2 = get_or p (corner_vertex s 2) 0;
  w3 = get_or p (corner_vertex s 3) 0;
}

-- r is a side on which the weights lie; it is none where there is no such side
abbrev pub SideFor : Weights → Option ℕ → Type 0
SideFor p None = on_one_side p ≡ false
SideFor p (Some s) = IsSide s × (on_side s 0 p ≡ true)
