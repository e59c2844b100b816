-- The floor at a corner, and the floors in the child there, where the corner is known. Assumes nothing.
use mathlib.Core.Path.{◌≡◌, sym, ap, subst}
use Prim.Native.Nat.{ℕ, ◌≤◌}
use native.Mathlib.Omega.{arith}
use Rattle.shares.specs.declared.Floors.{Floors}
use Rattle.shares.specs.declared.Gaps.{Gaps}
use Rattle.shares.specs.Means.Paths.{in_child}
use Rattle.shares.specs.Means.WalkWords.{floor_at}

module _ (h k j : ℕ) (F : Floors) (e : k ≡ j) where
  pub half_there : h ≤ floor_at k F → h ≤ floor_at j F
  half_there = subst (λ (i : ℕ). h ≤ floor_at i F) e

  pub child_there : (G : Gaps) → in_child h j F G ≡ in_child h k F G
  child_there G = ap (λ (i : ℕ). in_child h i F G) (sym e)

pub last_corner : (k : ℕ) → 1 ≤ k → k ≤ 3 → (k ≡ 1 → ⊥) → (k ≡ 2 → ⊥) → k ≡ 3
last_corner k l m one two = omega (arith, one, two)
