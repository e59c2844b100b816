-- The determinants of a whole side, and the sides that hold a direction. Assumes nothing.
use Rattle.std.specs.Prelude.{ℕ, ◌-◌, ◌≤◌, nat_abs, []}
use Rattle.net.specs.Division.{triangle_at}
use Rattle.filing.specs.Holding.{along, determinants}
use Rattle.filing.specs.Means.Descent.{holds, first}
use Rattle.filing.specs.declared.Direction.{Direction}
use Rattle.filing.specs.declared.Determinants.{Determinants}

-- the determinants of the side s
unfoldable pub side_dets : Direction → (s : ℕ) → Determinants
side_dets d s = determinants (along d) (triangle_at s [])

-- the coordinates of a direction that is not refused
pub record IsLevel (d : Direction) : Type 0 where
  pub x_level : nat_abs d.x ≤ 1000000000
  pub y_level : nat_abs d.y ≤ 1000000000
  pub z_level : nat_abs d.z ≤ 1000000000

-- the least of the sides s to 23 that holds, the last untested
unfoldable pub least_from : Direction → (s : ℕ) → ℕ
least_from d s = first (23 - s) s (λ t. holds (side_dets d t))
