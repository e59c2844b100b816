-- Exact coordinates as differences of twelve weights, and how large they are. Assumes nothing.
use Rattle.std.specs.Prelude.{◌≡◌, ℕ, ◌+◌, ◌≤◌, ◌^◌, length, get_or, ℤ, pos, neg_ℤ, ◌+ℤ◌}
use Rattle.golden.specs.Numbers.{Below}
use Rattle.net.specs.Division.{Weights, sum}
use Rattle.filing.specs.declared.Coordinates.{Coordinates}

-- twelve weights that add to at most 2^24, as those of a corner do
pub record Twelve (p : Weights) : Type 0 where
  pub places : length p ≡ 12
  pub light : sum p ≤ 2 ^ 24

-- the weights at a and b less those at c and d
unfoldable pub balance_of : Weights → (a b c d : ℕ) → ℤ
balance_of p a b c d = pos (get_or p a 0 + get_or p b 0) +ℤ neg_ℤ (pos (get_or p c 0 + get_or p d 0))

-- both parts on each axis are at most 2^26 in size
pub record Small (c : Coordinates) : Type 0 where
  pub x : Below (2 ^ 26 + 1) c.x
  pub y : Below (2 ^ 26 + 1) c.y
  pub z : Below (2 ^ 26 + 1) c.z
