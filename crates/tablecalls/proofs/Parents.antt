-- How many triangles there are one degree up at most. Assumes nothing.
use Rattle.std.proofs.Common.{ℕ, zero, suc, ◌≤◌}
use native.Mathlib.Omega.{arith}
use Rattle.tables.proofs.Places.{places_most}
use Rattle.coarse.specs.Sums.{parents}

pub parents_most : (n : ℕ) → n ≤ 6 → parents n ≤ 20480
parents_most zero h = omega arith
parents_most (suc n) h = omega (arith, places_most (suc n) h)
