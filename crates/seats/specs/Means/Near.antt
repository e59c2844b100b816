-- Whole numbers near to determinants, and floors by dividing them. What the code is proved by, and no promise.
-- Assumes nothing.
use Rattle.std.specs.Prelude.{ℕ, ◌+◌, ◌-◌, ◌*◌, ◌≤◌, ◌≡◌, pos}
use Rattle.golden.specs.Numbers.{whole, ◌+φ◌}
use Rattle.golden.specs.Order.{NonNeg}
use Rattle.golden.specs.declared.Golden.{Golden}
use Rattle.filing.specs.Holding.{◌-φ◌}
use Rattle.filing.specs.declared.Determinants.{Determinants}
use Rattle.shares.specs.Means.Shares.{times}
use Rattle.seats.specs.Means.Octants.{phi}
use Rattle.seats.specs.declared.dividing.Quotient.{Quotient}
use Rattle.seats.specs.declared.dividing.Divided.{Divided}

-- ---- parts by division

-- s has 2^24 parts: x has f of them, and a rest is left
pub record Division (s x : ℕ) (q : Quotient) : Type 0 where
  pub parts : 16777216 * x ≡ q.whole * s + q.rest
  pub left : q.rest ≤ s

-- x1, x2 and what is left of the sum
pub record Divides (x1 x2 : ℕ) (r : Divided) : Type 0 where
  pub e1 : Division r.sum x1 r.q1
  pub e2 : Division r.sum x2 r.q2
  pub e3 : Division r.sum (r.sum - x1 - x2) r.q3

-- a rest away from both ends of s, by more than all errors of near numbers together
pub record Away (s rest : ℕ) : Type 0 where
  pub low : 536870912 ≤ rest
  pub high : rest + 536870912 ≤ s

-- ---- numbers near to determinants

-- 2^19·x is within c of n
pub record Near (c : ℕ) (x : Golden) (n : ℕ) : Type 0 where
  pub low : NonNeg (times 524288 x +φ whole (pos c) -φ whole (pos n))
  pub high : NonNeg (whole (pos n) +φ whole (pos c) -φ times 524288 x)

pub record AllNear (D : Determinants) (x1 x2 x3 : ℕ) : Type 0 where
  pub near1 : Near 4 D.d1 x1
  pub near2 : Near 4 D.d2 x2
  pub near3 : Near 4 D.d3 x3

-- t is 2^19·nφ rounded down, or one less
pub record NearPhi (n t : ℕ) : Type 0 where
  pub low : NonNeg (times 524288 (times n phi) -φ whole (pos t))
  pub high : NonNeg (whole (pos t) +φ whole (pos 2) -φ times 524288 (times n phi))
  pub least : 848315 * n ≤ t
  pub most : t ≤ 848316 * n

-- 2^19·x is within 4 of m less n
pub record Apart (x : Golden) (m n : ℕ) : Type 0 where
  pub low : NonNeg (times 524288 x +φ whole (pos 4) +φ whole (pos n) -φ whole (pos m))
  pub high : NonNeg (whole (pos m) +φ whole (pos 4) -φ (times 524288 x +φ whole (pos n)))
