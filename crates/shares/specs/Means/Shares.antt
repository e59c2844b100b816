-- Where a direction stands in a triangle: each determinant as a share of their sum, in whole parts. What the code is
-- proved by, and no promise.
-- Assumes nothing.
use Rattle.std.specs.Prelude.{ℕ, ◌≡◌, ◌⊎◌, pos}
use Rattle.golden.specs.Numbers.{whole, ◌+φ◌, negφ, ◌*φ◌}
use Rattle.golden.specs.Order.{NonNeg}
use Rattle.golden.specs.declared.Golden.{Golden}
use Rattle.filing.specs.Holding.{◌-φ◌, three}
use Rattle.filing.specs.Means.Descent.{total}
use Rattle.filing.specs.declared.Determinants.{Determinants}
use Rattle.shares.specs.declared.Floors.{Floors}
use Rattle.shares.specs.declared.Gaps.{Gaps}

abbrev pub times : ℕ → Golden → Golden
times n x = whole (pos n) *φ x

-- p·x lies above f·s and below (f + 1)·s
pub record Between (p f : ℕ) (s x : Golden) : Type 0 where
  pub above : NonNeg (times f s -φ times p x) → ⊥
  pub below : NonNeg (times p x -φ (times f s +φ s)) → ⊥

-- where s has p parts, x has f of them: exactly if the gap g is 0, and if it is 1 more than f and less than f + 1
abbrev pub Share : (p f g : ℕ) → (s x : Golden) → Type 0
Share p f g s x = ((g ≡ 0) × (times p x ≡ times f s)) ⊎ ((g ≡ 1) × Between p f s x)

-- the three determinants of a triangle as shares of their sum, which is above 0
pub record Stands (p : ℕ) (F : Floors) (G : Gaps) (D : Determinants) : Type 0 where
  pub some : NonNeg (total D)
  pub more : NonNeg (negφ (total D)) → ⊥
  pub s1 : Share p F.f1 G.g1 (total D) D.d1
  pub s2 : Share p F.f2 G.g2 (total D) D.d2
  pub s3 : Share p F.f3 G.g3 (total D) D.d3

abbrev pub floors : (a b c : ℕ) → Floors
floors a b c = record { f1 = a; f2 = b; f3 = c }

abbrev pub gaps : (a b c : ℕ) → Gaps
gaps a b c = record { g1 = a; g2 = b; g3 = c }

-- strictly inside: no determinant is a whole number of parts
abbrev pub strict : Gaps
strict = gaps 1 1 1

-- determinants m times as large, which have the same shares
abbrev pub scaled_by : (m : ℕ) → Determinants → Determinants
scaled_by m D = three (times m D.d1) (times m D.d2) (times m D.d3)
