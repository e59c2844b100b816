-- Numbers near to the determinants of a side, role by role. What the code is proved by, and no promise. Assumes
-- nothing.
use Rattle.std.specs.Prelude.{◌≡◌, ℕ, suc, ◌+◌, ◌-◌, ◌*◌, ◌≤◌, ◌<◌, List, nat_abs}
use Rattle.golden.specs.Numbers.{◌+φ◌, negφ}
use Rattle.golden.specs.Order.{NonNeg}
use Rattle.golden.specs.declared.Golden.{Golden}
use Rattle.words.specs.Words.{word_of}
use Rattle.net.specs.Division.{each}
use Rattle.net.specs.Sides.{IsSide, nth}
use Rattle.filing.specs.Holding.{◌-φ◌}
use Rattle.filing.specs.Means.Sides.{side_dets}
use Rattle.filing.specs.declared.Determinants.{Determinants}
use Rattle.filing.specs.declared.Direction.{Direction}
use Rattle.shares.specs.Means.Shares.{times, floors, gaps, scaled_by}
use Rattle.shares.specs.Means.Paths.{paths}
use Rattle.shares.specs.declared.Floors.{Floors}
use Rattle.shares.specs.declared.Gaps.{Gaps}
use Rattle.seats.specs.declared.dividing.Quotient.{Quotient}
use Rattle.seats.specs.declared.Triple.{Triple}
use Rattle.seats.specs.declared.placing.Roles.{Roles}
use Rattle.seats.specs.declared.placing.Seated.{Seated}
use Rattle.seats.specs.declared.placing.Sizes.{Sizes}
use Rattle.seats.specs.Means.Near.{Near, AllNear, Division}
use Rattle.seats.specs.Means.Octants.{lean, outer, double, role_of, side_at, first_at, second_at, third_at}

-- a direction's sizes, all of them some times as large: the determinants are then that many times as large, and their
-- shares in the sum the same
pub record AreScaled (a b c : ℕ) (n : Sizes) : Type 0 where
  pub scale : ℕ
  pub a_is : n.a ≡ suc scale * a
  pub b_is : n.b ≡ suc scale * b
  pub c_is : n.c ≡ suc scale * c
  pub a_small : n.a ≤ 1000000000
  pub b_small : n.b ≤ 1000000000
  pub c_small : n.c ≤ 1000000000
  pub large : (a + b + c ≡ 0 → ⊥) → 32768 ≤ n.a + n.b + n.c

-- numbers near to the roles beyond the edge at a
pub record AreBeyond (a b c : ℕ) (r : Roles) : Type 0 where
  pub near1 : Near 4 (outer a b c) r.r1
  pub near2 : Near 4 (negφ (lean a b c)) r.r2
  pub near3 : Near 4 (double b) r.r3
  pub small : r.r1 + r.r2 + r.r3 < 4503599627370496
  pub large : 524288 * (a + b + c) ≤ r.r1 + r.r2 + r.r3

-- numbers near to the roles of a kind, for such sizes
pub record AreRoles (a b c : ℕ) (r : Roles) : Type 0 where
  pub kind_small : r.kind < 4
  pub near1 : Near 4 (role_of r.kind 1 a b c) r.r1
  pub near2 : Near 4 (role_of r.kind 2 a b c) r.r2
  pub near3 : Near 4 (role_of r.kind 3 a b c) r.r3
  pub small : r.r1 + r.r2 + r.r3 < 4503599627370496
  pub large : 524288 * (a + b + c) ≤ r.r1 + r.r2 + r.r3

-- and the kind is that of a side that holds the direction
pub record AreHeld (a b c : ℕ) (r : Roles) : Type 0 where
  pub roles : AreRoles a b c r
  pub n1 : NonNeg (role_of r.kind 1 a b c)
  pub n2 : NonNeg (role_of r.kind 2 a b c)
  pub n3 : NonNeg (role_of r.kind 3 a b c)

-- a side, and numbers near to the direction's determinants there
pub record IsSeated (d : Direction) (s : Seated) : Type 0 where
  pub scale : ℕ
  pub side_is : IsSide s.side
  pub fits : s.x1 + s.x2 ≤ s.sum
  pub near : AllNear (scaled_by (suc scale) (side_dets d s.side)) s.x1 s.x2 (s.sum - s.x1 - s.x2)
  pub small : s.sum < 4503599627370496
  pub some : 0 < s.sum

-- the share of x in s is less than one part away from g parts
pub record Within (g : ℕ) (s x : Golden) : Type 0 where
  pub some : NonNeg x
  pub above : NonNeg (times g s -φ s -φ times 16777216 x) → ⊥
  pub below : NonNeg (times 16777216 x -φ (times g s +φ s)) → ⊥

-- x and s by numbers near to them, of which one is divided by the other
pub record Measured (x s : Golden) (q : Quotient) (sum : ℕ) : Type 0 where
  pub some : NonNeg x
  pub number : ℕ
  pub near : Near 4 x number
  pub near_sum : Near 12 s sum
  pub divided : Division sum number q
  pub fits : number ≤ sum
  pub small : sum < 4503599627370496
  pub large : 2147483648 ≤ sum

-- each part of x, with the part of s, is at most b; and so for three determinants
pub record Beside (b : ℕ) (s x : Golden) : Type 0 where
  pub u_beside : nat_abs x.u + nat_abs s.u ≤ b
  pub v_beside : nat_abs x.v + nat_abs s.v ≤ b

pub record Bound (b : ℕ) (s : Golden) (D : Determinants) : Type 0 where
  pub b1 : Beside b s D.d1
  pub b2 : Beside b s D.d2
  pub b3 : Beside b s D.d3

-- three of anything in the order of the side's corners
abbrev pub seated_at : (k r1 r2 r3 : ℕ) → Seated
seated_at k x y z = record { side = side_at k; x1 = nth (first_at k) x y z; x2 = nth (second_at k) x y z; sum = x + y + z }

abbrev pub triple_at : (k x y z : ℕ) → Triple
triple_at k x y z = record { c1 = nth (first_at k) x y z; c2 = nth (second_at k) x y z; c3 = nth (third_at k) x y z }

abbrev pub floors_at : (k : ℕ) → Floors → Floors
floors_at k F = let t = triple_at k F.f1 F.f2 F.f3 in floors t.c1 t.c2 t.c3

abbrev pub gaps_at : (k : ℕ) → Gaps → Gaps
gaps_at k G = let t = triple_at k G.g1 G.g2 G.g3 in gaps t.c1 t.c2 t.c3

-- the words of degree n, in the side of a seat, that floors and gaps in the order of the roles come to
abbrev pub seat_words : (n k : ℕ) → Floors → Gaps → List ℕ
seat_words n k F G = each (word_of (side_at k) n) (paths n 16777216 (floors_at k F) (gaps_at k G) 0)
