-- What is found of a direction. What the code is proved by, and no promise. Assumes nothing.
use Rattle.std.specs.Prelude.{◌≡◌, ℕ, ◌+◌, ◌*◌, ◌<◌, [], ◌∷◌, nat_abs}
use Rattle.words.specs.Family.{code_of}
use Rattle.net.specs.Sides.{IsSide}
use Rattle.filing.specs.Filing.{IsFiled}
use Rattle.filing.specs.Means.Lists.{all_words}
use Rattle.filing.specs.Means.Sides.{side_dets}
use Rattle.filing.specs.declared.Determinants.{Determinants}
use Rattle.filing.specs.declared.Direction.{Direction}
use Rattle.shares.specs.declared.Floors.{Floors}
use Rattle.shares.specs.declared.Gaps.{Gaps}
use Rattle.shares.specs.Means.Shares.{Stands, strict}
use Rattle.seats.specs.declared.Found.{Found}
use Rattle.seats.specs.declared.Stand.{Stand}
use Rattle.seats.specs.Means.Octants.{roles_of, first_x, first_y, first_z}

-- not (0, 0, 0)
abbrev pub IsSome : Direction → Type 0
IsSome d = nat_abs d.x + nat_abs d.y + nat_abs d.z ≡ 0 → ⊥

-- the shares of some three determinants
abbrev pub AreShares : Floors → Gaps → Type 0
AreShares F G = (D : Determinants) × Stands 16777216 F G D

-- a side, and where the direction stands strictly inside it
pub record FoundIn (d : Direction) (r : Found) : Type 0 where
  pub side_is : IsSide r.side
  pub stands : Stands 16777216 r.floors strict (side_dets d r.side)

-- the octant and kind of the least side that holds the direction, and where it stands there, in the order of the roles
pub record StandsAt (d : Direction) (r : Stand) : Type 0 where
  pub octant_is : r.octant ≡ first_x d + 2 * first_y d + 4 * first_z d
  pub kind_small : r.kind < 4
  pub stands : Stands 16777216 r.floors r.gaps (roles_of r.kind (nat_abs d.x) (nat_abs d.y) (nat_abs d.z))

-- the one word of the degree whose triangle holds the direction
pub record OneWord (n : ℕ) (d : Direction) (w : ℕ) : Type 0 where
  pub filed : IsFiled n d (code_of w)
  pub alone : all_words d n 4 ≡ w ∷ []
