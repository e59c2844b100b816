-- The walk from where the direction stands, in the order of the side's corners. Assumes nothing.
use native.Mathlib.Omega.{arith}
use Rattle.shares.proofs.FairShares.{fair_stands}
use Rattle.shares.proofs.Standing.{stands_floors, stands_gaps}
use Rattle.holders.proofs.list_side.Goals as goal

pub list_in-requires : goal.list_in-requires
list_in-requires c =
    let p = c.requires in
    let i = p.5.1 in
    rw (c.side_at.ensures, c.gaps_at.ensures, c.floors_at.ensures) (
      p.3,
      p.0,
      stands_floors 16777216 _ _ _ i (omega arith),
      stands_gaps 16777216 _ _ _ i,
      fair_stands 16777216 _ _ _ i,
      p.6,
    )

pub returns : goal.returns
returns c =
    rw (c.side_at.ensures, c.gaps_at.ensures, c.floors_at.ensures) at c.list_in.ensures
