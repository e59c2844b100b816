-- The near numbers of the roles, in the seat of the signs (Seating). Assumes nothing.
use Rattle.seats.proofs.Seating.{seated}
use Rattle.seats.proofs.placing.sit.Goals as goal

pub sizes_of-n-requires : goal.sizes_of-n-requires
sizes_of-n-requires c = c.requires.0

pub by_sizes-r-requires : goal.by_sizes-r-requires
by_sizes-r-requires c = let s = c.sizes_of-n.ensures in (s.a_small, s.b_small, s.c_small)

pub in_order-requires : goal.in_order-requires
in_order-requires c = let r = c.by_sizes-r.ensures in (c.plain_octant.ensures.1, r.kind_small, r.small)

pub returns : goal.returns
returns c =
    rw (c.in_order.ensures, c.plain_octant.ensures.0)
    (seated c.args.d c.requires.1 c.sizes_of-n.result c.sizes_of-n.ensures c.by_sizes-r.result c.by_sizes-r.ensures)
