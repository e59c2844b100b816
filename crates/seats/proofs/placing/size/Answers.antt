-- `seats::placing::size` meets its contract: a number of 32 bits is one of 64, and golden's `magnitude` is its size.
-- Assumes nothing.
use mathlib.Core.Path.{◌∙◌, ap}
use native.Mathlib.Omega.{arith}
use lib.IntN.{nat_abs}
use Rattle.filing.proofs.Widths.{small_32, wide_fits, wide_is}
use Rattle.seats.proofs.placing.size.Goals as goal

pub overflow_cast-c : goal.overflow_cast-c
overflow_cast-c c = wide_fits c.args.c c.ranges.c

pub magnitude-requires : goal.magnitude-requires
magnitude-requires c =
    rw (wide_is c.args.c c.ranges.c) (omega (arith, small_32 c.args.c c.ranges.c))

pub returns : goal.returns
returns c = c.magnitude.ensures ∙ ap nat_abs (wide_is c.args.c c.ranges.c)
