-- The near numbers are divided, and what is clear stands so (FoundWords). Assumes nothing.
use Rattle.seats.proofs.FoundWords.{found_in}
use Rattle.holders.proofs.find.Goals as goal

pub divide_three-q-requires : goal.divide_three-q-requires
divide_three-q-requires c = let h = c.sit-t.ensures in (h.fits, h.some, h.small)

pub all_clear-requires : goal.all_clear-requires
all_clear-requires c =
    let v = c.divide_three-q.ensures in
    (v.1.e1.left, v.1.e2.left, v.1.e3.left, rw v.0 c.sit-t.ensures.small)

pub returns : goal.returns
returns c =
    found_in c.args.d c.sit-t.result c.divide_three-q.result c.sit-t.ensures c.divide_three-q.ensures.0
    c.divide_three-q.ensures.1 (c.all_clear.ensures.holds c.if-not-all_clear.false)
