-- `shares::weaving::descend` meets its contract; the measure is the degree that remains. Assumes nothing.
use Prim.Native.Nat.{ℕ, ◌<◌}
use native.Mathlib.Omega.{arith}
use lib.Pow.{pow_pos}
use Rattle.shares.proofs.Spreading.{top_small, rest_small, path_less, path_next, parts_path}
use Rattle.shares.proofs.weaving.+descend.Goals as goal
use Rattle.shares.proofs.weaving.+descend.Lts-descend as lts
use Rattle.shares.proofs.weaving.descend.Reads as descend
use Rattle.shares.proofs.weaving.last_part.Reads as last_part_reads
use Rattle.shares.proofs.weaving.next_part.Reads as next_part_reads
use Rattle.words.proofs.power.Reads as power_reads

abbrev calls : ℕ → lts.Claims
calls t = (
  last_part_reads.Asked,
  last_part_reads.Learnt,
  power_reads.Asked,
  power_reads.Learnt,
  next_part_reads.Asked,
  next_part_reads.Learnt,
  goal.descend-below t,
  descend.Post,
)

pub last_part-requires : goal.last_part-requires
last_part-requires t c = let h = c.requires in (c.if-n-le8.true, h.1, h.2, h.3)

pub returns-then-n-le8 : goal.returns-then-n-le8
returns-then-n-le8 t c = c.last_part.ensures

pub overflow_sub-n : goal.overflow_sub-n
overflow_sub-n t c = omega (arith, c.if-n-le8.false)

pub power-part-requires : goal.power-part-requires
power-part-requires t c = omega (arith, c.requires.0)

pub overflow_sub-n-2 : goal.overflow_sub-n-2
overflow_sub-n-2 t c = omega (arith, c.if-n-le8.false)

pub nonzero_rem-low : goal.nonzero_rem-low
nonzero_rem-low t c = rw c.power-part.ensures (pow_pos _)

pub nonzero_rem-high : goal.nonzero_rem-high
nonzero_rem-high t c = rw c.power-part.ensures (pow_pos _)

pub nonzero_div-low : goal.nonzero_div-low
nonzero_div-low t c = rw c.power-part.ensures (pow_pos _)

pub nonzero_div-high : goal.nonzero_div-high
nonzero_div-high t c = rw c.power-part.ensures (pow_pos _)

pub next_part-requires : goal.next_part-requires
next_part-requires t c =
    let a = c.args in
    let h = c.requires in
    let l : 8 < a.n = omega (arith, c.if-n-le8.false) in
    let low = top_small a.n l a.low h.1 in
    let high = top_small a.n l a.high h.2 in
    rw c.power-part.ensures (low, high, path_less a.n l a.v h.0 h.3)

pub descend-requires : goal.descend-requires
descend-requires t c =
    let a = c.args in
    let h = c.requires in
    let l : 8 < a.n = omega (arith, c.if-n-le8.false) in
    let low = top_small a.n l a.low h.1 in
    let high = top_small a.n l a.high h.2 in
    rw (c.next_part.ensures, c.power-part.ensures) (
      omega (arith, c.decreases),
      (
        omega (arith, h.0),
        rest_small a.n l a.low,
        rest_small a.n l a.high,
        path_next a.n l a.v _ _ h.0 h.3 low high,
      ),
    )

pub returns : goal.returns
returns t c =
    let a = c.args in
    let l : 8 < a.n = omega (arith, c.if-n-le8.false) in
    let p = c.power-part.ensures in
    rw (c.descend.ensures, c.next_part.ensures, p) (parts_path a.n l a.v a.low a.high)
