-- By halves: what two parts leave is what the whole does (CountedParts). Assumes nothing.
use Rattle.std.proofs.Common.{◌≡◌, ◌-◌, ◌*◌, ◌/◌, ◌^◌, ◌<◌, length, take, drop, length-take-le, length-drop, arith}
use lib.ListN.{length-take}
use Rattle.sweeps.proofs.CountedParts.{counted_most, two_slices}
use Rattle.sweeper.proofs.+file_halves.Goals as goal

pub overflow_add-result : goal.overflow_add-result
overflow_add-result t c =
    let dirs = c.args.dirs.now in
    let h = length dirs / 3 / 2 in
    let l1 = length-take-le (3 * h) dirs (omega arith) in
    let l2 : length (take (length dirs - 3 * h) (drop (3 * h) dirs)) ≡ length dirs - 3 * h =
    simp (length-take, length-drop) (omega arith) in
    let w1 = counted_most c.file_halves-a.ensures.counted in
    let w2 = counted_most c.file_halves-b.ensures.counted in
    let g : length dirs < 2 ^ 64 = c.well_formed.1.0.0 in
    omega arith

pub returns : goal.returns
returns t c =
    let dirs = c.args.dirs.now in
    two_slices (length dirs / 3 / 2) dirs (omega arith) c.file_halves-a.ensures c.file_halves-b.ensures
