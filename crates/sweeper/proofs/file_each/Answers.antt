-- After i directions the list has what a sweep of them leaves (CountedParts). Assumes nothing.
use Rattle.std.proofs.Common.{subst, ◌+◌, ◌*◌, ◌<◌, List, length, length-take-le, add-one, arith}
use lib.IntN.{ℤ}
use lib.Seq.{take_all}
use Rattle.sweeps.specs.Means.Counted.{CountedInto}
use Rattle.sweeps.proofs.CountedParts.{counted_most, into_none, into_next}
use Rattle.sweeps.proofs.Told.{none_more, one_more}
use Rattle.sweeper.proofs.file_each.Goals as goal
use Rattle.sweeper.proofs.file_each.Goals.{in-Ok, in-Err}

pub loop-i-init : goal.loop-i-init
loop-i-init c = into_none c.args.dirs.now c.args.codes.now

pub overflow_add-refused : goal.overflow_add-refused
overflow_add-refused c =
    let g = c.well_formed.1.0 in
    omega (
      arith,
      g.0,
      g.1,
      counted_most c.loop-i.invariant.counted,
      length-take-le (3 * c.loop-i.i) c.args.dirs.now (omega arith),
    )

pub loop-i-preserved : goal.loop-i-preserved
loop-i-preserved c =
    let l = c.loop-i in
    let dirs = c.args.dirs.now in
    let inside : 3 * l.i + 2 < length dirs = omega (arith, c.requires.0) in
    elim c.match-file_at.branch [
      | in-Ok w ↦
          rw (add-one l.i, w.codes-is, w.refused-is)
          (rw (none_more l.refused) at (into_next l.i dirs _ inside c.requires.1 l.invariant w.in-Ok.ensures))
      | in-Err w ↦
          rw (add-one l.i, w.codes-is, w.refused-is)
          (rw (one_more l.refused w.in-Err.field-0) at (into_next l.i dirs _ inside c.requires.1 l.invariant w.in-Err.ensures))
    ]

pub returns : goal.returns
returns c =
    let l = c.loop-i in
    let dirs = c.args.dirs.now in
    subst (λ (d : List ℤ). CountedInto c.args.degree d c.args.codes.now l.refused l.codes)
    (take_all (3 * l.i) dirs (omega (arith, c.requires.0))) l.invariant
