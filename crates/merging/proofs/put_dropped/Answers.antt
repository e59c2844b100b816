-- What is written and what is left make the whole, in both lists (Written, Dropped). Assumes nothing.
use Rattle.std.proofs.Common.{◌≡◌, ◌<◌, length, arith}
use Rattle.merging.proofs.Written.{writing_none, writing_as, writing_room, writing_more, writing_all}
use Rattle.merging.proofs.Dropped.{dropped_most, stays, goes, none_left}
use Rattle.merging.proofs.put_dropped.Goals as goal
use Rattle.merging.proofs.put_dropped.Goals.{then-reason-ne0, else-reason-ne0}

pub loop-i-init : goal.loop-i-init
loop-i-init c = (writing_none _ 0 _, writing_none _ 0 _)

pub bounds-changed-c : goal.bounds-changed-c
bounds-changed-c c =
    let l = c.loop-i in
    let words = c.args.words.now in
    let why = c.args.why.now in
    let g = goes words why l.i (omega arith) (omega (arith, c.requires.0)) c.if-reason-ne0.true in
    writing_room l.invariant.0 (omega (arith, (dropped_most words why).0, c.requires.1)) g.0

pub bounds-reasons-c : goal.bounds-reasons-c
bounds-reasons-c c =
    let l = c.loop-i in
    let words = c.args.words.now in
    let why = c.args.why.now in
    let g = goes words why l.i (omega arith) (omega (arith, c.requires.0)) c.if-reason-ne0.true in
    writing_room l.invariant.1 (omega (arith, (dropped_most words why).1, c.requires.2)) g.1

pub loop-i-preserved : goal.loop-i-preserved
loop-i-preserved c =
    let l = c.loop-i in
    let words = c.args.words.now in
    let why = c.args.why.now in
    let t : l.i < length words = omega arith in
    let h : l.i < length why = omega (arith, c.requires.0) in
    let d = dropped_most words why in
    elim c.if-reason-ne0.branch [
      | then-reason-ne0 w ↦ let g = goes words why l.i t h w.if-reason-ne0.true in
          rw (w.changed-is, w.reasons-is, w.c-is) (
            writing_more l.invariant.0 (omega (arith, d.0, c.requires.1)) g.0,
            writing_more l.invariant.1 (omega (arith, d.1, c.requires.2)) g.1,
          )
      | else-reason-ne0 w ↦ let e = stays words why l.i t h w.if-reason-ne0.false in
          rw (w.changed-is, w.reasons-is, w.c-is) (writing_as l.invariant.0 _ e.0, writing_as l.invariant.1 _ e.1)
    ]

pub returns : goal.returns
returns c =
    let l = c.loop-i in
    let e : l.i ≡ length c.args.words.now = omega arith in
    let z = none_left c.args.words.now c.args.why.now l.i e in
    (writing_all l.invariant.0 z.0, writing_all l.invariant.1 z.1)
