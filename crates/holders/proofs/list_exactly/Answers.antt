-- The words of the least side, and where the direction lies on its edge those of the other (ExactWords). Assumes
-- nothing.
use native.Mathlib.Omega.{arith}
use Rattle.filing.proofs.HolderLists.{room_rest, puts_both}
use Rattle.seats.proofs.ExactWords.{octant_below, here_is, here_ordered, here_at, role_floors, role_gaps}
use Rattle.seats.proofs.ExactWords.{there_below, there_is, there_ordered, there_at, all_here, all_both}
use Rattle.seats.proofs.ExactWords.{room_here}
use Rattle.holders.proofs.list_exactly.Goals as goal

pub stand_of-t-requires : goal.stand_of-t-requires
stand_of-t-requires c = let p = c.requires in (p.1, p.2)

pub list_side-m-requires : goal.list_side-m-requires
list_side-m-requires c =
    let d = c.args.d in
    let some = c.requires.2 in
    let r = c.stand_of-t.result in
    let h = c.stand_of-t.ensures in (
      c.requires.0,
      octant_below d some r h,
      h.kind_small,
      (here_is d some r h).1,
      here_ordered d some r h,
      (
        _,
        here_at d
            some r h,
      ),
      room_here d some r h c.args.degree c.args.out.now c.requires.0 c.requires.3,
    )

pub overflow_add-f : goal.overflow_add-f
overflow_add-f c =
    let r = c.stand_of-t.result in
    let h = c.stand_of-t.ensures in
    record {
      fits = omega (
        arith,
        (role_floors c.args.d c.requires.2 r h).2,
        (role_gaps c.args.d c.requires.2 r h
            ).2,
      );
    }

pub list_side-requires : goal.list_side-requires
list_side-requires c =
    let d = c.args.d in
    let some = c.requires.2 in
    let r = c.stand_of-t.result in
    let h = c.stand_of-t.ensures in
    let z = c.if-f-g-eq0.true in
    rw c.other_octant.ensures (
      c.requires.0,
      there_below d some r h z,
      h.kind_small,
      (there_is d some r h z).1,
      there_ordered d some r h z,
      (_, there_at d some r h z),
      room_rest 0 _ _ _ c.args.out.now (all_both d some r h z c.args.degree c.requires.0) c.requires.3 c.list_side-m.ensures,
    )

pub returns-then-f-g-eq0 : goal.returns-then-f-g-eq0
returns-then-f-g-eq0 c =
    let d = c.args.d in
    let some = c.requires.2 in
    let r = c.stand_of-t.result in
    let h = c.stand_of-t.ensures in
    puts_both 0 _ _ _ c.args.out.now (all_both d some r h c.if-f-g-eq0.true c.args.degree c.requires.0) c.requires.3 c.list_side-m.ensures
    (rw c.other_octant.ensures at c.list_side.ensures)

pub returns : goal.returns
returns c =
    rw (all_here c.args.d c.requires.2 c.stand_of-t.result c.stand_of-t.ensures c.args.degree c.requires.0
    c.if-f-g-eq0.false) c.list_side-m.ensures
