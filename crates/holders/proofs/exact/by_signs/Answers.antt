-- `holders::exact::by_signs` meets its contract. Assumes nothing.
use Rattle.seats.proofs.NearRoles.{held_beyond, turned_1, turned_2, turned_3, middle_exact}
use Rattle.holders.proofs.exact.by_signs.Goals as goal

pub cut_beyond-requires : goal.cut_beyond-requires
cut_beyond-requires c =
    let h = c.requires in
    (h.0, h.1, h.2, h.3, h.4, h.5, c.is_beyond.ensures.0 c.if-is_beyond.true)

pub returns-then-is_beyond : goal.returns-then-is_beyond
returns-then-is_beyond c =
    let a = c.args in
    let h = c.cut_beyond.ensures in
    held_beyond (turned_1 a.a a.b a.c) c.cut_beyond.result h.0 h.1
    (c.is_beyond.ensures.0 c.if-is_beyond.true)

pub cut_beyond-requires-then-is_beyond-2 : goal.cut_beyond-requires-then-is_beyond-2
cut_beyond-requires-then-is_beyond-2 c =
    let h = c.requires in
    (h.1, h.2, h.0, h.4, h.5, h.3, c.is_beyond-2.ensures.0 c.if-is_beyond-2.true)

pub returns-then-is_beyond-2 : goal.returns-then-is_beyond-2
returns-then-is_beyond-2 c =
    let a = c.args in
    let h = c.cut_beyond-then-is_beyond-2.ensures in
    held_beyond (turned_2 a.a a.b a.c) c.cut_beyond-then-is_beyond-2.result h.0 h.1
    (c.is_beyond-2.ensures.0 c.if-is_beyond-2.true)

pub cut_beyond-requires-then-is_beyond-3 : goal.cut_beyond-requires-then-is_beyond-3
cut_beyond-requires-then-is_beyond-3 c =
    let h = c.requires in
    (h.2, h.0, h.1, h.5, h.3, h.4, c.is_beyond-3.ensures.0 c.if-is_beyond-3.true)

pub returns-then-is_beyond-3 : goal.returns-then-is_beyond-3
returns-then-is_beyond-3 c =
    let a = c.args in
    let h = c.cut_beyond-then-is_beyond-3.ensures in
    held_beyond (turned_3 a.a a.b a.c) c.cut_beyond-then-is_beyond-3.result h.0 h.1
    (c.is_beyond-3.ensures.0 c.if-is_beyond-3.true)

pub returns : goal.returns
returns c =
    let a = c.args in
    let h = c.requires in
    rw (
      c.cut-3.ensures,
      c.leaning-3.ensures,
      c.cut-2.ensures,
      c.leaning-2.ensures,
      c.cut.ensures,
      c.leaning.ensures,
    )
    (middle_exact a.a a.ta a.b a.tb a.c a.tc h.0 h.1 h.2 h.3 h.4 h.5
    (c.is_beyond.ensures.1 c.if-is_beyond.false)
    (c.is_beyond-2.ensures.1 c.if-is_beyond-2.false)
    (c.is_beyond-3.ensures.1 c.if-is_beyond-3.false))
