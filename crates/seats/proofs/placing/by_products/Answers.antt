-- `seats::placing::by_products` meets its contract. Assumes nothing.
use Rattle.seats.proofs.NearRoles.{roles_beyond, turned_1, turned_2, turned_3, middle_near}
use Rattle.seats.proofs.placing.by_products.Goals as goal

pub returns-then-p-ta : goal.returns-then-p-ta
returns-then-p-ta c =
    let a = c.args in
    let h = c.beyond.ensures in
    roles_beyond (turned_1 a.a a.b a.c) c.beyond.result h.0 h.1

pub returns-then-q-tb : goal.returns-then-q-tb
returns-then-q-tb c =
    let a = c.args in
    let h = c.beyond-then-q-tb.ensures in
    roles_beyond (turned_2 a.a a.b a.c) c.beyond-then-q-tb.result h.0 h.1

pub returns-then-r-tc : goal.returns-then-r-tc
returns-then-r-tc c =
    let a = c.args in
    let h = c.beyond-then-r-tc.ensures in
    roles_beyond (turned_3 a.a a.b a.c) c.beyond-then-r-tc.result h.0 h.1

pub returns : goal.returns
returns c =
    let a = c.args in
    let h = c.requires in
    let p = c.leaning-p.ensures in
    let q = c.leaning-q.ensures in
    let r = c.leaning-r.ensures in
    rw (p, q, r) (middle_near a.a a.ta a.b a.tb a.c a.tc h.0 h.1 h.2 h.3 h.4 h.5
    (rw p at c.if-p-ta.false)
    (rw q at c.if-q-tb.false)
    (rw r at c.if-r-tc.false))
