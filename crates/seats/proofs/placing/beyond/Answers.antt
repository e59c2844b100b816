-- `seats::placing::beyond` meets its contract. Assumes nothing.
use mathlib.Core.Path.{refl}
use Rattle.seats.proofs.NearRoles.{beyond_near}
use Rattle.seats.proofs.placing.beyond.Goals as goal

pub returns : goal.returns
returns c =
    let a = c.args in
    let h = c.requires in
    let near = beyond_near a.a a.ta a.b a.tb a.c a.tc h.0 h.1 h.2 h.3 h.4 h.5 in
    (refl, rw h.6 (near a.kind (rw h.6 at h.7)))
