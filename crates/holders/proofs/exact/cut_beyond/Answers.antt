-- `holders::exact::cut_beyond` meets its contract. Assumes nothing.
use mathlib.Core.Path.{refl}
use Rattle.seats.proofs.NearRoles.{beyond_exact}
use Rattle.holders.proofs.exact.cut_beyond.Goals as goal

pub returns : goal.returns
returns c =
    let a = c.args in
    let h = c.requires in
    let near = beyond_exact a.a a.ta a.b a.tb a.c a.tc h.0 h.1 h.2 h.3 h.4 h.5 in (
      refl,
      rw (c.cut-2.ensures, c.leaning.ensures, c.cut.ensures) (near a.kind h.6),
    )
