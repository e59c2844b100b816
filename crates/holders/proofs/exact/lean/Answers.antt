-- `holders::exact::lean` meets its contract. Assumes nothing.
use native.Mathlib.Omega.{arith}
use Rattle.seats.proofs.ExactRoles.{lean_is, both_small, less_is}
use Rattle.holders.proofs.exact.lean.Goals as goal

pub sub-requires : goal.sub-requires
sub-requires c =
    let p = c.requires in
    both_small c.of_parts.ensures c.of_parts-2.ensures (omega (arith, p)) (omega (arith, p))

pub returns : goal.returns
returns c =
    let a = c.args in
    less_is c.of_parts.ensures c.of_parts-2.ensures c.sub.ensures
    (lean_is a.a a.b a.c)
