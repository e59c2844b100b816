-- `holders::exact::determinants_of` meets its contract, kind by kind. Assumes nothing.
use Rattle.seats.proofs.ExactRoles.{middle_is, roles_at, roles_rest}
use Rattle.holders.proofs.exact.determinants_of.Goals as goal

pub returns-in-0 : goal.returns-in-0
returns-in-0 c =
    let a = c.args in
    middle_is a.kind a.a a.b a.c _ _ _ c.in-0.is
    c.lean.ensures c.lean-in-0.ensures c.lean-in-0-2.ensures

pub returns-in-1 : goal.returns-in-1
returns-in-1 c =
    let a = c.args in
    roles_at a.kind 1 a.a a.b a.c _ c.in-1.is c.determinants_beyond.ensures

pub returns-in-2 : goal.returns-in-2
returns-in-2 c =
    let a = c.args in
    roles_at a.kind 2 a.a a.b a.c _ c.in-2.is c.determinants_beyond-in-2.ensures

pub returns-in_default : goal.returns-in_default
returns-in_default c =
    let a = c.args in
    roles_rest a.kind a.a a.b a.c _ c.in_default.in_default-own.rest.0.0.1 c.in_default.in_default-own.rest.0.1 c.in_default.in_default-own.rest.1 c.determinants_beyond-in_default.ensures
