-- `merging::in_row` meets its contract: a case law at each return (Rows). Assumes nothing.
use native.Mathlib.Omega.{arith}
use Rattle.merging.proofs.Rows.{unit_some, unit_most, not_degree, not_first, not_second, not_third, as_fourth}
use Rattle.merging.proofs.in_row.Goals as goal

pub returns-then-a-d : goal.returns-then-a-d
returns-then-a-d c = not_degree c.args.d c.args.a _ _ _ c.requires.0 c.if-a-d.true

pub overflow_mul-unit : goal.overflow_mul-unit
overflow_mul-unit c = omega (arith, unit_most c.args.d)

pub nonzero_rem-a-2 : goal.nonzero_rem-a-2
nonzero_rem-a-2 c = omega (arith, unit_some c.args.d)

pub returns-then-a-unit : goal.returns-then-a-unit
returns-then-a-unit c =
    not_first c.args.d c.args.a _ _ _ c.power-unit.result c.power-unit.ensures c.if-a-unit.true

pub overflow_add-a : goal.overflow_add-a
overflow_add-a c = omega (arith, unit_most c.args.d)

pub returns-then-b-a : goal.returns-then-b-a
returns-then-b-a c =
    not_second c.args.d c.args.a c.args.b _ _ c.power-unit.result c.power-unit.ensures c.if-a-unit.false
    c.if-b-a.true

pub overflow_mul-unit-2 : goal.overflow_mul-unit-2
overflow_mul-unit-2 c = omega (arith, unit_most c.args.d)

pub overflow_add-a-2 : goal.overflow_add-a-2
overflow_add-a-2 c = omega (arith, unit_most c.args.d)

pub returns-then-c-a : goal.returns-then-c-a
returns-then-c-a c =
    not_third c.args.d c.args.a c.args.b c.args.c _ c.power-unit.result c.power-unit.ensures
    c.if-a-unit.false c.if-b-a.false c.if-c-a.true

pub overflow_mul-result : goal.overflow_mul-result
overflow_mul-result c = omega (arith, unit_most c.args.d)

pub overflow_add-result : goal.overflow_add-result
overflow_add-result c = omega (arith, unit_most c.args.d)

pub returns : goal.returns
returns c =
    as_fourth c.args.d c.args.a c.args.b c.args.c c.args.e c.power-unit.result c.power-unit.ensures
    c.if-a-unit.false c.if-b-a.false c.if-c-a.false
