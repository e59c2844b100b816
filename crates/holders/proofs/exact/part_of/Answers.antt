-- `holders::exact::part_of` meets its contract, by the rest. Assumes nothing.
use native.Mathlib.Omega.{arith}
use Rattle.seats.proofs.Margins.{measured_whole, measured_next, measured_clear, measured_low, measured_high}
use Rattle.holders.proofs.exact.part_of.Goals as goal

pub returns-then-is_clear : goal.returns-then-is_clear
returns-then-is_clear c =
    let a = c.args in
    measured_clear a.x a.s a.q a.sum c.requires.1 (c.is_clear.ensures.holds c.if-is_clear.true)

pub part_at-requires : goal.part_at-requires
part_at-requires c =
    let a = c.args in
    let m = c.requires.1 in (
      measured_whole a.x a.s a.q a.sum m,
      c.requires.0,
      measured_low a.x a.s a.q a.sum m c.if-rest-lt-MARGIN.true,
    )

pub overflow_add-f : goal.overflow_add-f
overflow_add-f c =
    let a = c.args in
    record { fits = omega (arith, measured_next a.x a.s a.q a.sum c.requires.1 c.if-rest-lt-MARGIN.false) }

pub part_at-requires-2 : goal.part_at-requires-2
part_at-requires-2 c =
    let a = c.args in
    let m = c.requires.1 in (
      measured_next a.x a.s a.q a.sum m c.if-rest-lt-MARGIN.false,
      c.requires.0,
      measured_high a.x a.s a.q a.sum m c.if-rest-lt-MARGIN.false,
    )
