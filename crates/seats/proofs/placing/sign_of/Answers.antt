-- `seats::placing::sign_of` meets its contract. Assumes nothing.
use mathlib.Core.Path.{◌≡◌, ap}
use mathlib.Core.Bool.{false}
use native.Mathlib.Omega.{arith}
use lib.IntN.{pos}
use lib.Signed.{lt_z}
use mir.Facts.{to_z-of_z}
use mir.Syntax.{w32}
use mir.Val.{of_z}
use Rattle.seats.proofs.ChosenSigns.{sign_below, sign_zero, sign_above, bits_zero}
use Rattle.seats.proofs.placing.sign_of.Goals as goal

pub returns-then-c-lt0 : goal.returns-then-c-lt0
returns-then-c-lt0 c =
    let a = c.args in
    (sign_below a.c a.chosen (rw (to_z-of_z c.ranges.c) at c.if-c-lt0.true), omega arith)

pub returns-then-c-eq0 : goal.returns-then-c-eq0
returns-then-c-eq0 c =
    let a = c.args in
    let z = bits_zero a.c c.ranges.c c.if-c-eq0.true in
    (sign_zero a.c a.chosen z, c.requires)

pub returns : goal.returns
returns c =
    let a = c.args in
    let n : lt_z a.c (pos 0) ≡ false = rw (to_z-of_z c.ranges.c) at c.if-c-lt0.false in
    (sign_above a.c a.chosen n (λ e. c.if-c-eq0.false (ap (of_z w32) e)), omega arith)
