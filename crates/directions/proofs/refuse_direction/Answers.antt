-- The refusals 1, 8 and 7 in turn (Refused). Assumes nothing.
use mathlib.Core.Bool.{false}
use mathlib.Core.Path.{◌≡◌, refl, ap, ◌∙◌}
use native.Mathlib.Omega.{arith}
use lib.IntN.{nat_abs}
use mir.Syntax.{w32}
use mir.ValLaws.{to_z-of_z}
use borrow.Author.Tests.{lt-ltb, le-ltb}
use Rattle.directions.proofs.Refused.{far, refuse_by, far_x, far_y, far_z, not_far, is_none, not_none}
use Rattle.directions.proofs.refuse_direction.Goals as goal
use Rattle.directions.proofs.refuse_direction.Lts as lts
use Rattle.directions.proofs.refuse_direction.Reads as reads
use Rattle.directions.proofs.refuse_direction.Tie as tie

abbrev After-size-x : Type 0
After-size-x = lts.After-size tie.the-claims reads.Pre reads.Post

abbrev After-size-y : Type 0
After-size-y = lts.After-size2 tie.the-claims reads.Pre reads.Post

abbrev After-size-z : Type 0
After-size-z = lts.After-size3 tie.the-claims reads.Pre reads.Post

abbrev Else-z-gt1000000000 : Type 0
Else-z-gt1000000000 = lts.Else4 tie.the-claims reads.Pre reads.Post

-- the three sizes
x-size : (c : After-size-x) → c.size-x.result ≡ nat_abs c.args.d.x
x-size c = c.size-x.ensures ∙ ap nat_abs (to_z-of_z w32 c.args.d.x (record { sfits = c.struct_told-1.given.0.1 }))

y-size : (c : After-size-y) → c.size-y.result ≡ nat_abs c.args.d.y
y-size c = c.size-y.ensures ∙ ap nat_abs (to_z-of_z w32 c.args.d.y (record { sfits = c.struct_told-2-1.given.1.0.1 }))

z_size : (c : After-size-z) → c.size-z.result ≡ nat_abs c.args.d.z
z_size c = c.size-z.ensures ∙ ap nat_abs (to_z-of_z w32 c.args.d.z (record { sfits = c.struct_told-3-1.given.1.1.0.1 }))

pub returns-then-degree-gt24 : goal.returns-then-degree-gt24
returns-then-degree-gt24 c = refuse_by _ _ (lt-ltb _ _ c.if-degree-gt24.true) refl refl

pub returns-then-x-gt1000000000 : goal.returns-then-x-gt1000000000
returns-then-x-gt1000000000 c = refuse_by _ _ (le-ltb _ _ c.if-degree-gt24.false) (far_x c.args.d (omega (arith, x-size c.before.before.before.before.before.before, c.if-x-gt1000000000.true))) refl

pub returns-then-y-gt1000000000 : goal.returns-then-y-gt1000000000
returns-then-y-gt1000000000 c = refuse_by _ _ (le-ltb _ _ c.if-degree-gt24.false) (far_y c.args.d (omega (arith, y-size c.before.before.before.before.before, c.if-y-gt1000000000.true))) refl

pub returns-then-z-gt1000000000 : goal.returns-then-z-gt1000000000
returns-then-z-gt1000000000 c = refuse_by _ _ (le-ltb _ _ c.if-degree-gt24.false) (far_z c.args.d (omega (arith, z_size c.before.before.before.before, c.if-z-gt1000000000.true))) refl

-- no coordinate is too far, and the three sizes together
near : (c : Else-z-gt1000000000) → far c.args.d ≡ false
near c =
    not_far c.args.d (omega (arith, x-size c.before.before.before.before.before.before.before.before, c.if-x-gt1000000000.false)) (omega (arith, y-size c.before.before.before.before.before.before, c.if-y-gt1000000000.false))
    (omega (arith, z_size c.before.before.before.before, c.if-z-gt1000000000.false))

pub returns-then-x-y-eq0 : goal.returns-then-x-y-eq0
returns-then-x-y-eq0 c =
    refuse_by _ _ (le-ltb _ _ c.if-degree-gt24.false) (near c.before)
    (is_none c.args.d (omega (arith, x-size c.before.before.before.before.before.before.before.before.before, y-size c.before.before.before.before.before.before.before, z_size c.before.before.before.before.before, c.if-x-y-eq0.true)))

pub returns : goal.returns
returns c =
    let f = c.if-x-y-eq0.false in
    refuse_by _ _ (le-ltb _ _ c.if-degree-gt24.false) (near c.before)
    (not_none c.args.d (λ e. f (omega (arith, x-size c.before.before.before.before.before.before.before.before.before, y-size c.before.before.before.before.before.before.before, z_size c.before.before.before.before.before, e))))
