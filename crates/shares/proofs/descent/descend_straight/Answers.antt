-- Into a corner at once (CornerPaths), and otherwise digit by digit. Assumes nothing.
use mathlib.Core.Path.{◌≡◌, sym, ◌∙◌}
use Prim.Native.Nat.{ℕ, ◌+◌, ◌-◌, ◌*◌, ◌/◌, ◌^◌}
use native.Mathlib.Omega.{arith}
use Rattle.net.specs.Sides.{OneToThree}
use Rattle.shares.specs.Means.Paths.{least_path}
use Rattle.shares.specs.Means.WalkWords.{floor_at}
use Rattle.shares.proofs.Choosing.{corner_1, corner_2, corner_3}
use Rattle.shares.proofs.CornerPaths.{corner_path}
use Rattle.shares.proofs.descent.descend_straight.Goals as goal
use Rattle.shares.proofs.descent.descend_straight.Goals.{Start}

at_corner :
    (c : Start) (d r : ℕ)
    → OneToThree d
    → floor_at d c.args.f ≡ c.args.p
    → r ≡ 2 ^ (2 * c.args.n) * c.args.v + d * ((2 ^ (2 * c.args.n) - 1) / 3)
    → r ≡ least_path c.args.n c.args.p c.args.f c.args.g c.args.v
at_corner c d r o t q =
    let a = c.args in
    let e = c.requires.5.1 in
    rw e (q ∙ sym (corner_path a.g c.requires.3 a.n c.requires.5.0 d a.f a.v o (rw e at c.requires.6) (t ∙ e)))

pub into_corner-requires : goal.into_corner-requires
into_corner-requires c = let p = c.requires in (p.0, omega arith, p.4)

pub returns-then-f-p : goal.returns-then-f-p
returns-then-f-p c = at_corner (goal.at.returns-then-f-p c).Start 1 _ corner_1 c.if-f-p.true c.into_corner.ensures

pub into_corner-requires-then-f-p-2 : goal.into_corner-requires-then-f-p-2
into_corner-requires-then-f-p-2 c = let p = c.requires in (p.0, omega arith, p.4)

pub returns-then-f-p-2 : goal.returns-then-f-p-2
returns-then-f-p-2 c = at_corner (goal.at.returns-then-f-p-2 c).Start 2 _ corner_2 c.if-f-p-2.true c.into_corner-then-f-p-2.ensures

pub into_corner-requires-then-f-p-3 : goal.into_corner-requires-then-f-p-3
into_corner-requires-then-f-p-3 c = let p = c.requires in (p.0, omega arith, p.4)

pub returns-then-f-p-3 : goal.returns-then-f-p-3
returns-then-f-p-3 c =
    at_corner (goal.at.returns-then-f-p-3 c).Start 3 _ corner_3 c.if-f-p-3.true c.into_corner-then-f-p-3.ensures

pub descend-requires : goal.descend-requires
descend-requires c =
    let p = c.requires in
    (p.0, p.1, p.2.0, p.2.1, p.2.2, p.3.0, p.3.1, p.3.2, p.4)

pub returns : goal.returns
returns c = c.descend.ensures
