-- `holders::exact::many` meets its contract, part by part. Assumes nothing.
use mathlib.Core.Path.{◌≡◌, sym, ◌∙◌}
use Prim.Native.Nat.{ℕ, ◌≤◌}
use native.Mathlib.Omega.{arith}
use lib.IntN.{ℤ, pos, nat_abs, ◌*ℤ◌}
use Rattle.golden.proofs.GoldenRing.{φ_path, scale}
use Rattle.golden.proofs.Machine.{again, again_is, again_of}
use Rattle.seats.proofs.ExactParts.{product_small}
use Rattle.holders.proofs.exact.many.Goals as goal
use Rattle.holders.proofs.exact.many.Lts as lts
use Rattle.holders.proofs.exact.many.Reads as reads
use Rattle.holders.proofs.exact.many.Tie as tie

abbrev Start : Type 0
Start = lts.Start tie.the-claims reads.Pre reads.Post

part :
    (f : ℕ) (x : ℤ) {r : ℤ} → f ≤ 16777217 → nat_abs x ≤ 8000000000 → r ≡ pos f *ℤ again x
    → again r ≡ pos f *ℤ x
part f x l h e = again_of (rw (again_is x (omega arith)) at e) (omega (arith, product_small f x l h))

u-most : (c : Start) → nat_abs c.args.x.u ≤ 8000000000
u-most c = omega (arith, c.requires.1.u_below)

v-most : (c : Start) → nat_abs c.args.x.v ≤ 8000000000
v-most c = omega (arith, c.requires.1.v_below)

pub multiple-requires : goal.multiple-requires
multiple-requires c =
    rw (again_is c.args.x.u (omega (arith, u-most c.before.before))) (c.requires.0, u-most c.before.before)

pub multiple-requires-2 : goal.multiple-requires-2
multiple-requires-2 c =
    rw (again_is c.args.x.v (omega (arith, v-most c.before.before.before.before))) (c.requires.0, v-most c.before.before.before.before)

pub returns : goal.returns
returns c =
    let f = c.args.f in
    let x = c.args.x in
    φ_path
    (part f x.u c.requires.0 (u-most c.before.before.before.before) c.multiple.ensures)
    (part f x.v c.requires.0 (v-most c.before.before.before.before) c.multiple-2.ensures)
    ∙ sym (scale (pos f) x)
