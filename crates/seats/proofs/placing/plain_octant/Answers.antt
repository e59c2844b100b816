-- The octant by the three signs, each read back from its field. Assumes nothing.
use mathlib.Core.Path.{◌≡◌, ap, ◌∙◌}
use Prim.Native.Nat.{◌+◌, ◌*◌}
use lib.IntN.{ℤ}
use mir.Syntax.{w32}
use mir.ValLaws.{to_z-of_z}
use Rattle.seats.specs.Means.Octants.{sign_at}
use Rattle.seats.proofs.placing.plain_octant.Goals as goal
use Rattle.seats.proofs.placing.plain_octant.Lts as lts
use Rattle.seats.proofs.placing.plain_octant.Reads as reads
use Rattle.seats.proofs.placing.plain_octant.Tie as tie

abbrev After-sign_of : Type 0
After-sign_of = lts.After-sign_of tie.the-claims reads.Pre reads.Post

abbrev After-sign_of-2 : Type 0
After-sign_of-2 = lts.After-sign_of2 tie.the-claims reads.Pre reads.Post

abbrev After-sign_of-3 : Type 0
After-sign_of-3 = lts.After-sign_of3 tie.the-claims reads.Pre reads.Post

x-sign : (c : After-sign_of) → c.sign_of.result ≡ sign_at c.args.d.x 0
x-sign c =
    c.sign_of.ensures.0
    ∙ ap (λ (z : ℤ). sign_at z 0) (to_z-of_z w32 c.args.d.x (record {
      sfits = c.struct_told-1.given.0.1;
    }))

y-sign : (c : After-sign_of-2) → c.sign_of-2.result ≡ sign_at c.args.d.y 0
y-sign c =
    c.sign_of-2.ensures.0
    ∙ ap (λ (z : ℤ). sign_at z 0) (to_z-of_z w32 c.args.d.y (record {
      sfits = c.struct_told-2-1.given.1.0.1;
    }))

z-sign : (c : After-sign_of-3) → c.sign_of-3.result ≡ sign_at c.args.d.z 0
z-sign c =
    c.sign_of-3.ensures.0
    ∙ ap (λ (z : ℤ). sign_at z 0)
    (to_z-of_z w32 c.args.d.z (record {
      sfits = c.struct_told-3-1.given.1.1.0.1;
    }))

pub returns : goal.returns
returns c =
    (c.octant_of.ensures.0 ∙ (λ i. x-sign c.before.before.before.before.before i + 2 * y-sign c.before.before.before i + 4 * z-sign c.before i), c.octant_of.ensures.1)
