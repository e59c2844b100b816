-- The octant by the three signs, each read back from its field, and the sign of 0 chosen by the sign before it.
-- Assumes nothing.
use mathlib.Core.Path.{◌≡◌, ap, ◌∙◌}
use Prim.Native.Nat.{ℕ, ◌+◌, ◌-◌, ◌*◌}
use lib.IntN.{ℤ}
use mir.Syntax.{w32}
use mir.ValLaws.{to_z-of_z}
use Rattle.seats.specs.Means.Octants.{sign_at, first_x, first_y, first_z}
use Rattle.holders.proofs.exact.first_octant.Goals as goal
use Rattle.holders.proofs.exact.first_octant.Lts as lts
use Rattle.holders.proofs.exact.first_octant.Reads as reads
use Rattle.holders.proofs.exact.first_octant.Tie as tie

abbrev After-sign_of-x : Type 0
After-sign_of-x = lts.After-sign_of tie.the-claims reads.Pre reads.Post

abbrev After-sign_of-y : Type 0
After-sign_of-y = lts.After-sign_of2 tie.the-claims reads.Pre reads.Post

abbrev After-sign_of-z : Type 0
After-sign_of-z = lts.After-sign_of3 tie.the-claims reads.Pre reads.Post

x-sign : (c : After-sign_of-x) → c.sign_of-x.result ≡ first_x c.args.d
x-sign c =
    c.sign_of-x.ensures.0
    ∙ ap (λ (z : ℤ). sign_at z 0) (to_z-of_z w32 c.args.d.x (record {
      sfits = c.struct_told-1.given.0.1;
    }))

y-sign : (c : After-sign_of-y) → c.sign_of-y.result ≡ first_y c.args.d
y-sign c =
    c.sign_of-y.ensures.0
    ∙ ap (λ (z : ℤ). sign_at z (1 - c.sign_of-x.result))
    (to_z-of_z w32 c.args.d.y (record {
      sfits = c.struct_told-2-1.given.1.0.1;
    }))
    ∙ ap (λ (x : ℕ). sign_at c.args.d.y (1 - x)) (x-sign c.before.before)

z-sign : (c : After-sign_of-z) → c.sign_of-z.result ≡ first_z c.args.d
z-sign c =
    c.sign_of-z.ensures.0
    ∙ ap (λ (z : ℤ). sign_at z c.sign_of-y.result)
    (to_z-of_z w32 c.args.d.z (record {
      sfits = c.struct_told-3-1.given.1.1.0.1;
    }))
    ∙ ap (sign_at c.args.d.z) (y-sign c.before.before)

pub returns : goal.returns
returns c =
    c.octant_of.ensures.0 ∙ (λ i. x-sign c.before.before.before.before.before i + 2 * y-sign c.before.before.before i + 4 * z-sign c.before i)
