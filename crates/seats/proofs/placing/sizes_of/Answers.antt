-- `seats::placing::sizes_of` meets its contract. Assumes nothing.
use mathlib.Core.Path.{◌≡◌, ap, ◌∙◌}
use Prim.Native.Nat.{ℕ}
use lib.IntN.{ℤ, nat_abs}
use mir.Syntax.{w32}
use mir.Val.{SFits, to_z, of_z}
use mir.ValLaws.{to_z-of_z}
use Rattle.seats.proofs.placing.sizes_of.Goals as goal
use Rattle.seats.proofs.placing.sizes_of.Lts as lts
use Rattle.seats.proofs.placing.sizes_of.Reads as reads
use Rattle.seats.proofs.placing.sizes_of.Tie as tie

abbrev After-size : Type 0
After-size = lts.After-size tie.the-claims reads.Pre reads.Post

abbrev After-size-2 : Type 0
After-size-2 = lts.After-size2 tie.the-claims reads.Pre reads.Post

abbrev After-size-3 : Type 0
After-size-3 = lts.After-size3 tie.the-claims reads.Pre reads.Post

-- the three sizes
size_is : {r : ℕ} (x : ℤ) → r ≡ nat_abs (to_z w32 (of_z w32 x)) → SFits w32 x → r ≡ nat_abs x
size_is x e h = e ∙ ap nat_abs (to_z-of_z w32 x h)

x-size : (c : After-size) → c.size.result ≡ nat_abs c.args.d.x
x-size c =
    size_is c.args.d.x c.size.ensures
    (record { sfits = c.struct_told-1.given.0.1 })

y-size : (c : After-size-2) → c.size-2.result ≡ nat_abs c.args.d.y
y-size c =
    size_is c.args.d.y c.size-2.ensures
    (record { sfits = c.struct_told-2-1.given.1.0.1 })

z_size :
    (c : After-size-3)
    → c.size-3.result ≡ nat_abs c.args.d.z
z_size c =
    size_is c.args.d.z c.size-3.ensures
    (record { sfits = c.struct_told-3-1.given.1.1.0.1 })

pub scaled-requires : goal.scaled-requires
scaled-requires c =
    let h = c.requires in (
      rw (x-size c.before.before.before.before) h.x_level,
      rw (y-size c.before.before) h.y_level,
      rw (z_size c) h.z_level,
    )

pub returns : goal.returns
returns c =
    rw (x-size c.before.before.before.before.before, y-size c.before.before.before, z_size c.before) at c.scaled.ensures
