-- `holders::exact::multiple` meets its contract: the product fits. Assumes nothing.
use mathlib.Core.Path.{◌≡◌}
use Prim.Native.Nat.{◌<◌, ◌^◌}
use native.Mathlib.Omega.{arith}
use lib.IntN.{pos, nat_abs, ◌*ℤ◌}
use mir.Syntax.{w64}
use mir.Val.{to_z}
use Rattle.golden.proofs.Machine.{fits, again_is}
use Rattle.seats.proofs.ExactParts.{product_small}
use Rattle.holders.proofs.exact.multiple.Goals as goal
use Rattle.holders.proofs.exact.multiple.Lts as lts
use Rattle.holders.proofs.exact.multiple.Reads as reads

abbrev Start : Type 0
Start = lts.Start reads.Pre reads.Post

read : (c : Start) → to_z w64 c.args.f ≡ pos c.args.f
read c = again_is (pos c.args.f) (omega arith)

small : (c : Start) → nat_abs (pos c.args.f *ℤ c.args.x) < 2 ^ 63
small c = omega (arith, product_small c.args.f c.args.x (omega arith) (omega arith))

pub overflow_mul-result : goal.overflow_mul-result
overflow_mul-result c = rw (read c, again_is c.args.x (omega arith)) (fits _ (small c))

pub returns : goal.returns
returns c = rw (read c, again_is c.args.x (omega arith), again_is _ (small c))
