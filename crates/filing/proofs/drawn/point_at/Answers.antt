-- Each coordinate is t over 65,536·2^n; t has at most 53 bits. Assumes nothing.
-- t as the machine reads it back
use Prim.Native.Nat.{◌+◌, ◌<◌, ◌^◌}
use native.Mathlib.Omega.{arith}
use lib.IntN.{ℤ, nat_abs}
use Rattle.golden.specs.declared.Golden.{Golden}
use Rattle.golden.specs.Numbers.{Below}
use Rattle.golden.specs.Drawing.{IsT}
use Rattle.golden.proofs.Machine.{again, again_is}
use Rattle.golden.proofs.Nearest.{t_small}
use Rattle.filing.proofs.drawn.point_at.Goals as goal

again_small : {x : Golden} {t : ℤ} → Below (2 ^ 26 + 1) x → IsT x t → nat_abs (again t) < 2 ^ 53
again_small {x} {t} b h = let s = t_small b h in rw (again_is t (omega (arith, s))) (omega (arith, s))

pub fraction-requires : goal.fraction-requires
fraction-requires c =
    (again_small c.requires.1.x c.ticks_at-t.ensures.x, c.requires.0)

pub fraction-requires-2 : goal.fraction-requires-2
fraction-requires-2 c =
    (again_small c.requires.1.y c.ticks_at-t.ensures.y, c.requires.0)

pub fraction-requires-3 : goal.fraction-requires-3
fraction-requires-3 c =
    (again_small c.requires.1.z c.ticks_at-t.ensures.z, c.requires.0)
