-- `golden::Golden::t` meets its contract: the whole number nearest to the scaled coordinate. Assumes nothing.
use mathlib.Core.Path.{◌≡◌, sym, ◌∙◌, subst}
use Prim.Native.Nat.{◌+◌, ◌<◌, ◌^◌}
use native.Mathlib.Omega.{arith}
use lib.IntN.{ℤ, pos, nat_abs, ◌*ℤ◌}
use Rattle.golden.specs.declared.Golden.{Golden}
use Rattle.golden.specs.Drawing.{IsNearest}
use Rattle.golden.proofs.Magnitudes.{abs_mul}
use Rattle.golden.proofs.Machine.{again, again_fit, again_is}
use Rattle.golden.proofs.GoldenRing.{φ_path, scale}
use Rattle.golden.proofs.Golden.t.Goals as goal

-- a part, scaled, as the machine reads it back
part : (x : ℤ) → nat_abs x < 2 ^ 26 + 1 → again (pos 65536 *ℤ again x) ≡ pos 65536 *ℤ x
part x h = rw (again_is x (omega arith)) (again_is _ (omega (arith, abs_mul (pos 65536) x)))

pub returns : goal.returns
returns c =
    let x = c.args.self in
    let n = c.nearest.result in
    subst (λ (y : Golden). IsNearest y (again n))
    (φ_path (part x.u c.requires.u_below) (part x.v c.requires.v_below) ∙ sym (scale (pos 65536) x))
    (rw (again_fit n c.nearest.type_inv) c.nearest.ensures)
