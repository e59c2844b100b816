-- `shares::descent::into_corner` meets its contract. Assumes nothing.
use mathlib.Core.Path.{refl}
use Prim.Native.Nat.{◌*◌}
use native.Mathlib.Omega.{arith}
use lib.Pow.{pow_pos}
use Rattle.shares.proofs.CornerPaths.{corner_small}
use Rattle.shares.proofs.Spreading.{shift_small}
use Rattle.shares.proofs.descent.into_corner.Goals as goal

pub overflow_mul-result : goal.overflow_mul-result
overflow_mul-result c =
    let a = c.args in
    let p = c.requires in
    rw c.power-all.ensures (record { fits = omega (arith, shift_small a.n a.v p.0 p.2) })

pub overflow_sub-result : goal.overflow_sub-result
overflow_sub-result c = rw c.power-all.ensures (pow_pos (2 * c.args.n))

pub overflow_mul-result-2 : goal.overflow_mul-result-2
overflow_mul-result-2 c =
    let a = c.args in
    let p = c.requires in
    rw c.power-all.ensures (record { fits = omega (arith, corner_small a.n a.digit p.0 p.1) })

pub overflow_add-result : goal.overflow_add-result
overflow_add-result c =
    let a = c.args in
    let p = c.requires in
    rw c.power-all.ensures
    (record {
      fits = omega (
        arith,
        shift_small a.n a.v p.0 p.2,
        corner_small a.n a.digit p.0 p.1,
      );
    })

pub returns : goal.returns
returns c = rw c.power-all.ensures refl
