-- The invariant: the digits that are left, over the list as it is, are all digits over the list as it came. Assumes
-- nothing.
use mathlib.Core.Path.{◌∙◌, refl, sym}
use Prim.Native.Nat.{◌-◌, ◌%◌}
use native.Mathlib.Omega.{arith}
use lib.ListN.{length-set}
use Rattle.notation.proofs.Reading.{put_all, put_last}
use Rattle.notation.proofs.put_digits.Goals as goal

pub loop-i-init : goal.loop-i-init
loop-i-init c = (c.requires, refl, refl)

pub loop-i-preserved : goal.loop-i-preserved
loop-i-preserved c =
    let l = c.loop-i in
    let k = length-set l.out (l.i - 1) (l.rest % 4) in (
      omega (arith, k),
      k ∙ l.invariant.1,
      put_last l.i l.rest l.out (omega arith) l.invariant.0 ∙ l.invariant.2,
    )

pub returns : goal.returns
returns c =
    let l = c.loop-i in
    sym (put_all l.i l.rest l.out (omega arith)) ∙ l.invariant.2
