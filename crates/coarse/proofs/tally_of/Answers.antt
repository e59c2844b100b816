-- By the sign (Tallying). Assumes nothing.
use mathlib.Core.Path.{sym, ◌≡◌, refl}
use mathlib.Core.Bool.{true}
use native.Mathlib.Omega.{arith}
use lib.IntN.{pos}
use lib.Signed.{lt_z}
use mir.Syntax.{w32}
use mir.ValLaws.{to_z-of_z}
use Rattle.coarse.proofs.Adding.{summing}
use Rattle.coarse.proofs.Tallying.{none_present, Counts, counts, sum_one}
use Rattle.coarse.proofs.tally_of.Goals as goal
use Rattle.coarse.proofs.tally_of.Lts as lts
use Rattle.coarse.proofs.tally_of.Reads as reads

abbrev Else-number-lt0 : Type 0
Else-number-lt0 = lts.Else1 reads.Pre reads.Post

pub returns-then-number-lt0 : goal.returns-then-number-lt0
returns-then-number-lt0 c =
    let x = c.args.number in
    let h : lt_z x (pos 0) ≡ true = rw (to_z-of_z w32 x c.ranges.number) at c.if-number-lt0.true in
    rw (none_present x h) (refl, sym summing.nothing, omega arith, omega arith)

-- a reading
reading : (c : Else-number-lt0) → Counts c.args.number
reading c =
    let x = c.args.number in
    counts x (rw (to_z-of_z w32 x c.ranges.number) at c.if-number-lt0.false)

pub returns : goal.returns
returns c =
    let x = c.args.number in
    let k = reading c in
    rw (to_z-of_z w32 x c.ranges.number, k.present_is)
    (refl, sum_one _, omega arith, omega (arith, k.cast, c.ranges.number.sfits))
