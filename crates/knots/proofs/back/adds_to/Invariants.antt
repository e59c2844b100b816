-- `knots::back::adds_to` meets its contract. The invariant: what is left and the sum of the places passed are the total.
-- Assumes nothing.
use mathlib.Core.Path.{◌≡◌}
use Prim.Native.Nat.{◌+◌}
use lib.ListN.{take}
use Rattle.net.specs.Division.{sum}
use Rattle.knots.proofs.back.adds_to.Given as goal

abbrev pub invariant-loop-x : goal.invariant-loop-x
invariant-loop-x l = l.left + sum (take l.x-index l.x-items) ≡ l.total
