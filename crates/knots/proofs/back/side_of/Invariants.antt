-- `knots::back::side_of` meets its contract. The invariant: on no side before s do the weights lie. Assumes nothing.
use mathlib.Core.Bool.{true}
use mathlib.Core.Path.{◌≡◌}
use Prim.Native.Nat.{ℕ, ◌<◌}
use lib.ListN.{take}
use Rattle.net.specs.Sides.{IsSide}
use Rattle.net.specs.Refusals.{on_side}
use Rattle.knots.proofs.back.side_of.Given as goal

abbrev pub invariant-loop-s : goal.invariant-loop-s
invariant-loop-s l = (j : ℕ) → j < l.s → IsSide j → on_side j 0 (take 12 l.weights) ≡ true → ⊥
