-- `notation::base_side`, as `knots::back::side_of`. The invariant: in no side before s has such a domain the corner as
-- its base vertex. Assumes nothing.
use mathlib.Core.Bool.{true, false}
use mathlib.Core.Path.{◌≡◌}
use Prim.Native.Nat.{ℕ, ◌<◌}
use lib.ListN.{take}
use Rattle.net.specs.Sides.{IsSide}
use Rattle.net.specs.Refusals.{on_side}
use Rattle.net.specs.Means.Spreads.{point_in}
use Rattle.notation.specs.Means.Directions.{is_base}
use Rattle.notation.proofs.base_side.Given as goal

abbrev pub invariant-loop-s : goal.invariant-loop-s
invariant-loop-s l =
    let w = take 12 l.weights in
    (j : ℕ) → j < l.s → IsSide j → on_side j 0 w ≡ true → is_base j (point_in j w) ≡ false
