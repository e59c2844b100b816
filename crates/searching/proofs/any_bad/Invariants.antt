-- The loop looks at every place (Scanning). Assumes nothing.
use mathlib.Core.Path.{◌≡◌}
use Prim.Native.Nat.{◌≤◌}
use lib.ListN.{length, drop}
use Rattle.frame.specs.Refusals.{◌either◌}
use Rattle.tables.specs.Tables.{any_bad}
use Rattle.searching.proofs.any_bad.Given as goal

abbrev pub invariant-loop-number : goal.invariant-loop-number
invariant-loop-number l =
    (l.number-index ≤ length l.list) × (any_bad l.list ≡ l.found either any_bad (drop l.number-index l.list))
