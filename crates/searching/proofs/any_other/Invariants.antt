-- The loop looks at every place (Scanning). Assumes nothing.
use mathlib.Core.Path.{◌≡◌}
use Prim.Native.Nat.{◌≤◌}
use lib.ListN.{length, drop}
use Rattle.frame.specs.Refusals.{◌either◌}
use Rattle.tables.specs.Owners.{any_other}
use Rattle.searching.proofs.any_other.Given as goal

abbrev pub invariant-loop-owner : goal.invariant-loop-owner
invariant-loop-owner l =
    (l.owner-index ≤ length l.owners) × (any_other l.owners ≡ l.found either any_other (drop l.owner-index l.owners))
