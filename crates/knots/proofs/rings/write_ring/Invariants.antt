-- `knots::rings::write_ring` meets its contract. The invariant: the first i places have the words of the walk's first i
-- places, the others are as they came, and q is the name at the last of them. Assumes nothing.
use mathlib.Core.Path.{◌≡◌}
use mathlib.Core.List.{◌++◌}
use Prim.Native.Nat.{◌-◌}
use lib.ListN.{length, take, drop}
use Rattle.net.specs.Means.Walks.{name_at, place_at, ring_at, ring_words}
use Rattle.knots.proofs.rings.write_ring.Given as goal

abbrev pub invariant-loop-i : goal.invariant-loop-i
invariant-loop-i l =
    (l.out ≡ take l.i (ring_words l.m (place_at l.initial.q)) ++ drop l.i l.initial.out)
    × (length l.out ≡ length l.initial.out)
    × (l.q ≡ name_at (ring_at (place_at l.initial.q) (l.i - 1)))
