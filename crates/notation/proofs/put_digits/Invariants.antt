-- The invariant: the digits that are left, over the list as it is, are all digits over the list as it came. Assumes
-- nothing.
use mathlib.Core.List.{reverse}
use mathlib.Core.Path.{◌≡◌}
use Prim.Native.Nat.{◌≤◌}
use lib.ListN.{length}
use Rattle.frame.specs.Answers.{over}
use Rattle.net.specs.Means.Paths.{digits_of}
use Rattle.notation.proofs.put_digits.Given as goal

abbrev pub invariant-loop-i : goal.invariant-loop-i
invariant-loop-i l =
    (l.i ≤ length l.out) × (length l.out ≡ length l.initial.out)
    × (over (reverse (digits_of l.i l.rest)) l.out ≡ over (reverse (digits_of l.n l.v)) l.initial.out)
