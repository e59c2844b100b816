-- The invariant: what was read is a path, and with the digits from i on it is that of the whole list. Assumes nothing.
use mathlib.Core.Path.{◌≡◌}
use Prim.Native.Nat.{◌*◌, ◌^◌, ◌<◌}
use lib.ListN.{drop}
use Rattle.notation.specs.Means.Reading.{taken}
use Rattle.notation.proofs.read_digits.Given as goal

abbrev pub invariant-loop-d : goal.invariant-loop-d
invariant-loop-d l = (l.v < 2 ^ (2 * l.d-index)) × (taken l.v (drop l.d-index l.list) ≡ taken 0 l.list)
