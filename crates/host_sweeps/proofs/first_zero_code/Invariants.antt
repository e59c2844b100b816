-- The codes passed have a first byte that is not 0 (Scanning, FirstCodes). Assumes nothing.
use Rattle.std.proofs.Common.{◌≡◌, ◌+◌, drop}
use Rattle.frame.specs.Lists.{first_place}
use Rattle.sweeps.specs.Means.Counted.{is_zero}
use Rattle.host_sweeps.specs.Means.CountedBytes.{first_bytes}
use Rattle.host_sweeps.proofs.first_zero_code.Given as goal

abbrev pub invariant-loop-place : goal.invariant-loop-place
invariant-loop-place l =
    first_place is_zero (first_bytes l.n l.codes) ≡ l.place + first_place is_zero (drop l.place (first_bytes l.n l.codes))
