-- The loop writes place by place (frame's Below). Assumes nothing.
use mathlib.Core.Path.{◌≡◌}
use mathlib.Core.List.{List}
use Prim.Native.Nat.{ℕ, ◌*◌}
use lib.IntN.{ℤ}
use lib.ListN.{length}
use Rattle.frame.specs.Answers.{over}
use Rattle.frame.specs.Lists.{below}
use Rattle.net.specs.Division.{sum}
use Rattle.coarse.specs.Means.Fours.{present_from}
use Rattle.keeping.proofs.store_all.Given as goal

abbrev pub counted : List ℤ → ℕ → ℕ
counted list i = length (present_from (4 * i) list)

abbrev pub summed : List ℤ → ℕ → ℕ
summed list i = sum (present_from (4 * i) list)

abbrev pub invariant-loop-p : goal.invariant-loop-p
invariant-loop-p l =
    (l.counts ≡ over (below l.p (counted l.list)) l.initial.counts)
    × (length l.counts ≡ length l.initial.counts) × (l.sums ≡ over (below l.p (summed l.list)) l.initial.sums)
    × (length l.sums ≡ length l.initial.sums)
