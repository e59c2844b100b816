-- The measures: 6n, and 6n + (5 - k) of the second, between 6n and 6(n + 1). Assumes nothing.
use Prim.Native.Nat.{◌+◌, ◌*◌, ◌-◌}
use Rattle.shares.proofs.walks.+list_below_list_beside.Given as goal

abbrev pub decreases-list_below : goal.decreases-list_below
decreases-list_below l = 6 * l.n

abbrev pub decreases-list_beside : goal.decreases-list_beside
decreases-list_beside l = 6 * l.n + (5 - l.k)
