-- Checked, then one place of each list written (coarse's Refused, tables' Told). Assumes nothing.
use mathlib.Core.Path.{◌∙◌, ap}
use native.Mathlib.Omega.{arith}
use Prim.Native.Nat.{◌≤◌}
use lib.ListN.{length}
use Rattle.tables.specs.Owners.{Shared, shared}
use Rattle.tables.proofs.Numbers.{desk_most}
use Rattle.tables.proofs.Holding.{after_long}
use Rattle.tables.proofs.Told.{told_none}
use Rattle.coarse.specs.Sums.{coarse, chart}
use Rattle.coarse.proofs.Refused.{Kept, kept_known}
use Rattle.soundings.proofs.carry_out.Goals as goal
use Rattle.soundings.proofs.carry_out.Goals.{In_ok-refuse_kept}

known : (c : In_ok-refuse_kept)
    → (let a = c.args in
    Kept a.deed a.desk a.degree a.t
    (chart (shared a.list.now a.owners.now) (coarse a.counts.now a.sums.now)))
known c =
    let a = c.args in
    let list = a.list.now in
    kept_known a.deed a.desk a.degree a.t
    (chart (shared list a.owners.now) (coarse a.counts.now a.sums.now))
    (told_none list c.in_ok-refuse_kept.ensures)

pub overflow_cast-desk : goal.overflow_cast-desk
overflow_cast-desk c =
    let d = c.args.desk in
    let l : d ≤ 2 = desk_most d (known (goal.at.overflow_cast-desk c).In_ok-refuse_kept).owned.desk in
    omega (arith, l)

pub write-requires : goal.write-requires
write-requires c =
    let o = (known (goal.at.write-requires c).In_ok-refuse_kept).owned in
    (o.passed.code.passes, o.passed.in_list, o.in_owners)

pub keep-requires : goal.keep-requires
keep-requires c =
    let g = known (goal.at.keep-requires c).In_ok-refuse_kept in
    let a = c.args in
    let long =
    ap (λ (s : Shared). length s.readings) c.write.ensures
    ∙ after_long a.deed a.desk a.t (shared a.list.now a.owners.now) in
    let p = g.owned.passed in
    (p.degree, p.code, long ∙ p.long, g.lists.counts_long, g.lists.sums_long)
