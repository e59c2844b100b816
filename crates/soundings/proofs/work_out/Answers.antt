-- Checked, then all counts and sums (coarse's Children). Assumes nothing.
use mathlib.Core.Path.{sym, ◌∙◌}
use lib.ListN.{length}
use Rattle.net.specs.Division.{sum}
use Rattle.frame.proofs.Answering.{answering}
use Rattle.tables.specs.Answers.{table_answer}
use Rattle.tables.proofs.Told.{told_none}
use Rattle.coarse.specs.Sums.{coarse}
use Rattle.coarse.proofs.Children.{four_each, every_parent_lem}
use Rattle.coarse.proofs.Refused.{WorkedOut, work_out_passed}
use Rattle.soundings.proofs.work_out.Goals as goal
use Rattle.soundings.proofs.work_out.Goals.{In_ok-refuse_work_out}

known : (c : In_ok-refuse_work_out) → (let a = c.args in
    WorkedOut a.degree a.list.now (coarse a.counts.now a.sums.now))
known c =
    let a = c.args in
    work_out_passed a.degree a.list.now (coarse a.counts.now a.sums.now)
    (told_none a.list.now c.in_ok-refuse_work_out.ensures)

pub store_all-requires : goal.store_all-requires
store_all-requires c =
    let g = known (goal.at.store_all-requires c).In_ok-refuse_work_out in
    (four_each _ g.counts_long g.long, g.sums_long ∙ sym g.counts_long)

pub returns : goal.returns
returns c =
    let list = c.args.list.now in
    let n = c.args.degree in
    let g = known (goal.at.returns c).In_ok-refuse_work_out in
    let w = c.store_all.ensures in
    answering (told_none list c.in_ok-refuse_work_out.ensures) (λ i. (
      table_answer 0 0,
      coarse ((w.0 ∙ every_parent_lem length list n g.degree g.counts_long) i)
          ((w.1 ∙ every_parent_lem sum list n g.degree g.sums_long) i),
    ))
