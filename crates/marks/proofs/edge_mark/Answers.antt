-- The two corners have places, and they are drawn (Marking). Assumes nothing.
use mathlib.Core.Path.{sym}
use Rattle.marks.proofs.Marking.{low_passes, high_passes, edge_marked}
use Rattle.marks.proofs.edge_mark.Goals as goal

pub returns-in_err-from : goal.returns-in_err-from
returns-in_err-from c =
    absurd (low_passes _ _ (sym c.in_ok-refuse_numbered.ensures) _ c.of_three.ensures c.in_err-from.ensures)

pub returns-in_err-to : goal.returns-in_err-to
returns-in_err-to c =
    absurd (high_passes _ _ (sym c.in_ok-refuse_numbered.ensures) _ c.of_three-2.ensures c.in_err-to.ensures)

pub returns : goal.returns
returns c =
    edge_marked _ _ (sym c.in_ok-refuse_numbered.ensures) c.of_three.ensures c.in_ok-from.ensures
    c.of_three-2.ensures c.in_ok-to.ensures
