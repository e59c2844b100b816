-- A code's corner has a place (Marking). Assumes nothing.
use native.Mathlib.Omega.{arith}
use Rattle.marks.proofs.Marking.{drawn_passes, got_code}
use Rattle.marks.proofs.table_mark.Goals as goal

pub returns-in_err-drawn_of-in-Some : goal.returns-in_err-drawn_of-in-Some
returns-in_err-drawn_of-in-Some c =
    absurd (drawn_passes _ 1 _ (got_code _ _ _ c.in_ok-get.ensures) (omega arith) c.in_err-drawn_of-in-Some.ensures)
