-- The invariant takes a side more. Assumes nothing.
use Rattle.std.proofs.Common.{below_more, sym, ◌∙◌, true≢false}
use Rattle.notation.proofs.Computing.{base_tested}
use Rattle.notation.proofs.base_side.Goals as goal
use Rattle.notation.proofs.base_side.Goals.{else-lies_on-via-then-lies_on+else-is_base, else-lies_on-via-else-lies_on}

pub loop-s-preserved : goal.loop-s-preserved
loop-s-preserved c =
    below_more _ _ c.loop-s.invariant (λ h o.
    elim c.else-lies_on.branch [
      | else-lies_on-via-then-lies_on+else-is_base w ↦ base_tested c.loop-s.s w.point_on.ensures w.is_base.ensures w.if-is_base.false
      | else-lies_on-via-else-lies_on w ↦ absurd (true≢false (sym o ∙ sym c.lies_on.ensures ∙ w.if-lies_on.false))
    ])
