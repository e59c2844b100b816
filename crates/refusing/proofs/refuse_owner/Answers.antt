-- Test by test (Deeds). Assumes nothing.
use mathlib.Core.Path.{◌∙◌}
use Rattle.tables.proofs.Deeds.{free_refused, other's, one's_own}
use Rattle.refusing.proofs.refuse_owner.Goals as goal

pub returns-then-owner-eq0 : goal.returns-then-owner-eq0
returns-then-owner-eq0 c =
    let a = c.args in
    c.refuse_free.ensures ∙ free_refused a.deed a.desk a.owner c.if-owner-eq0.true

pub returns-then-owner-desk : goal.returns-then-owner-desk
returns-then-owner-desk c =
    let a = c.args in
    other's a.deed a.desk a.owner c.if-owner-eq0.false c.if-owner-desk.true

pub returns : goal.returns
returns c =
    let a = c.args in
    one's_own a.deed a.desk a.owner c.if-owner-eq0.false c.if-owner-desk.false
