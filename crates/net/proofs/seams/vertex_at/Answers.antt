-- `vertex_at`: the four cases of a and b, each 0 or not (`at_01`, `vertex_low`, `vertex_high`). Assumes nothing.
use mathlib.Core.Path.{refl}
use Rattle.net.specs.Sides.{vertex}
use Rattle.net.proofs.SeamCode.{at_01, vertex_high, vertex_low}
use Rattle.net.proofs.seams.vertex_at.Goals as goal

pub returns-then-a-eq0 : goal.returns-then-a-eq0
returns-then-a-eq0 c = at_01 vertex _ _ (λ q. refl) c.if-a-eq0.true c.if-b-eq0.false

pub returns-then-b-eq0-2 : goal.returns-then-b-eq0-2
returns-then-b-eq0-2 c = vertex_low _ _ c.if-a-eq0.false c.if-b-eq0-2.true

pub returns : goal.returns
returns c = vertex_high _ _ c.if-a-eq0.false c.if-b-eq0-2.false
