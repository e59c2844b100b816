-- The first decimal before the others. Assumes nothing.
use mathlib.Core.Logic.{⊎_elim}
use Rattle.lines.proofs.Appending.{appended_none, appended_after}
use Rattle.lines.proofs.Spelling.{places_none, places_end, places_next}
use Rattle.lines.proofs.text.Text.+push_places.Goals as goal

pub returns-then-k-eq0-clause-text : goal.returns-then-k-eq0-clause-text
returns-then-k-eq0-clause-text g t c =
    let a = c.args in
    appended_none _ (⊎_elim (λ e. places_none a.k a.m a.f e) (λ e. places_end a.k a.m a.f e.1) c.then-k-eq0.either)

pub returns-clause-text : goal.returns-clause-text
returns-clause-text g t c =
    let a = c.args in
    appended_after _ _ _ (places_next a.k a.m a.f _ c.if-k-eq0.false c.if-f-eq0.false c.glyph.ensures) c.push.ensures.text c.push_places.ensures.text
