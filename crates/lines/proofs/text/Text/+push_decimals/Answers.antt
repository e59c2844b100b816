-- The last digit after the others, if there are any. Assumes nothing.
use Rattle.std.proofs.Common.{mod-eq_of_lt, ap, ◌∙◌, ℕ, List, [], ◌∷◌, ◌++◌}
use Rattle.lines.specs.Writing.{glyph}
use Rattle.lines.proofs.Appending.{appended_none, appended_as, appended_after}
use Rattle.lines.proofs.Spelling.{decimals_none, decimals_one, decimals_last}
use Rattle.lines.proofs.text.Text.+push_decimals.Goals.{then-n-ge10, else-n-ge10}
use Rattle.lines.proofs.text.Text.+push_decimals.Goals as goal

pub returns-then-k-eq0-clause-text : goal.returns-then-k-eq0-clause-text
returns-then-k-eq0-clause-text g t c = appended_none _ (decimals_none c.args.k c.args.n c.if-k-eq0.true)

pub returns-clause-text : goal.returns-clause-text
returns-clause-text g t c =
    let a = c.args in
    elim c.if-n-ge10.branch [
      | then-n-ge10 w ↦ appended_after _ _ _ (decimals_last a.k a.n _ c.if-k-eq0.false w.if-n-ge10.true c.glyph.ensures)
          (w.self-is ∙ w.push_decimals.ensures.text) c.push.ensures.text
      | else-n-ge10 w ↦
          let l = w.if-n-ge10.false in
          appended_as _ (decimals_one a.k a.n _ c.if-k-eq0.false l (c.glyph.ensures ∙ ap glyph (mod-eq_of_lt l)))
          (c.push.ensures.text ∙ ap (λ (t : List ℕ). t ++ (c.glyph.result ∷ [])) w.self-is)
    ]
