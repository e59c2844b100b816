-- The side, and then the path. Assumes nothing.
use Rattle.lines.proofs.Appending.{appended_after}
use Rattle.lines.proofs.Spelling.{code_is}
use Rattle.lines.proofs.text.Text.push_code.Goals as goal

pub returns-clause-text : goal.returns-clause-text
returns-clause-text g c =
    appended_after _ _ _ (code_is c.args.w _ _ c.degree_of-n.ensures c.path_of.ensures) c.push_side.ensures.text c.push_digits.ensures.text
