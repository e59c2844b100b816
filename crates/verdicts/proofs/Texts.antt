-- The text of a verdict. Assumes nothing.
use mathlib.Core.Path.{◌≡◌}
use mathlib.Core.List.{◌++◌}
use borrow.Author.Tests.{eq-eqb, ne_eqb}
use Rattle.lines.specs.Writing.{decimal}
use Rattle.cells.specs.Checking.{Verdict}
use Rattle.verdicts.specs.Program.{accepted_text, place_text, reason_text, verdict_text}

pub text_accepted : (v : Verdict) → v.reason ≡ 0 → accepted_text ≡ verdict_text v
unfolding verdict_text
text_accepted v e = rw (eq-eqb v.reason 0 e)

pub text_place : (v : Verdict) → (v.reason ≡ 0 → ⊥)
    → place_text ++ decimal v.place ++ reason_text ++ decimal v.reason ≡ verdict_text v
unfolding verdict_text
text_place v n = rw (ne_eqb v.reason 0 n)
