-- Document 01, 'Refusal numbers': the refusals of filing and listing. "filing and listing [take] a degree and a
-- direction". Assumes nothing.
use Rattle.std.specs.Prelude.{ℕ, List, ◌++◌}
use Rattle.frame.specs.Refusals.{refusal, list_rows}
use Rattle.words.specs.Refusals.{degree_rows}
use Rattle.filing.specs.Refusals.{direction_rows}
use Rattle.filing.specs.declared.Direction.{Direction}

unfoldable pub refuse_file : ℕ → Direction → ℕ
refuse_file n d = refusal (degree_rows n ++ direction_rows d)

unfoldable pub refuse_list : ℕ → Direction → List ℕ → ℕ
refuse_list n d out = refusal (degree_rows n ++ direction_rows d ++ list_rows 6 out)
