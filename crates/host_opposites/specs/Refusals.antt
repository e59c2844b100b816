-- Document 02, 2026-12 and 2026-01: the refusals of the exported calls: what checking the word refuses, and "a shorter
-- slice is refusal 9". Assumes nothing.
use Rattle.std.specs.Prelude.{ℕ, List, ◌++◌}
use Rattle.frame.specs.Refusals.{refusal, list_rows}
use Rattle.words.specs.Refusals.{code_rows}
use Rattle.words.specs.declared.TriangleCode.{TriangleCode}
use Rattle.words.specs.declared.CornerName.{CornerName}
use Rattle.net.specs.Refusals.{canonical_rows}

unfoldable pub refuse_opposite : TriangleCode → List ℕ → ℕ
refuse_opposite t out = refusal (code_rows t ++ list_rows 8 out)

unfoldable pub refuse_opposite_name : CornerName → List ℕ → ℕ
refuse_opposite_name q out = refusal (canonical_rows q ++ list_rows 8 out)
