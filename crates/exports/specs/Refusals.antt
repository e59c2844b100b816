-- Document 02, 2026-01: the refusals of the exported calls that are lent bytes. "Otherwise document 01 holds": what its
-- call can refuse, in its order. (Check has no bytes, and refuses as in document 01: `check_code` of the crate words,
-- `check_name` of the crate net.) Assumes nothing.
use Rattle.std.specs.Prelude.{ℕ, List, ◌++◌}
use Rattle.frame.specs.Refusals.{refusal, list_rows}
use Rattle.words.specs.Refusals.{degree_rows, code_rows}
use Rattle.words.specs.declared.TriangleCode.{TriangleCode}
use Rattle.net.specs.Refusals.{one_to_three_rows}
use Rattle.filing.specs.Refusals.{direction_rows}
use Rattle.filing.specs.declared.Direction.{Direction}

-- "cross writes code and edge number (16 bytes) ..; a shorter slice is refusal 9"
unfoldable pub refuse_cross : TriangleCode → ℕ → List ℕ → ℕ
refuse_cross t k out = refusal (code_rows t ++ one_to_three_rows k ++ list_rows 16 out)

-- "file the code (8)"
unfoldable pub refuse_file : ℕ → Direction → List ℕ → ℕ
refuse_file n d out = refusal (degree_rows n ++ direction_rows d ++ list_rows 8 out)

-- "list the count and then its codes (56)", however many there are
unfoldable pub refuse_list : ℕ → Direction → List ℕ → ℕ
refuse_list n d out = refusal (degree_rows n ++ direction_rows d ++ list_rows 56 out)
