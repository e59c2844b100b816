-- Document 01, 'Refusal numbers': the refusal of each call on corners and edges, a line each. "Parent, child and
-- crossing take a triangle code. Weights, exact coordinates and drawn coordinates take a triangle code with a corner
-- number, or a corner name. Naming takes a code with a corner number. The way back takes a degree and twelve weights,
-- the ring a corner name". (A call that takes only a name is refused as `check_name` of the crate net says.) Assumes
-- nothing.
use Rattle.std.specs.Prelude.{ℕ, List, ◌++◌}
use Rattle.frame.specs.Refusals.{refusal, list_rows}
use Rattle.words.specs.Refusals.{degree_rows, code_rows}
use Rattle.words.specs.declared.TriangleCode.{TriangleCode}
use Rattle.words.specs.declared.CornerName.{CornerName}
use Rattle.net.specs.Refusals.{one_to_three_rows, canonical_rows, weight_rows}

-- crossing by an edge; naming, exact coordinates, t and drawn coordinates by a corner number
unfoldable pub refuse_numbered : TriangleCode → ℕ → ℕ
refuse_numbered t i = refusal (code_rows t ++ one_to_three_rows i)

unfoldable pub refuse_weights : TriangleCode → ℕ → List ℕ → ℕ
refuse_weights t i out = refusal (code_rows t ++ one_to_three_rows i ++ list_rows 12 out)

unfoldable pub refuse_name_weights : CornerName → List ℕ → ℕ
refuse_name_weights r out = refusal (canonical_rows r ++ list_rows 12 out)

unfoldable pub refuse_back : ℕ → List ℕ → ℕ
refuse_back n weights = refusal (degree_rows n ++ list_rows 12 weights ++ weight_rows n weights)

unfoldable pub refuse_ring : CornerName → List ℕ → ℕ
refuse_ring r out = refusal (canonical_rows r ++ list_rows 6 out)
