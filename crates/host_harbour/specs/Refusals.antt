-- Document 02, 2026-11 and 2026-01: the refusals of the exported calls on the small form that are lent bytes: what the
-- call refuses, in its order, and "a shorter slice is refusal 9". (Check has no bytes.) Assumes nothing.
use Rattle.std.specs.Prelude.{ℕ, List, ◌++◌}
use Rattle.frame.specs.Refusals.{first_of, list_rows}
use Rattle.words.specs.declared.TriangleCode.{TriangleCode}
use Rattle.net.specs.Refusals.{one_to_three_rows}
use Rattle.filing.specs.Refusals.{direction_rows}
use Rattle.filing.specs.declared.Direction.{Direction}
use Rattle.harbour.specs.Refusals.{harbour_order, depth_rows, small_rows, write_rows}
use Rattle.harbour.specs.declared.SmallCode.{SmallCode}

-- the code has eight bytes
unfoldable pub refuse_large : SmallCode → List ℕ → ℕ
refuse_large s out = first_of harbour_order (small_rows s ++ list_rows 8 out)

-- a small code has four
unfoldable pub refuse_small : TriangleCode → List ℕ → ℕ
refuse_small t out = first_of harbour_order (write_rows t ++ list_rows 4 out)

-- and so has the neighbour's; and the edge's number has eight
unfoldable pub refuse_cross : SmallCode → ℕ → List ℕ → ℕ
refuse_cross s k out = first_of harbour_order (small_rows s ++ one_to_three_rows k ++ list_rows 12 out)

unfoldable pub refuse_file : ℕ → Direction → List ℕ → ℕ
refuse_file n d out = first_of harbour_order (depth_rows n ++ direction_rows d ++ list_rows 4 out)
