-- docs/CONSOLE.md, save: what a table's file is refused for. Assumes nothing.
use Rattle.std.specs.Prelude.{ℕ, ◌++◌}
use Rattle.frame.specs.Refusals.{first_of}
use Rattle.tables.specs.Owners.{Shared}
use Rattle.tables.specs.Refusals.{desk_order, large_rows, table_rows, owner_list_rows}

-- "is refused with 1, 20, 22, 23 (with its place) and 25, in this order, for the table's degree, the length and the
-- numbers of the list of readings, and the list of owners"
unfoldable pub refuse_table : (degree : ℕ) → Shared → ℕ
refuse_table n s = first_of desk_order (large_rows n ++ table_rows n s.readings ++ owner_list_rows n s.owners)
