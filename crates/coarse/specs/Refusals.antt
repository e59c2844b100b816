-- Document 02, 2026-08: refusals 28 and 29. Assumes nothing.
use Rattle.std.specs.Prelude.{ℕ, Bool, not, ◌&&◌, List, [], ◌∷◌, ◌++◌, eqb, ℤ, length}
use Rattle.frame.specs.Refusals.{◌either◌, Row, ◌when◌, first_of}
use Rattle.words.specs.Family.{parent_of}
use Rattle.words.specs.declared.TriangleCode.{TriangleCode}
use Rattle.tables.specs.Refusals.{desk_order, large_rows, table_rows, deed_rows}
use Rattle.tables.specs.declared.Deed.{Deed}
use Rattle.coarse.specs.Sums.{count_in, sum_in, parents, Coarse, stored_for, Chart}

-- "refusal 28, checked after 27"; "refusal 29, checked last"
abbrev pub sum_order : List ℕ
sum_order = desk_order ++ (28 ∷ 29 ∷ [])

-- "Lists of wrong length are refusal 28": either of them
abbrev pub length_rows : (degree : ℕ) → Coarse → List Row
length_rows n c =
    28 when (not (eqb (length c.counts) (parents n)) either not (eqb (length c.sums) (parents n))) ∷ []

-- "Where the stored count or sum of the parent concerned differs from its children's readings"
abbrev pub differs : TriangleCode → List ℤ → Coarse → Bool
differs p list c =
    not (eqb (stored_for p c.counts) (count_in p list)) either not (eqb (stored_for p c.sums) (sum_in p list))

-- a triangle of degree 0 has no parent
abbrev pub stored_rows : (degree : ℕ) → TriangleCode → List ℤ → Coarse → List Row
stored_rows n t list c = 29 when (not (eqb n 0) && differs (parent_of t) list c) ∷ []

abbrev pub coarse_rows : (degree : ℕ) → TriangleCode → List ℤ → Coarse → List Row
coarse_rows n t list c = length_rows n c ++ stored_rows n t list c

-- "these four calls": set, clear, take and give back
unfoldable pub refuse_kept : Deed → (desk degree : ℕ) → TriangleCode → Chart → ℕ
refuse_kept e d n t c =
    first_of sum_order (deed_rows e d n t c.shared ++ coarse_rows n t c.shared.readings c.coarse)

-- working the sums out afresh, which is handed a degree, the readings and the two lists
unfoldable pub refuse_work_out : (degree : ℕ) → List ℤ → Coarse → ℕ
refuse_work_out n list c = first_of sum_order (large_rows n ++ table_rows n list ++ length_rows n c)
