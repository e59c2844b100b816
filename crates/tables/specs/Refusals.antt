-- Document 02, 2026-03: refusals 20 to 23, and 2026-07: 24 to 27. A call's refusal is the first of its rows, in
-- document 01's order and then in that of these. Assumes nothing.
use Rattle.std.specs.Prelude.{ℕ, Bool, false, not, ◌&&◌, List, [], ◌∷◌, ◌++◌, ltb, eqb, ℤ, length}
use Rattle.frame.specs.Refusals.{◌either◌, Row, ◌when◌, first_of, order}
use Rattle.words.specs.Words.{degree_of}
use Rattle.words.specs.Refusals.{degree_rows, code_rows}
use Rattle.words.specs.declared.TriangleCode.{TriangleCode}
use Rattle.tables.specs.Tables.{places, is_reading, any_bad}
use Rattle.tables.specs.Owners.{nobody, is_desk, any_other, owner_at, Shared, is_taking}
use Rattle.tables.specs.declared.Deed.{Deed}
use Rattle.tables.specs.declared.Deed.TheVariants.{Taking, Setting, Clearing, Giving}

-- "New refusals, after those of 01: 20 .., 21 .., 22 .., 23 .. They are checked in number order"
abbrev pub table_order : List ℕ
table_order = order ++ (20 ∷ 21 ∷ 22 ∷ 23 ∷ [])

-- "a table degree of 7 to 24 is also 20, above 24 it is 1": the degree by itself
abbrev pub large_rows : (degree : ℕ) → List Row
large_rows n = degree_rows n ++ (20 when ltb 6 n ∷ [])

-- "Set, clear and get take a code of just that degree": "20 wrong degree"
abbrev pub triangle_rows : (degree : ℕ) → TriangleCode → List Row
triangle_rows n t = degree_rows n ++ code_rows t ++ (20 when (ltb 6 n either not (eqb (degree_of t.0) n)) ∷ [])

-- "21 reading out of range": a reading is handed in to set alone
abbrev pub out_of_range : Deed → Bool
out_of_range Taking = false
out_of_range (Setting x) = not (is_reading x)
out_of_range Clearing = false
out_of_range Giving = false

-- "22 the list's length isn't 20·4^degree, 23 the list holds a number that is neither a reading nor -1"
abbrev pub table_rows : (degree : ℕ) → List ℤ → List Row
table_rows n list = 22 when not (eqb (length list) (places n)) ∷ 23 when any_bad list ∷ []

-- the rows of 2026-03, of a call of which `out` says whether it is handed a reading out of range
abbrev pub call_rows : (out : Bool) → (degree : ℕ) → TriangleCode → List ℤ → List Row
call_rows out n t list = triangle_rows n t ++ (21 when out ∷ []) ++ table_rows n list

unfoldable pub refuse_call : (out : Bool) → (degree : ℕ) → TriangleCode → List ℤ → ℕ
refuse_call out n t list = first_of table_order (call_rows out n t list)

-- "get stays as it was, with no desk or owner list."
abbrev pub refuse_get : (degree : ℕ) → TriangleCode → List ℤ → ℕ
refuse_get = refuse_call false

-- ---- 2026-07

-- "New refusals after 23: 24 .., 25 .., 26 .., 27 .." "The new refusals are checked in number order after 23."
abbrev pub desk_order : List ℕ
desk_order = table_order ++ (24 ∷ 25 ∷ 26 ∷ 27 ∷ [])

-- "24 not a desk"
abbrev pub desk_rows : (desk : ℕ) → List Row
desk_rows d = 24 when not (is_desk d) ∷ []

-- "25 owner list malformed (wrong length or another number)"
abbrev pub owner_list_rows : (degree : ℕ) → List ℕ → List Row
owner_list_rows n owners = 25 when (not (eqb (length owners) (places n)) either any_other owners) ∷ []

-- "26 owned by the other desk, 27 not owned": "On another's triangle every call but get is 26; on a free one all but
-- get and take are 27."
abbrev pub owner_rows : Deed → (desk owner : ℕ) → List Row
owner_rows e d o = 26 when (not (eqb o nobody) && not (eqb o d)) ∷ 27 when (eqb o nobody && not (is_taking e)) ∷ []

abbrev pub shared_rows : Deed → (desk degree : ℕ) → TriangleCode → List ℕ → List Row
shared_rows e d n t owners = desk_rows d ++ owner_list_rows n owners ++ owner_rows e d (owner_at t owners)

abbrev pub deed_rows : Deed → (desk degree : ℕ) → TriangleCode → Shared → List Row
deed_rows e d n t s = call_rows (out_of_range e) n t s.readings ++ shared_rows e d n t s.owners

unfoldable pub refuse_deed : Deed → (desk degree : ℕ) → TriangleCode → Shared → ℕ
refuse_deed e d n t s = first_of desk_order (deed_rows e d n t s)
