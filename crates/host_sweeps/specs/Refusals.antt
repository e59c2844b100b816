-- Document 02, 2026-04: the refusals of a sweep over bytes. Assumes nothing.
use Rattle.std.specs.Prelude.{ℕ, ◌*◌, ◌/◌, ◌%◌, not, List, [], ◌∷◌, ◌++◌, eqb, length}
use Rattle.frame.specs.Refusals.{◌when◌, refusal, list_rows}
use Rattle.words.specs.Refusals.{degree_rows}

-- "refusal 1 for a degree above 24, then 9 if the input length isn't a multiple of 3 or the code list is shorter than
-- the number of directions": twelve bytes a direction, eight a code; and the answer's three numbers have 24
unfoldable pub refuse_sweep : (degree : ℕ) (dirs codes out : List ℕ) → ℕ
refuse_sweep n dirs codes out = refusal
    (degree_rows n ++ (9 when not (eqb (length dirs % 12) 0) ∷ [])
    ++ list_rows (8 * (length dirs / 12)) codes ++ list_rows 24 out)
