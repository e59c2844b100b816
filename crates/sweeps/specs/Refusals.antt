-- Document 02, 2026-04: the refusals of the whole call, in document 01's order. Assumes nothing.
use Rattle.std.specs.Prelude.{ℕ, ◌/◌, ◌%◌, not, List, [], ◌∷◌, ◌++◌, ltb, eqb, ℤ, length}
use Rattle.frame.specs.Refusals.{◌either◌, Row, ◌when◌, refusal}
use Rattle.words.specs.Refusals.{degree_rows}

-- "9 if the input length isn't a multiple of 3 or the code list is shorter than the number of directions": of so many
-- numbers, and a list of so many places
abbrev pub length_rows : (numbers places : ℕ) → List Row
length_rows m p = 9 when (not (eqb (m % 3) 0) either ltb p (m / 3)) ∷ []

-- "For the whole call, writing nothing: refusal 1 for a degree above 24, then 9": a direction's own refusal, 7 or 8, is
-- none of the whole call's
unfoldable pub refuse_sweep : (degree : ℕ) → List ℤ → List ℕ → ℕ
refuse_sweep n dirs codes = refusal (degree_rows n ++ length_rows (length dirs) (length codes))
