-- Document 01, 'Refusal numbers': the rows that need only a word. Assumes nothing.
use Rattle.std.specs.Prelude.{◌≡◌, ℕ, not, List, [], ◌∷◌, ◌++◌, ltb, eqb}
use Rattle.frame.specs.Refusals.{◌either◌, Row, ◌when◌, refusal}
use Rattle.words.specs.Forms.{Form, a_in, degree_in, beyond_in}
use Rattle.words.specs.Words.{large, degree_of, zero_bits, corner_number}
use Rattle.words.specs.declared.TriangleCode.{TriangleCode}
use Rattle.words.specs.declared.CornerName.{CornerName}

-- "1: a degree, as field or argument, is above 24"
abbrev pub degree_rows : ℕ → List Row
degree_rows n = 1 when ltb 24 n ∷ []

-- "2: a is 0, 6 or 7"   "3: a digit beyond the degree is not 0": of a word of any form
abbrev pub field_rows : Form → ℕ → List Row
field_rows f w =
    2 when (eqb (a_in f w) 0 either ltb 5 (a_in f w)) ∷ 3 when not (eqb (beyond_in f w (degree_in f w)) 0) ∷ []

abbrev pub word_rows : ℕ → List Row
word_rows w = degree_rows (degree_of w) ++ field_rows large w

-- "4: the four zero bits are not zero, or the corner number does not fit the kind of word": "A triangle code has corner
-- number 0."
abbrev pub code_low_rows : TriangleCode → List Row
code_low_rows t = 4 when (not (eqb (zero_bits t.0) 0) either not (eqb (corner_number t.0) 0)) ∷ []

abbrev pub code_rows : TriangleCode → List Row
code_rows t = word_rows t.0 ++ code_low_rows t

-- "A corner name has corner number 1 to 3"
abbrev pub name_rows : CornerName → List Row
name_rows r = word_rows r.0 ++ (4 when (not (eqb (zero_bits r.0) 0) either eqb (corner_number r.0) 0) ∷ [])

-- "5: .. a child digit is not 0 to 3"
abbrev pub digit_rows : ℕ → List Row
digit_rows d = 5 when ltb 3 d ∷ []

-- "6: parent of degree 0, or child of degree 24"
abbrev pub parent_rows : TriangleCode → List Row
parent_rows t = 6 when eqb (degree_of t.0) 0 ∷ []

abbrev pub child_rows : TriangleCode → List Row
child_rows t = 6 when eqb (degree_of t.0) 24 ∷ []

-- "Checking a word, as the one kind or the other, answers only its refusal number." Of a corner name here 1 to 4.
unfoldable pub check_code : TriangleCode → ℕ
check_code t = refusal (code_rows t)

unfoldable pub check_name_fields : CornerName → ℕ
check_name_fields r = refusal (name_rows r)

-- t is a triangle code of degree n.
pub record IsCode (n : ℕ) (t : TriangleCode) : Type 0 where
  pub passes : check_code t ≡ 0
  pub degree_is : degree_of t.0 ≡ n
