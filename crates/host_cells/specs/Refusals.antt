-- Document 02, 2026-09 and 2026-10: the refusals of the two calls on a cell list over bytes. Assumes nothing.
use Rattle.std.specs.Prelude.{ℕ, ◌/◌, ◌%◌, not, List, [], ◌∷◌, ◌++◌, ltb, eqb, length}
use Rattle.frame.specs.Refusals.{Row, ◌when◌, first_of, order, refusal, list_rows}
use Rattle.mending.specs.Answers.{Lists}

-- "eight-byte codes": a list has whole words
abbrev pub word_rows : (list : List ℕ) → List Row
word_rows list = 9 when not (eqb (length list % 8) 0) ∷ []

-- the verdict's two numbers have 16 bytes
unfoldable pub refuse_check : (list out : List ℕ) → ℕ
refuse_check list out = refusal (word_rows list ++ list_rows 16 out)

-- "a list above 4,096 words is refusal 32, checked first, and a result or change list shorter than the input is
-- refusal 9": eight bytes a word; and both counts have 16
unfoldable pub refuse_mend : (list : List ℕ) → Lists → (out : List ℕ) → ℕ
refuse_mend list l out =
    let n = length list in
    first_of (32 ∷ order)
    (32 when ltb 4096 (n / 8) ∷ word_rows list ++ list_rows n l.out ++ list_rows n l.words
    ++ list_rows n l.reasons ++ list_rows 16 out)
