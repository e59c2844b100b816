-- Document 02, 2026-09: the program on standard input: which line it writes for the bytes of a file. Assumes nothing.
use Rattle.std.specs.Prelude.{not, cond, List, [], ◌∷◌, ◌++◌, ℕ, ◌/◌, ◌%◌, ltb, eqb, length}
use Rattle.octets.specs.Bytes.{words_in}
use Rattle.lines.specs.Writing.{decimal}
use Rattle.cells.specs.Checking.{checked}
use Rattle.cells.specs.Checking.{Verdict}

-- "accepted"   "bad length"   "too long"   "place "   " reason "
abbrev pub accepted_text : List ℕ
accepted_text = 97 ∷ 99 ∷ 99 ∷ 101 ∷ 112 ∷ 116 ∷ 101 ∷ 100 ∷ []

abbrev pub bad_length_text : List ℕ
bad_length_text = 98 ∷ 97 ∷ 100 ∷ 32 ∷ 108 ∷ 101 ∷ 110 ∷ 103 ∷ 116 ∷ 104 ∷ []

abbrev pub too_long_text : List ℕ
too_long_text = 116 ∷ 111 ∷ 111 ∷ 32 ∷ 108 ∷ 111 ∷ 110 ∷ 103 ∷ []

abbrev pub place_text : List ℕ
place_text = 112 ∷ 108 ∷ 97 ∷ 99 ∷ 101 ∷ 32 ∷ []

abbrev pub reason_text : List ℕ
reason_text = 32 ∷ 114 ∷ 101 ∷ 97 ∷ 115 ∷ 111 ∷ 110 ∷ 32 ∷ []

-- `"accepted", or "place P reason R" in decimal`
unfoldable pub verdict_text : Verdict → List ℕ
verdict_text v =
    cond (eqb v.reason 0) accepted_text (place_text ++ decimal v.place ++ reason_text ++ decimal v.reason)

-- `A file whose length isn't a multiple of 8 is "bad length", checked first; one above 4,096 words is "too long".`
unfoldable pub text : (file : List ℕ) → List ℕ
text file =
    cond (not (eqb (length file % 8) 0)) bad_length_text
    (cond (ltb 4096 (length file / 8)) too_long_text (verdict_text (checked (words_in file))))

-- "The program writes one line"
abbrev pub line : (file : List ℕ) → List ℕ
line file = text file ++ (10 ∷ [])
