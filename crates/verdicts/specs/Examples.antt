-- Document 02, 2026-09: the line at some files, and wrong lines. Assumes nothing.
use Rattle.std.specs.Prelude.{◌≡◌, List, [], ◌∷◌, ◌++◌, ℕ, length, replicate}
use Rattle.octets.specs.Bytes.{bytes, words_in}
use Rattle.words.specs.Writing.{words_for}
use Rattle.cells.specs.Checking.{checked}
use Rattle.verdicts.specs.Program.{accepted_text, bad_length_text, too_long_text, place_text, reason_text}
use Rattle.verdicts.specs.Program.{verdict_text, line}

-- 1001, and 1001 again
abbrev pub twice : List ℕ
twice = 0x20 ∷ 0x50 ∷ replicate 6 0 ++ 0x20 ∷ 0x50 ∷ replicate 6 0

abbrev pub twelve : List ℕ
twelve = 1000 ∷ 1001 ∷ 1002 ∷ 1003 ∷ 1010 ∷ 1011 ∷ 1012 ∷ 1013 ∷ 110 ∷ 111 ∷ 200 ∷ 201 ∷ []

pub record Examples : Type 0 where
  pub none : line [] ≡ accepted_text ++ (10 ∷ [])
  pub one : line (bytes 8 (words_for (1001 ∷ []))) ≡ accepted_text ++ (10 ∷ [])
  -- "place 1 reason 3"
  pub same : line twice ≡ place_text ++ (49 ∷ []) ++ reason_text ++ (51 ∷ 10 ∷ [])
  -- "place 12 reason 1"
  pub twelfth : line (bytes 8 (words_for twelve) ++ replicate 8 0)
      ≡ place_text ++ (49 ∷ 50 ∷ []) ++ reason_text ++ (49 ∷ 10 ∷ [])
  pub seven : line (replicate 7 32) ≡ bad_length_text ++ (10 ∷ [])
  pub nine : line (replicate 9 0) ≡ bad_length_text ++ (10 ∷ [])

-- "one above 4,096 words", and "checked first"
pub record Bounds : Type 0 where
  pub words_4096 : (file : List ℕ) → length file ≡ 32768 → line file ≡ verdict_text (checked (words_in file)) ++ (10 ∷ [])
  pub words_4097 : (file : List ℕ) → length file ≡ 32776 → line file ≡ too_long_text ++ (10 ∷ [])
  pub bytes_32769 : (file : List ℕ) → length file ≡ 32769 → line file ≡ bad_length_text ++ (10 ∷ [])
  pub bytes_32777 : (file : List ℕ) → length file ≡ 32777 → line file ≡ bad_length_text ++ (10 ∷ [])

-- Wrong programs, each by a line of its own.
pub record Mistakes : Type 0 where
  -- takes the last byte first: 0x2050000000000000 is then 0x5020, which is no code
  pub last_first : line twice ≡ place_text ++ (48 ∷ []) ++ reason_text ++ (49 ∷ 10 ∷ []) → ⊥
  -- lets the bytes over go
  pub bytes_over : line (replicate 1 0) ≡ accepted_text ++ (10 ∷ []) → ⊥
  -- looks at the length in words first
  pub long_first : (file : List ℕ) → length file ≡ 32777 → line file ≡ too_long_text ++ (10 ∷ []) → ⊥
  -- writes no line end
  pub no_end : line [] ≡ accepted_text → ⊥
