-- Document 02, 2026-09: what is promised of the program's line. Assumes nothing.
use Rattle.std.specs.Prelude.{◌≡◌, ◌↔◌, List, [], ◌++◌, ℕ, ◌%◌, ◌^◌, ◌<◌, ◌≤◌, length, get_or}
use Rattle.octets.specs.Bytes.{bytes, words_in}
use Rattle.lines.specs.Writing.{decimal}
use Rattle.cells.specs.Checking.{Accepted}
use Rattle.cells.specs.Promises.{FirstOffence}
use Rattle.cells.specs.Checking.{Verdict}
use Rattle.verdicts.specs.Program.{accepted_text, bad_length_text, too_long_text, place_text, reason_text}
use Rattle.verdicts.specs.Program.{text, line}
use Rattle.verdicts.specs.Files.{Holds}

pub record Lines : Type 0 where
  -- "accept a list exactly when": the file of such a list, of at most 4,096 words, and no other
  pub accepts : (file : List ℕ) → (text file ≡ accepted_text)
      ↔ ((length file % 8 ≡ 0) × (length (words_in file) ≤ 4096) × Accepted (words_in file))
  -- `"place P reason R" in decimal`: any other file of whole words, at most 4,096, by its first offence
  pub offends : (file : List ℕ) → length file % 8 ≡ 0 → length (words_in file) ≤ 4096 → (Accepted (words_in file) → ⊥)
      → (r : Verdict) × FirstOffence (words_in file) r
      × (text file ≡ place_text ++ decimal r.place ++ reason_text ++ decimal r.reason)
  -- "The empty list is accepted."
  pub empty : text [] ≡ accepted_text
  -- `A file whose length isn't a multiple of 8 is "bad length", checked first`
  pub bad : (file : List ℕ) → (text file ≡ bad_length_text) ↔ (length file % 8 ≡ 0 → ⊥)
  -- `one above 4,096 words is "too long"`
  pub long : (file : List ℕ) → (text file ≡ too_long_text)
      ↔ ((length file % 8 ≡ 0) × (4096 < length (words_in file)))
  -- "files of eight-byte codes, most significant byte first": the words of a file are those that it was made of
  pub back : (ws : List ℕ) → ((i : ℕ) → i < length ws → get_or ws i 0 < 2 ^ 64) → words_in (bytes 8 ws) ≡ ws

-- A file that is taken in part by part, to its end: what is held is enough, however it was cut.
pub record Reading : Type 0 where
  -- before the first byte
  pub begins : (head : List ℕ) → Holds [] head 0
  -- files of which the same is held have one line
  pub decides : (file file' head : List ℕ) (size : ℕ) → Holds file head size → Holds file' head size
      → line file ≡ line file'
