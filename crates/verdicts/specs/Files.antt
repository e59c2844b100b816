-- Document 02, 2026-09: what is kept of a file, of any length, in a buffer of fixed size. Assumes nothing.
use Rattle.std.specs.Prelude.{◌≡◌, cond, List, ◌++◌, ℕ, ◌+◌, ◌%◌, ◌≤◌, ltb, length, take}
use Rattle.lines.specs.Writing.{Wrote}

-- The length of a file as far as its line depends on it: past 4,096 words as if it were 4,097, with its remainder by 8.
unfoldable pub folded : ℕ → ℕ
folded n = cond (ltb 32768 n) (32776 + n % 8) n

-- Of the file the buffer has all bytes, unless these are more than 4,096 words; and its length is kept so far.
pub record Holds (file head : List ℕ) (size : ℕ) : Type 0 where
  pub sized : size ≡ folded (length file)
  pub front : length file ≤ 32768 → take (length file) head ≡ file

-- What is held of any file is, after its next bytes, what is held of both.
abbrev pub TakesIn : (next old : List ℕ) (size : ℕ) (new : List ℕ) (r : ℕ) → Type 0
TakesIn next old n new r = (file : List ℕ) → Holds file old n → Holds (file ++ next) new r

-- The text of the file that is held stands over the front of a buffer, and r is its length; whatever `size` is, r is at
-- most `most`.
pub record WritesOf (text_of : List ℕ → List ℕ) (most : ℕ) (head : List ℕ) (size r : ℕ) (old new : List ℕ) : Type 0 where
  pub within : r ≤ most
  pub wrote : (file : List ℕ) → Holds file head size → Wrote most (text_of file) 0 r old new
