-- What is promised of a table's file, beside the contracts of `put_table`, `read_table` and `refuse_table`. Assumes
-- nothing.
use Rattle.std.specs.Prelude.{◌≡◌, true, false, List, ◌++◌, ◌↔◌, ℕ, ◌+◌, ◌*◌, ◌<◌, ℤ, length, get_or}
use Rattle.tables.specs.Tables.{places, is_bad}
use Rattle.tables.specs.Owners.{Shared, shared, is_other, IsShared}
use Rattle.tables.specs.Answers.{refused}
use Rattle.tables.specs.Promises.{IsLeastBad}
use Rattle.tables.specs.Answers.{TableAnswer}
use Rattle.table_files.specs.Files.{word_of, file_of, reading_of, owner_of, degree_in, readings_in, owners_in}
use Rattle.table_files.specs.Refusals.{refuse_table}

-- the table that is read of a file, as one of degree n
abbrev pub table_in : (degree : ℕ) → List ℕ → Shared
table_in n bs = shared (readings_in (places n) bs) (owners_in (places n) (places n) bs)

-- What is read of a table's file is that table, whatever follows in the memory that it is read from; and the file's
-- length: "so many bytes as 8 + 16*20*4^DEGREE".
pub record ThereAndBack : Type 0 where
  pub degree : (n : ℕ) (s : Shared) (rest : List ℕ) → IsShared n s → degree_in (file_of n s ++ rest) ≡ n
  pub readings : (n : ℕ) (s : Shared) (rest : List ℕ) → IsShared n s
      → readings_in (places n) (file_of n s ++ rest) ≡ s.readings
  pub owners : (n : ℕ) (s : Shared) (rest : List ℕ) → IsShared n s
      → owners_in (places n) (places n) (file_of n s ++ rest) ≡ s.owners
  pub long : (n : ℕ) (s : Shared) → IsShared n s → length (file_of n s) ≡ 8 * (1 + 2 * places n)

-- "checks all of it": what is read as a good number is what is written for it, and nothing else is read so.
pub record JustThat : Type 0 where
  pub reading : (w : ℕ) → is_bad (reading_of w) ≡ false → word_of (reading_of w) ≡ w
  pub owner : (w : ℕ) → is_other (owner_of w) ≡ false → owner_of w ≡ w
  -- a number that is written for no good one stays a bad one
  pub bad_reading : (w : ℕ) → ((x : ℤ) → is_bad x ≡ false → word_of x ≡ w → ⊥) → is_bad (reading_of w) ≡ true
  pub bad_owner : (w : ℕ) → is_other w ≡ true → is_other (owner_of w) ≡ true
  -- no other bytes are opened as a table than those of its file
  pub file : (n : ℕ) (bs : List ℕ) → ((i : ℕ) → i < length bs → get_or bs i 0 < 256)
      → length bs ≡ 8 * (1 + 2 * places n) → degree_in bs ≡ n → IsShared n (table_in n bs)
      → bs ≡ file_of n (table_in n bs)

-- "refused with 1, 20, 22, 23 (with its place) and 25": what is not refused is a table, and no table is refused; 23 has
-- the least bad place beside it, and no other refusal has one.
pub record Checked : Type 0 where
  pub table : (n : ℕ) (s : Shared) → (refuse_table n s ≡ 0) ↔ IsShared n s
  pub place : (n : ℕ) (s : Shared) (r : TableAnswer) → r ≡ refused s.readings (refuse_table n s)
      → r.refusal ≡ 23 → IsLeastBad s.readings r.place
  pub alone : (n : ℕ) (s : Shared) (r : TableAnswer) → r ≡ refused s.readings (refuse_table n s)
      → (r.refusal ≡ 23 → ⊥) → r.place ≡ 0
