-- docs/CONSOLE.md, save and open: a table as the bytes of a file. Assumes nothing.
use Rattle.std.specs.Prelude.{ℕ, ◌+◌, ◌-◌, ◌*◌, ◌^◌, cond, List, ◌∷◌, ◌++◌, map, leb, eqb, ℤ, pos, negsuc, take, drop}
use Rattle.octets.specs.Bytes.{bytes, number_of, read_each}
use Rattle.tables.specs.Tables.{none}
use Rattle.tables.specs.Owners.{Shared}

-- ---- written

-- "a number below 0 in two's complement": -1 - r as 256^8 - 1 - r
abbrev pub word_of : ℤ → ℕ
word_of (pos r) = r
word_of (negsuc r) = 256 ^ 8 - 1 - r

-- "its degree, the readings and the owners in the order of their places, eight bytes a number, the most significant
-- first"
abbrev pub file_of : (degree : ℕ) → Shared → List ℕ
file_of n s = bytes 8 (n ∷ (map word_of s.readings ++ s.owners))

-- ---- read

-- what a number of a file is as one of the readings: 0 to 100,000, or -1, and every other one is bad, here -2
unfoldable pub reading_of : ℕ → ℤ
reading_of w = cond (leb w 100000) (pos w) (cond (eqb w (256 ^ 8 - 1)) none (negsuc 1))

-- and as one of the owners: 0, 1 or 2, and every other one is another number, here 3
unfoldable pub owner_of : ℕ → ℕ
owner_of w = cond (leb w 2) w 3

-- the degree, m readings, and m owners after k readings
abbrev pub degree_in : List ℕ → ℕ
degree_in bs = number_of (take 8 bs)

abbrev pub readings_in : (m : ℕ) → List ℕ → List ℤ
readings_in m bs = read_each reading_of 8 m (drop 8 bs)

abbrev pub owners_in : (k m : ℕ) → List ℕ → List ℕ
owners_in k m bs = read_each owner_of 8 m (drop (8 * (1 + k)) bs)
