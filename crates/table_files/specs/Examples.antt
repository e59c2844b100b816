-- A table's file: a short one, a fresh table's, and numbers at their bounds. (The lists of the short one are shorter
-- than a table's: how many places there are is checked elsewhere.) Assumes nothing.
use Rattle.std.specs.Prelude.{◌≡◌, List, [], ◌∷◌, ◌++◌, ℕ, ◌-◌, ◌^◌, pos, negsuc, length, replicate}
use Rattle.tables.specs.Tables.{none}
use Rattle.tables.specs.Owners.{shared, fresh_shared}
use Rattle.table_files.specs.Files.{word_of, file_of, reading_of, owner_of, degree_in, readings_in, owners_in}

-- degree 6, two places: 70,000 mm (1, 17 and 112 in bytes) and no reading, nobody's and the pilotage's
abbrev pub two : List ℕ
two =
    (0 ∷ 0 ∷ 0 ∷ 0 ∷ 0 ∷ 0 ∷ 0 ∷ 6 ∷ [])
    ++ (0 ∷ 0 ∷ 0 ∷ 0 ∷ 0 ∷ 1 ∷ 17 ∷ 112 ∷ [])
    ++ (255 ∷ 255 ∷ 255 ∷ 255 ∷ 255 ∷ 255 ∷ 255 ∷ 255 ∷ [])
    ++ (0 ∷ 0 ∷ 0 ∷ 0 ∷ 0 ∷ 0 ∷ 0 ∷ 0 ∷ [])
    ++ (0 ∷ 0 ∷ 0 ∷ 0 ∷ 0 ∷ 0 ∷ 0 ∷ 2 ∷ [])

pub record Examples : Type 0 where
  pub written : file_of 6 (shared (pos 70000 ∷ none ∷ []) (0 ∷ 2 ∷ [])) ≡ two
  pub degree : degree_in two ≡ 6
  pub readings : readings_in 2 two ≡ pos 70000 ∷ none ∷ []
  pub owners : owners_in 2 2 two ≡ 0 ∷ 2 ∷ []
  -- of a fresh table of degree 0: 41 numbers
  pub fresh : file_of 0 (fresh_shared 0) ≡ replicate 8 0 ++ replicate 160 255 ++ replicate 160 0
  pub long : length (file_of 0 (fresh_shared 0)) ≡ 328

-- each bound, and the first number past it
pub record Bounds : Type 0 where
  pub reading_0 : reading_of 0 ≡ pos 0
  pub reading_most : reading_of 100000 ≡ pos 100000
  pub reading_above : reading_of 100001 ≡ negsuc 1
  pub reading_none : reading_of (2 ^ 64 - 1) ≡ none
  pub reading_below : reading_of (2 ^ 64 - 2) ≡ negsuc 1
  -- what is -1 or 0 in fewer bits
  pub reading_32 : reading_of (2 ^ 32 - 1) ≡ negsuc 1
  pub reading_33 : reading_of (2 ^ 32) ≡ negsuc 1
  pub word_none : word_of none ≡ 2 ^ 64 - 1
  pub word_most : word_of (pos 100000) ≡ 100000
  pub owner_most : owner_of 2 ≡ 2
  pub owner_above : owner_of 3 ≡ 3
  pub owner_8 : owner_of (2 ^ 8) ≡ 3
