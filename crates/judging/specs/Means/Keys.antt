-- The words of a list as numbers that they are sorted by. Assumes nothing.
use Rattle.std.specs.Prelude.{◌≡◌, cond, List, [], ◌∷◌, ◌++◌, map, ℕ, suc, ◌+◌, ◌-◌, ◌*◌, ◌%◌, ◌^◌, ◌≤◌, ◌<◌, eqb, length, get_or, take, drop}
use Rattle.cells.specs.Order.{valid}
use Rattle.cells.specs.Means.Ranks.{rank}

-- a code's rank; 0 for a word that is no code
unfoldable pub key : ℕ → ℕ
key w = cond (valid w) (rank w) 0

-- of a key that is not 0: those of the codes inside are above it, and below its end
unfoldable pub end_of : ℕ → ℕ
end_of k = k - k % 64 + 2 ^ (54 - 2 * (k % 64))

-- the places, from `first` on, of the keys that are not 0
unfoldable pub code_places : (first : ℕ) (keys : List ℕ) → List ℕ
code_places i [] = []
code_places i (k ∷ ks) = cond (eqb k 0) (code_places (suc i) ks) (i ∷ code_places (suc i) ks)

-- a list of words as it is taken in: their keys, the places of the codes, and the reason 1 of all others
pub record Numbered (ws keys places why : List ℕ) (codes : ℕ) : Type 0 where
  pub few : codes ≤ length ws
  pub keys_are : take (length ws) keys ≡ map key ws
  pub places_are : take codes places ≡ code_places 0 (map key ws)
  pub invalid : (p : ℕ) → p < length ws → key (get_or ws p 0) ≡ 0 → get_or why p 0 ≡ 1

-- the same of its first i words, where ks are all keys
pub record NumberedTo (ks : List ℕ) (i : ℕ) (keys places why : List ℕ) (codes : ℕ) : Type 0 where
  pub few : codes ≤ i
  pub keys_are : take i keys ≡ take i ks
  pub places_are : take codes places ++ code_places i (drop i ks) ≡ code_places 0 ks
  pub invalid : (p : ℕ) → p < i → get_or ks p 0 ≡ 0 → get_or why p 0 ≡ 1
