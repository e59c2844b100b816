-- Merging on ranks: four in a row become one, in one pass over a list for each degree. Assumes nothing.
use Rattle.std.specs.Prelude.{◌≡◌, Bool, false, cond, ◌&&◌, List, [], ◌∷◌, ◌++◌, map, ℕ, zero, suc, ◌+◌, ◌-◌, ◌*◌, ◌/◌, ◌%◌, ◌^◌, ◌<◌, eqb, length, get_or, take, drop}
use Rattle.mending.specs.Means.InRows.{joined, joins}

-- ---- ranks and words

abbrev pub Small : List ℕ → Type 0
Small rs = (i : ℕ) → i < length rs → get_or rs i 0 < 2 ^ 59

-- side, digits and degree of a rank in the places of a word
unfoldable pub word_at : ℕ → ℕ
word_at r = r / 2 ^ 54 * 2 ^ 59 + r % 32 * 2 ^ 54 + (r % 2 ^ 54 - r % 32)

-- ---- by ranks

-- the ranks of the four children of a triangle of degree d, in order
unfoldable pub in_ranks : (d a b c e : ℕ) → Bool
in_ranks d a b c e =
    let u = 2 ^ (52 - 2 * d) in
    eqb (a % (4 * u)) (suc d) && (eqb b (a + u) && (eqb c (a + 2 * u) && eqb e (a + 3 * u)))

-- a triangle comes just before its first child
abbrev pub before : ℕ → ℕ
before a = a - 1

abbrev pub joined_at : (d : ℕ) → List ℕ → List ℕ
joined_at d = joined (in_ranks d) before

abbrev pub joins_at : (d : ℕ) → List ℕ → List ℕ
joins_at d = joins (in_ranks d) before

unfoldable pub joined_below : (d : ℕ) → List ℕ → List ℕ
joined_below zero rs = rs
joined_below (suc d) rs = joined_below d (joined_at d rs)

unfoldable pub joins_below : (d : ℕ) → List ℕ → List ℕ
joins_below zero rs = []
joins_below (suc d) rs = joins_at d rs ++ joins_below d (joined_at d rs)

-- whether the first four are such
unfoldable pub starts_four : (d : ℕ) → List ℕ → Bool
starts_four d [] = false
starts_four d (a ∷ []) = false
starts_four d (a ∷ b ∷ []) = false
starts_four d (a ∷ b ∷ c ∷ []) = false
starts_four d (a ∷ b ∷ c ∷ e ∷ ws) = in_ranks d a b c e

abbrev pub fives : List ℕ → List ℕ
fives us = map (λ u. 5) us

-- ---- the dropped words

-- the words that have a reason, and these
unfoldable pub dropped_words : (words why : List ℕ) → List ℕ
dropped_words [] rs = []
dropped_words (w ∷ ws) [] = []
dropped_words (w ∷ ws) (r ∷ rs) = cond (eqb r 0) (dropped_words ws rs) (w ∷ dropped_words ws rs)

unfoldable pub dropped_reasons : (words why : List ℕ) → List ℕ
dropped_reasons [] rs = []
dropped_reasons (w ∷ ws) [] = []
dropped_reasons (w ∷ ws) (r ∷ rs) = cond (eqb r 0) (dropped_reasons ws rs) (r ∷ dropped_reasons ws rs)

-- ---- a lent list: xs written from place c on, the places after them as they were
pub record Added (old new : List ℕ) (c c' : ℕ) (xs : List ℕ) : Type 0 where
  pub count : c' ≡ c + length xs
  pub front : take c' new ≡ take c old ++ xs
  pub back : drop c' new ≡ drop c' old
