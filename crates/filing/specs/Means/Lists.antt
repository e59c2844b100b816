-- The words of all triangles that hold a direction, side by side, and where they are put. Assumes nothing.
use Rattle.std.specs.Prelude.{ℕ, zero, suc, ◌+◌, ◌≤◌, ◌-◌, ◌≡◌, List, [], ◌++◌, length, take, drop}
use Rattle.frame.specs.Answers.{over}
use Rattle.words.specs.Words.{word_of}
use Rattle.net.specs.Division.{each}
use Rattle.filing.specs.Means.Descent.{holders}
use Rattle.filing.specs.Means.Sides.{side_dets}
use Rattle.filing.specs.declared.Direction.{Direction}

-- f k ++ f (k + 1) ++ .., m of them
unfoldable pub joined : (m k : ℕ) → (ℕ → List ℕ) → List ℕ
joined zero k f = []
joined (suc m) k f = f k ++ joined m (suc k) f

-- xs in the places from c on, and what was there in the others
abbrev pub put : (c : ℕ) → List ℕ → List ℕ → List ℕ
put c xs out = take c out ++ over xs (drop c out)

-- there is room for xs from the place c on; and they have been put there, up to the place r
abbrev pub Room : (c : ℕ) → List ℕ → (out : List ℕ) → Type 0
Room c xs out = c + length xs ≤ length out

pub record Puts (c : ℕ) (xs out : List ℕ) (r : ℕ) (new : List ℕ) : Type 0 where
  pub count : r ≡ c + length xs
  pub list : new ≡ put c xs out

-- the words of the triangles of degree n in the side s that hold d; in the sides s to 23
unfoldable pub side_words : Direction → (n s : ℕ) → List ℕ
side_words d n s = each (word_of s n) (holders n (side_dets d s) 0)

unfoldable pub all_words : Direction → (n s : ℕ) → List ℕ
all_words d n s = joined (24 - s) s (side_words d n)
