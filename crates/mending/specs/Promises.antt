-- Document 02, 2026-10: what is promised of mending, beside the contract. Assumes nothing.
use Rattle.std.specs.Prelude.{◌≡◌, true, false, List, [], ℕ, ◌<◌, ◌≤◌, length, get_or}
use Rattle.frame.specs.Promises.{KeepsLent}
use Rattle.words.specs.Words.{degree_of}
use Rattle.cells.specs.Order.{valid}
use Rattle.cells.specs.Checking.{accepted, checked}
use Rattle.mending.specs.Mending.{whole_in, mended, changes}
use Rattle.mending.specs.Covering.{SameCover}
use Rattle.mending.specs.Answers.{Lists, refuse_mend, no_mend, MendResult}

-- Demand 1, of this call: exactly one answer for every input, a refusal by its number, with zeros, and the three lent
-- lists as they were.
pub record OneAnswer : Type 0 where
  pub mend : (ws : List ℕ) (l : Lists)
      → KeepsLent (refuse_mend ws l) (MendResult ws l) (λ r. r.refusal) no_mend l

abbrev pub AllValid : List ℕ → Type 0
AllValid ws = (i : ℕ) → i < length ws → valid (get_or ws i 0) ≡ true

-- no four whole children
abbrev pub NoFour : List ℕ → Type 0
NoFour ws = (u : ℕ) → valid u ≡ true → degree_of u < 24 → whole_in ws u ≡ false

-- For any list, of any length.
pub record Mends : Type 0 where
  -- "The mended list passes the checker"
  pub passes : (ws : List ℕ) → checked (mended ws) ≡ accepted
  -- "and covers exactly the same triangles of degree 24 as the valid words did"
  pub covers : (ws : List ℕ) → SameCover (mended ws) ws
  -- "mending it again changes nothing"
  pub again : (ws : List ℕ) → (mended (mended ws) ≡ mended ws) × (changes (mended ws) ≡ [])
  -- "and no shorter list of triangles covers the same": of valid codes, in any order
  pub shortest : (ws us : List ℕ) → AllValid us → SameCover us ws → length (mended ws) ≤ length us
  -- "as long as any four remain"
  pub no_four : (ws : List ℕ) → NoFour (mended ws)
  -- and it is the only list that passes the checker, covers the same and has no four whole children
  pub only : (ws us : List ℕ) → checked us ≡ accepted → NoFour us → SameCover us ws → us ≡ mended ws
  -- lists as long as the input are long enough
  pub fits : (ws : List ℕ) → (length (mended ws) ≤ length ws) × (length (changes ws) ≤ length ws)
