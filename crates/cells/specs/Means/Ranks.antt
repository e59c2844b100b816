-- A means to the proofs, of which no promise speaks: the order of the tree as an order of numbers. Assumes nothing.
use Rattle.std.specs.Prelude.{◌≡◌, cond, List, [], ◌∷◌, ℕ, zero, suc, ◌+◌, ◌-◌, ◌*◌, ◌^◌, ◌<◌, ltb, eqb, get_or}
use Rattle.frame.specs.Refusals.{◌when◌, first_of}
use Rattle.words.specs.Words.{degree_of, digits, side_of, path}
use Rattle.cells.specs.Order.{valid}
use Rattle.cells.specs.Checking.{reason_at}
use Rattle.cells.specs.declared.Reach.{Reach}

-- The first of a triangle's triangles of degree 24, as side and digits in one number, and how many they are.
unfoldable pub start : ℕ → ℕ
start w = side_of w * 2 ^ 48 + path (digits w (degree_of w)) * 2 ^ (48 - 2 * degree_of w)

unfoldable pub width : ℕ → ℕ
width w = 2 ^ (48 - 2 * degree_of w)

-- Side, digits and degree: the fields in the order of the tree. Those inside it have ranks below its end.
unfoldable pub rank : ℕ → ℕ
rank w = 64 * start w + degree_of w

unfoldable pub end : ℕ → ℕ
end w = 64 * (start w + width w)

abbrev pub reach : ℕ → Reach
reach w = record { rank = rank w; end = end w }

-- the reach of the word before a place; nothing before the first
abbrev pub reach_before : (ws : List ℕ) (place : ℕ) → Reach
reach_before ws zero = record { rank = 0; end = 0 }
reach_before ws (suc i) = reach (get_or ws i 0)

-- The places below n offend in nothing.
abbrev pub ClearTo : List ℕ → ℕ → Type 0
ClearTo ws n = (j : ℕ) → j < n → reason_at ws j ≡ 0

-- The reasons but the first of a word with this rank after one with this reach.
unfoldable pub reason_by : (last : Reach) (rank : ℕ) → ℕ
reason_by l r =
    first_of (2 ∷ 3 ∷ 4 ∷ [])
    (2 when ltb r l.rank ∷ 3 when eqb r l.rank ∷ 4 when ltb r l.end ∷ [])

-- All reasons of a word after one with this reach.
unfoldable pub reason_after : (last : Reach) (w : ℕ) → ℕ
reason_after l w = cond (valid w) (reason_by l (rank w)) 1
