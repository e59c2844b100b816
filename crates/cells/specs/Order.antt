-- Document 02, 2026-09: which of two triangle codes comes first, and when one lies inside the other. Assumes nothing.
use Rattle.std.specs.Prelude.{Bool, true, false, cond, ◌&&◌, List, [], ◌∷◌, reverse, ℕ, ltb, eqb}
use Rattle.words.specs.Words.{degree_of, digits, side_of}
use Rattle.words.specs.Refusals.{check_code}
use Rattle.words.specs.Family.{code_of}

-- "a valid triangle code"
abbrev pub valid : ℕ → Bool
valid w = eqb (check_code (code_of w)) 0

-- A code by its letters: its side as one number, then its digits, the first first.
unfoldable pub spelled : ℕ → List ℕ
spelled w = side_of w ∷ reverse (digits w (degree_of w))

-- The one stands before the other as in a dictionary, where a word stands before those that begin with it.
unfoldable pub sooner : List ℕ → List ℕ → Bool
sooner [] [] = false
sooner [] (y ∷ ys) = true
sooner (x ∷ xs) [] = false
sooner (x ∷ xs) (y ∷ ys) = cond (eqb x y) (sooner xs ys) (ltb x y)

-- The second begins with the first and goes on.
unfoldable pub begins : List ℕ → List ℕ → Bool
begins [] [] = false
begins [] (y ∷ ys) = true
begins (x ∷ xs) [] = false
begins (x ∷ xs) (y ∷ ys) = eqb x y && begins xs ys

-- "Codes of different degree compare by side, then by digits, an ancestor before its descendants."
unfoldable pub less_than : ℕ → ℕ → Bool
less_than w u = sooner (spelled w) (spelled u)

-- w "lies inside" u: it has u's side and digits, and some digits more
unfoldable pub inside_of : ℕ → ℕ → Bool
inside_of w u = begins (spelled u) (spelled w)
