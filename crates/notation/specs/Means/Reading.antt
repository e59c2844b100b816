-- How the code reads and writes digits: a list of them as a path, and back. Assumes nothing.
use Rattle.std.specs.Prelude.{ℕ, ◌+◌, ◌*◌, Bool, true, false, List, [], ◌∷◌, reverse, leb, Option, Some, None}
use Rattle.words.specs.declared.CornerName.{CornerName}
use Rattle.net.specs.Division.{Weights}
use Rattle.net.specs.Names.{IsName}
use Rattle.net.specs.Means.Paths.{digits_of}
use Rattle.notation.specs.Same.{SameVertex}
use Rattle.notation.specs.declared.Vertex.{Vertex}

abbrev pub only : Bool → Option ℕ → Option ℕ
only true r = r
only false r = None

-- the path of digits after those of the path v, or that one of them is none
unfoldable pub taken : (v : ℕ) → List ℕ → Option ℕ
taken v [] = Some v
taken v (r ∷ rs) = only (leb r 3) (taken (4 * v + r) rs)

-- x is the code, of degree n, of the corner with these weights
abbrev pub IsVertexOf : (n : ℕ) → Weights → Vertex → Type 0
IsVertexOf n w x =
    (q : CornerName) → IsName n w q → SameVertex n (x.a ∷ x.p ∷ reverse (digits_of n x.path)) q
