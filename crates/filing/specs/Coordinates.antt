-- Document 01, 'Vertices and sides': the table of directions; and 'Division and weights': exact coordinates. Assumes
-- nothing.
use Rattle.std.specs.Prelude.{ℕ, List, [], ◌∷◌, get_or, pos, negsuc}
use Rattle.golden.specs.Numbers.{golden, whole, ◌+φ◌, negφ, ◌*φ◌}
use Rattle.golden.specs.declared.Golden.{Golden}
use Rattle.net.specs.Division.{Weights}
use Rattle.filing.specs.declared.Coordinates.{Coordinates}

abbrev pub coordinates : Golden → Golden → Golden → Coordinates
coordinates a b c = record { x = a; y = b; z = c }

-- 0, 1, -1, φ, -φ
abbrev O : Golden
O = golden (pos 0) (pos 0)

abbrev I : Golden
I = golden (pos 1) (pos 0)

abbrev -I : Golden
-I = golden (negsuc 0) (pos 0)

abbrev Φ : Golden
Φ = golden (pos 0) (pos 1)

abbrev -Φ : Golden
-Φ = golden (pos 0) (negsuc 0)

abbrev pub origin : Coordinates
origin = coordinates O O O

-- "vertex | direction", in the order of the weights: 00, 01, 10, 20, 30, 40, 50, 11, 21, 31, 41, 51
abbrev pub directions : List Coordinates
directions =
    coordinates O I Φ ∷ coordinates O -I -Φ
    ∷ coordinates O -I Φ ∷ coordinates Φ O I ∷ coordinates I Φ O
    ∷ coordinates -I Φ O ∷ coordinates -Φ O I
    ∷ coordinates I -Φ O ∷ coordinates Φ O -I ∷ coordinates O I -Φ
    ∷ coordinates -Φ O -I ∷ coordinates -I -Φ O ∷ []

abbrev pub direction : (vertex : ℕ) → Coordinates
direction v = get_or directions v origin

infixl 6 ◌+ᵛ◌
abbrev pub ◌+ᵛ◌ : Coordinates → Coordinates → Coordinates
a +ᵛ b = coordinates (a.x +φ b.x) (a.y +φ b.y) (a.z +φ b.z)

abbrev pub times : Golden → Coordinates → Coordinates
times c a = coordinates (c *φ a.x) (c *φ a.y) (c *φ a.z)

-- "The exact coordinate is the weighted sum of the vertex directions, kept on each axis as two signed whole numbers u,
-- v for u + vφ."
abbrev pub weighted : List Coordinates → Weights → Coordinates
weighted [] ws = origin
weighted (v ∷ vs) [] = origin
weighted (v ∷ vs) (w ∷ ws) = times (whole (pos w)) v +ᵛ weighted vs ws

unfoldable pub exact : Weights → Coordinates
exact p = weighted directions p

-- Document 02, 2026-02: the coordinates of "the opposite corner"
abbrev pub negated : Coordinates → Coordinates
negated c = coordinates (negφ c.x) (negφ c.y) (negφ c.z)
