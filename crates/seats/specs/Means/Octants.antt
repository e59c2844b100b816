-- The sides by the signs and sizes of a direction's coordinates, and its determinants there. What the code is proved
-- by, and no promise. Assumes nothing.
use Rattle.std.specs.Prelude.{ℕ, zero, suc, ◌+◌, ◌-◌, ◌*◌, List, [], ◌∷◌, get_or, ℤ, pos, negsuc}
use Rattle.std.specs.Int.Bits.{bit_xor}
use Rattle.golden.specs.Numbers.{golden, whole, ◌+φ◌, negφ}
use Rattle.golden.specs.declared.Golden.{Golden}
use Rattle.net.specs.Sides.{nth}
use Rattle.filing.specs.Holding.{◌-φ◌, three}
use Rattle.filing.specs.declared.Determinants.{Determinants}
use Rattle.filing.specs.declared.Direction.{Direction}
use Rattle.shares.specs.Means.Shares.{times}

abbrev pub phi : Golden
phi = golden (pos 0) (pos 1)

-- ---- the determinants in the octant where no coordinate is negative: by the sizes a, b, c of the three

-- in the middle side: b + c + (c - a)φ
abbrev pub lean : (a b c : ℕ) → Golden
lean a b c = whole (pos b) +φ (whole (pos c) +φ times c phi) -φ times a phi

-- in the side beyond: c - b + (a + c)φ, the opposite of the above, 2bφ
abbrev pub outer : (a b c : ℕ) → Golden
outer a b c = times a phi +φ (whole (pos c) +φ times c phi) -φ whole (pos b)

abbrev pub double : ℕ → Golden
double b = times b phi +φ times b phi

-- Three roles, by the kind of side: the middle one of the octant (0), or that beyond its edge 1, 2 or 3.
abbrev pub role_of : (kind role a b c : ℕ) → Golden
role_of zero i a b c = nth i (lean a b c) (lean b c a) (lean c a b)
role_of (suc zero) i a b c = nth i (outer a b c) (negφ (lean a b c)) (double b)
role_of (suc (suc zero)) i a b c = nth i (outer b c a) (negφ (lean b c a)) (double c)
role_of (suc (suc (suc k))) i a b c = nth i (outer c a b) (negφ (lean c a b)) (double a)

abbrev pub roles_of : (kind a b c : ℕ) → Determinants
roles_of k a b c = three (role_of k 1 a b c) (role_of k 2 a b c) (role_of k 3 a b c)

-- ---- the octants

-- 1 for a negative coordinate; for 0, which has no sign, the one that is chosen
abbrev pub sign_at : ℤ → (chosen : ℕ) → ℕ
sign_at (pos zero) z = z
sign_at (pos (suc n)) z = 0
sign_at (negsuc n) z = 1

-- An octant and a kind as one number, for signs that are chosen so where a coordinate is 0.
abbrev pub seat : (q r s kind : ℕ) → ℕ
seat q r s k = 4 * (q + 2 * r + 4 * s) + k

abbrev pub seat_of : Direction → (x y z kind : ℕ) → ℕ
seat_of d x y z k = seat (sign_at d.x x) (sign_at d.y y) (sign_at d.z z) k

-- Of two sides that hold a direction, the one that comes first is that of these signs.
abbrev pub first_x : Direction → ℕ
first_x d = sign_at d.x 0

abbrev pub first_y : Direction → ℕ
first_y d = sign_at d.y (1 - first_x d)

abbrev pub first_z : Direction → ℕ
first_z d = sign_at d.z (first_y d)

-- where the direction lies on the edge between two sides: the octant of the other, which has the other sign for the
-- coordinate 0
abbrev pub other_octant : (octant kind : ℕ) → ℕ
other_octant o zero = bit_xor o 1
other_octant o (suc zero) = bit_xor o 2
other_octant o (suc (suc zero)) = bit_xor o 4
other_octant o (suc (suc (suc k))) = bit_xor o 1

-- ---- the sides, by octant and kind: which side it is, and which of the three roles stands at its corners 1 and 2

abbrev pub side_list : List ℕ
side_list =
    8 ∷ 9 ∷ 12 ∷ 4 ∷ 16 ∷ 17 ∷ 12 ∷ 20 ∷ 5 ∷ 7 ∷ 23 ∷ 4 ∷ 21 ∷ 19 ∷ 23 ∷ 20 ∷ 11 ∷ 9
    ∷ 13 ∷ 10 ∷ 15 ∷ 17 ∷ 13 ∷ 14 ∷
    6 ∷ 7 ∷ 22 ∷ 10 ∷ 18 ∷ 19 ∷ 22 ∷ 14 ∷ []

abbrev pub first_list : List ℕ
first_list =
    1 ∷ 2 ∷ 3 ∷ 1 ∷ 1 ∷ 2 ∷ 3 ∷ 1 ∷ 3 ∷ 1 ∷ 3 ∷ 2 ∷ 3 ∷ 1 ∷ 3 ∷ 2 ∷ 3 ∷ 1 ∷ 3 ∷ 2
    ∷ 3 ∷ 1 ∷ 3 ∷ 2 ∷ 1 ∷ 2 ∷ 3 ∷ 1 ∷ 1
    ∷ 2 ∷ 3 ∷ 1 ∷ []

abbrev pub second_list : List ℕ
second_list =
    2 ∷ 3 ∷ 1 ∷ 2 ∷ 3 ∷ 1 ∷ 2 ∷ 3 ∷ 2 ∷ 3 ∷ 2 ∷ 1 ∷ 1 ∷ 2 ∷ 1 ∷ 3 ∷ 2 ∷ 3 ∷ 2 ∷ 1
    ∷ 1 ∷ 2 ∷ 1 ∷ 3 ∷ 2 ∷ 3 ∷ 1 ∷ 2 ∷ 3
    ∷ 1 ∷ 2 ∷ 3 ∷ []

unfoldable pub side_at : ℕ → ℕ
side_at k = get_or side_list k 0

unfoldable pub first_at : ℕ → ℕ
first_at k = get_or first_list k 0

unfoldable pub second_at : ℕ → ℕ
second_at k = get_or second_list k 0

abbrev pub third_at : ℕ → ℕ
third_at k = 6 - first_at k - second_at k

-- the sides of a kind, five bits for each octant
abbrev pub row_of : (kind : ℕ) → ℕ
row_of zero = 625433286152
row_of (suc zero) = 660931714601
row_of (suc (suc zero)) = 779987180940
row_of (suc (suc (suc k))) = 492254663300
