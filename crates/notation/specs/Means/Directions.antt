-- Domains and the codes of their base vertices, digit for digit. Where a domain S(Σr) has the orientation o and its
-- base vertex the code Ts, r tells s and s tells r by one table: s is r xor (2 + o). So (40) to (43), and (52) to (54),
-- are one rule, read from the last digit to the first. Assumes nothing.
use Rattle.std.specs.Prelude.{ℕ, zero, suc, ◌+◌, ◌-◌, ◌*◌, ◌/◌, ◌%◌, ◌≡◌, Bool, true, false, ◌&&◌, cond, List, [], ◌∷◌, eqb, leb, Option, Some, None}
use Rattle.words.specs.Words.{path}
use Rattle.net.specs.Refusals.{on_side}
use Rattle.net.specs.Sides.{IsSide}
use Rattle.net.specs.Division.{Weights}
use Rattle.net.specs.Means.Spreads.{point_in}
use Rattle.net.specs.declared.State.{State}
use Rattle.net.specs.declared.State.TheVariants.{Up, Down}
use Rattle.net.specs.declared.Point.{Point}
use Rattle.notation.specs.declared.Turned.{Turned}

-- the direction of a part, or the part of a direction, where the part has the orientation o
abbrev pub other : (o d : ℕ) → ℕ
other zero zero = 2
other zero (suc zero) = 3
other zero (suc (suc zero)) = 0
other zero (suc (suc (suc d))) = 1
other (suc o) zero = 3
other (suc o) (suc zero) = 2
other (suc o) (suc (suc zero)) = 1
other (suc o) (suc (suc (suc d))) = 0

-- (29) O(Σ0) = O(Σ)*, O(Σ1) = O(Σ), ..: the orientation of Σ, by that of Σr, and the other way round
abbrev pub turned : (r o : ℕ) → ℕ
turned zero o = 1 - o
turned (suc r) o = o

-- digits of a domain, the last first, to those of its base vertex; o is the domain's orientation
unfoldable pub directions : (o : ℕ) → List ℕ → List ℕ
directions o [] = []
directions o (r ∷ rs) = other o r ∷ directions (turned r o) rs

-- and back
unfoldable pub parts : (o : ℕ) → List ℕ → List ℕ
parts o [] = []
parts o (s ∷ ss) = other o s ∷ parts (turned (other o s) o) ss

-- the orientation of the side that has the domain with these digits and the orientation o
unfoldable pub side_turn : (o : ℕ) → List ℕ → ℕ
side_turn o [] = o
side_turn o (r ∷ rs) = side_turn (turned r o) rs

-- what `parts_of` computes
abbrev pub turned_parts : (o : ℕ) → List ℕ → Turned
turned_parts o ss = record { orientation = side_turn o (parts o ss); path = path (parts o ss) }

-- ---- sides

-- (28) O(a00) = 0, O(a01) = 1, O(a10) = 1, O(a11) = 0
abbrev pub orientation : (s : ℕ) → ℕ
orientation s = (s / 2 + s) % 2

-- (38), (39): the domain of degree 0 with this orientation whose base vertex is V(ap)
abbrev pub base_side : (a p o : ℕ) → ℕ
base_side a p o = 4 * a + 2 * p + (p + o) % 2

-- ---- the domain of orientation 0 that has a point as corner 2: such a one points up in a side of orientation 0, and
-- down in one of orientation 1

-- whether a point of the side s is corner 2 of one of them
abbrev pub is_base : (s : ℕ) → Point → Bool
is_base s p = cond (eqb (orientation s) 0) (leb 1 p.w2) (leb 1 p.w1 && leb 1 p.w3)

abbrev pub base_state : (s : ℕ) → Point → State
base_state s p =
    cond (eqb (orientation s) 0) (Up p.w1 (p.w2 - 1) p.w3) (Down (p.w1 - 1) p.w2 (p.w3 - 1))

-- r is the side in which the corner with these weights is the base vertex of such a domain; it is none where there is no
-- such side
abbrev pub BaseFor : Weights → Option ℕ → Type 0
BaseFor w None = (s : ℕ) → IsSide s → on_side s 0 w ≡ true → is_base s (point_in s w) ≡ false
BaseFor w (Some s) = IsSide s × (on_side s 0 w ≡ true) × (is_base s (point_in s w) ≡ true)
