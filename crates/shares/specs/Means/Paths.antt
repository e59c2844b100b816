-- The digits of the triangles that hold a direction, by its floors and gaps alone. What the code is proved by, and no
-- promise. Assumes nothing.
use Rattle.std.specs.Prelude.{ℕ, zero, suc, ◌+◌, ◌-◌, ◌*◌, ◌/◌, Bool, true, false, cond, List, [], ◌∷◌, ◌++◌, leb}
use Rattle.shares.specs.declared.Floors.{Floors}
use Rattle.shares.specs.declared.Gaps.{Gaps}
use Rattle.shares.specs.Means.Shares.{floors}

-- of four, by the first test that passes
abbrev pub pick : (p q r : Bool) → ℕ → ℕ → ℕ → ℕ → ℕ
pick true q r x y z w = x
pick false true r x y z w = y
pick false false true x y z w = z
pick false false false x y z w = w

-- The floors in the child with a digit, where an edge of the triangle has 2h parts and one of the child h. The gaps
-- stay.
unfoldable pub in_child : (h digit : ℕ) → Floors → Gaps → Floors
in_child h zero F G = floors (h - (F.f1 + G.g1)) (h - (F.f2 + G.g2)) (h - (F.f3 + G.g3))
in_child h (suc zero) F G = floors (F.f1 - h) F.f2 F.f3
in_child h (suc (suc zero)) F G = floors F.f1 (F.f2 - h) F.f3
in_child h (suc (suc (suc k))) F G = floors F.f1 F.f2 (F.f3 - h)

-- the least child that holds it: the middle one, unless a share is more than half
unfoldable pub least_digit : (h : ℕ) → Floors → Gaps → ℕ
least_digit h F G = pick (leb (suc h) (F.f1 + G.g1)) (leb (suc h) (F.f2 + G.g2)) (leb (suc h) (F.f3 + G.g3)) 1 2
    3 0

-- n digits further down from the path v of a triangle whose edge has p parts, by the least child each time
unfoldable pub least_path : (n p : ℕ) → Floors → Gaps → (v : ℕ) → ℕ
least_path zero p F G v = v
least_path (suc n) p F G v = least_path n (p / 2) (in_child (p / 2) (least_digit (p / 2) F G) F G) G (4 * v + least_digit
    (p / 2) F G)

-- The paths, n digits further down, of all triangles that hold it, rising: below the least child, and where that is
-- the middle one also below each
-- of the others with a share of half.
unfoldable pub paths : (n p : ℕ) → Floors → Gaps → (v : ℕ) → List ℕ
paths zero p F G v = v ∷ []
paths (suc n) p F G v =
    paths n (p / 2) (in_child (p / 2) (least_digit (p / 2) F G) F G) G (4 * v + least_digit (p / 2) F G)
    ++ cond (leb (least_digit (p / 2) F G) 0)
    (cond (leb (p / 2) F.f1) (paths n (p / 2) (in_child (p / 2) 1 F G) G (4 * v + 1)) []
    ++ cond (leb (p / 2) F.f2) (paths n (p / 2) (in_child (p / 2) 2 F G) G (4 * v + 2)) []
    ++ cond (leb (p / 2) F.f3) (paths n (p / 2) (in_child (p / 2) 3 F G) G (4 * v + 3)) [])
    []
