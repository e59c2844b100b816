-- A triangle inside one side: which way it points, and its floor, the least of its corners' weights on each of the side's three corners.
-- `Up x y z` has the corners (x+1,y,z), (x,y+1,z), (x,y,z+1), `Down x y z` the corners (x,y+1,z+1), (x+1,y,z+1), (x+1,y+1,z). Assumes nothing.
use Rattle.std.specs.Prelude.{ℕ, zero, suc, ◌-◌, ◌*◌, ◌/◌, ◌%◌, ◌<◌, Bool, true, false, List, [], ◌∷◌, eqb}
use Rattle.net.specs.Sides.{nth}
use Rattle.net.specs.declared.State.{State}
use Rattle.net.specs.declared.State.TheVariants.{Up, Down}
use Rattle.net.specs.declared.Point.{Point}

abbrev pub point : (x y z : ℕ) → Point
point x y z = record { w1 = x; w2 = y; w3 = z }

-- corners 1, 2, 3
abbrev pub first : State → Point
first (Up x y z) = point (suc x) y z
first (Down x y z) = point x (suc y) (suc z)

abbrev pub second : State → Point
second (Up x y z) = point x (suc y) z
second (Down x y z) = point (suc x) y (suc z)

abbrev pub third : State → Point
third (Up x y z) = point x y (suc z)
third (Down x y z) = point (suc x) (suc y) z

abbrev pub point_of : ℕ → State → Point
point_of i s = nth i (first s) (second s) (third s)

-- the child with digit d
abbrev pub step : ℕ → State → State
step zero (Up x y z) = Down (2 * x) (2 * y) (2 * z)
step zero (Down x y z) = Up (suc (2 * x)) (suc (2 * y)) (suc (2 * z))
step (suc zero) (Up x y z) = Up (suc (2 * x)) (2 * y) (2 * z)
step (suc zero) (Down x y z) = Down (2 * x) (suc (2 * y)) (suc (2 * z))
step (suc (suc zero)) (Up x y z) = Up (2 * x) (suc (2 * y)) (2 * z)
step (suc (suc zero)) (Down x y z) = Down (suc (2 * x)) (2 * y) (suc (2 * z))
step (suc (suc (suc k))) (Up x y z) = Up (2 * x) (2 * y) (suc (2 * z))
step (suc (suc (suc k))) (Down x y z) = Down (suc (2 * x)) (suc (2 * y)) (2 * z)

unfoldable pub state_of : List ℕ → State
state_of [] = Up 0 0 0
state_of (d ∷ ds) = step d (state_of ds)

-- the last digit, from the parities of the floor (of the floor and 1 for Down): three odd for 0, only one odd for its axis
abbrev pub parity : ℕ → ℕ → ℕ
parity zero zero = 3
parity zero (suc q) = 2
parity (suc p) zero = 1
parity (suc p) (suc q) = 0

abbrev pub last_of : State → ℕ
last_of (Up x y z) = parity (x % 2) (y % 2)
last_of (Down x y z) = parity (suc x % 2) (suc y % 2)

-- the triangle of which it is the child with digit d: half of the floor, turned over where d is 0
abbrev pub halves : ℕ → State → State
halves zero (Up x y z) = Down (x / 2) (y / 2) (z / 2)
halves zero (Down x y z) = Up (x / 2) (y / 2) (z / 2)
halves (suc d) (Up x y z) = Up (x / 2) (y / 2) (z / 2)
halves (suc d) (Down x y z) = Down (x / 2) (y / 2) (z / 2)

-- every part of the floor is below b
abbrev pub Low : ℕ → State → Type 0
Low b (Up x y z) = (x < b) × (y < b) × (z < b)
Low b (Down x y z) = (x < b) × (y < b) × (z < b)

-- ---- the step across edge k inside the side

-- What lies across an edge: something inside the side, or nothing.
pub data Move (A : Type 0) : Type 0 where
  inside : A → Move A
  outside : Move A

abbrev pub map : {A B : Type 0} → (A → B) → Move A → Move B
map f (inside a) = inside (f a)
map f outside = outside

-- an up triangle loses 1 on axis k, and a down triangle gains 1; one with nothing to lose there has its edge on the side's own
abbrev pub across : ℕ → State → Move State
across zero s = outside
across (suc zero) (Up zero y z) = outside
across (suc zero) (Up (suc x) y z) = inside (Down x y z)
across (suc zero) (Down x y z) = inside (Up (suc x) y z)
across (suc (suc zero)) (Up x zero z) = outside
across (suc (suc zero)) (Up x (suc y) z) = inside (Down x y z)
across (suc (suc zero)) (Down x y z) = inside (Up x (suc y) z)
across (suc (suc (suc k))) (Up x y zero) = outside
across (suc (suc (suc k))) (Up x y (suc z)) = inside (Down x y z)
across (suc (suc (suc k))) (Down x y z) = inside (Up x y (suc z))

-- the same in digits, from the last upwards: 0 becomes k, k becomes 0, and that is all; either other digit becomes the third, and the step goes on
abbrev pub pick : Bool → Move (List ℕ) → Move (List ℕ) → Move (List ℕ)
pick true a b = a
pick false a b = b

unfoldable pub cross : ℕ → List ℕ → Move (List ℕ)
cross k [] = outside
cross k (d ∷ ds) =
    pick (eqb d 0) (inside (k ∷ ds)) (pick (eqb d k) (inside (0 ∷ ds)) (map (λ es. (6 - k - d) ∷ es) (cross k ds)))
