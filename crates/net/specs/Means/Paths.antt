-- Digits as one number, the last lowest: what the code holds. Assumes nothing.
use Rattle.std.specs.Prelude.{ℕ, zero, suc, ◌+◌, ◌*◌, ◌%◌, ◌/◌, List, [], ◌∷◌}
use Rattle.net.specs.Means.States.{last_of, halves}
use Rattle.net.specs.declared.State.{State}

-- n digits of v, the last first
unfoldable pub digits_of : (n v : ℕ) → List ℕ
digits_of zero v = []
digits_of (suc n) v = v % 4 ∷ digits_of n (v / 4)

-- the path of the n digits that lead to a state, by halving
unfoldable pub path_up : ℕ → State → ℕ
path_up zero a = 0
path_up (suc n) a = 4 * path_up n (halves (last_of a) a) + last_of a
