-- What the code's functions say of four places of a list; no promise speaks of it. Assumes nothing.
use Rattle.std.specs.Prelude.{ℕ, ◌+◌, List, [], ◌∷◌, ℤ, get_or}
use Rattle.tables.specs.Tables.{none}
use Rattle.coarse.specs.Sums.{present}

-- the present readings of the four places from i on
abbrev pub present_from : (i : ℕ) → List ℤ → List ℕ
present_from i list =
    present (get_or list i none ∷ get_or list (i + 1) none ∷ get_or list (i + 2) none ∷ get_or list (i + 3) none ∷ [])
