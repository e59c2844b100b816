-- One degree's merges in one pass over a list in order: four in a row become one. Assumes nothing.
use Rattle.std.specs.Prelude.{Bool, cond, ◌&&◌, List, [], ◌∷◌, ℕ, suc, eqb}
use Rattle.words.specs.Words.{degree_of, digit_of}
use Rattle.words.specs.Family.{code_of, parent_of, child_of}

-- `row` is the test of four in a row, `up` of the first of them is what they become
unfoldable pub joined : (row : ℕ → ℕ → ℕ → ℕ → Bool) (up : ℕ → ℕ) → List ℕ → List ℕ
joined row up [] = []
joined row up (a ∷ []) = a ∷ []
joined row up (a ∷ b ∷ []) = a ∷ b ∷ []
joined row up (a ∷ b ∷ c ∷ []) = a ∷ b ∷ c ∷ []
joined row up (a ∷ b ∷ c ∷ e ∷ ws) =
    cond (row a b c e) (up a ∷ joined row up ws) (a ∷ joined row up (b ∷ c ∷ e ∷ ws))

-- and what they became
unfoldable pub joins : (row : ℕ → ℕ → ℕ → ℕ → Bool) (up : ℕ → ℕ) → List ℕ → List ℕ
joins row up [] = []
joins row up (a ∷ []) = []
joins row up (a ∷ b ∷ []) = []
joins row up (a ∷ b ∷ c ∷ []) = []
joins row up (a ∷ b ∷ c ∷ e ∷ ws) =
    cond (row a b c e) (up a ∷ joins row up ws) (joins row up (b ∷ c ∷ e ∷ ws))

-- the children of one triangle of degree d
unfoldable pub in_row : (d a b c e : ℕ) → Bool
in_row d a b c e =
    let t = parent_of (code_of a) in
    (eqb (degree_of a) (suc d) && eqb (digit_of a (suc d)) 0)
    && (eqb b (child_of t 1).0 && (eqb c (child_of t 2).0 && eqb e (child_of t 3).0))

abbrev pub passed : (d : ℕ) → List ℕ → List ℕ
passed d = joined (in_row d) (λ a. (parent_of (code_of a)).0)

abbrev pub passed_merges : (d : ℕ) → List ℕ → List ℕ
passed_merges d = joins (in_row d) (λ a. (parent_of (code_of a)).0)
