-- Document 02, 2026-10: the mended list and the list of changes. Assumes nothing.
use Rattle.std.specs.Prelude.{Bool, not, cond, ◌&&◌, List, [], ◌∷◌, ◌++◌, map, ℕ, zero, suc, eqb}
use Rattle.frame.specs.Refusals.{◌when◌, first_of}
use Rattle.frame.specs.Lists.{some, those}
use Rattle.words.specs.Words.{degree_of, digit_of}
use Rattle.words.specs.Family.{code_of, parent_of, child_of}
use Rattle.cells.specs.Order.{valid, less_than, inside_of}

unfoldable pub member : ℕ → List ℕ → Bool
member w ws = some (eqb w) ws

-- ---- "drop invalid words, .. drop repeats and triangles inside others"

-- "1 invalid, 3 equal to an earlier word, 4 inside another word, the least deciding": why the word w is dropped, 0
-- where it is not. `all` is the whole list ("another word" is any valid word of it, itself dropped or not), `earlier`
-- the words before w.
unfoldable pub drop_reason : (all earlier : List ℕ) (w : ℕ) → ℕ
drop_reason all earlier w =
    first_of (1 ∷ 3 ∷ 4 ∷ [])
    (1 when not (valid w) ∷ 3 when member w earlier ∷ 4 when some (λ u. valid u && inside_of w u) all ∷ [])

-- a word and its reason
pub record Change : Type 0 where
  pub word : ℕ
  pub reason : ℕ

abbrev pub change : (word reason : ℕ) → Change
change w r = record { word = w; reason = r }

-- every word with its reason, in input order
unfoldable pub judged : (all earlier rest : List ℕ) → List Change
judged all earlier [] = []
judged all earlier (w ∷ ws) = change w (drop_reason all earlier w) ∷ judged all (w ∷ earlier) ws

-- the words without a reason, and "each dropped word in input order"
unfoldable pub kept : List Change → List ℕ
kept [] = []
kept (c ∷ cs) = cond (eqb c.reason 0) (c.word ∷ kept cs) (kept cs)

unfoldable pub dropped : List Change → List Change
dropped [] = []
dropped (c ∷ cs) = cond (eqb c.reason 0) (dropped cs) (c ∷ dropped cs)

-- ---- "put the rest in order"

unfoldable pub insert : ℕ → List ℕ → List ℕ
insert w [] = w ∷ []
insert w (u ∷ us) = cond (less_than u w) (u ∷ insert w us) (w ∷ u ∷ us)

unfoldable pub ordered : List ℕ → List ℕ
ordered [] = []
ordered (w ∷ ws) = insert w (ordered ws)

unfoldable pub sound : List ℕ → List ℕ
sound ws = ordered (kept (judged ws [] ws))

-- ---- "replace four whole children by their parent as long as any four remain"

-- the four children of u are in the list
unfoldable pub whole_in : List ℕ → ℕ → Bool
whole_in ws u =
    let t = code_of u in
    member (child_of t 0).0 ws
    && (member (child_of t 1).0 ws && (member (child_of t 2).0 ws && member (child_of t 3).0 ws))

-- the parents of degree d of which the first child is in the list, in its order
unfoldable pub parents : (d : ℕ) → List ℕ → List ℕ
parents d ws =
    map (λ w. (parent_of (code_of w)).0)
    (those (λ w. eqb (degree_of w) (suc d) && eqb (digit_of w (suc d)) 0) ws)

-- the triangles of degree d whose four children are in the list
unfoldable pub merges_at : (d : ℕ) → List ℕ → List ℕ
merges_at d ws = those (whole_in ws) (parents d ws)

-- each of ms in the place of what lies inside it
unfoldable pub replaced : (ms ws : List ℕ) → List ℕ
replaced ms ws = ordered (those (λ w. not (some (inside_of w) ms)) ws ++ ms)

-- the degrees below d, the deepest first: the list, and the merges
unfoldable pub merged_below : (d : ℕ) → List ℕ → List ℕ
merged_below zero ws = ws
merged_below (suc d) ws = merged_below d (replaced (merges_at d ws) ws)

-- "deepest first and rising within one degree"
unfoldable pub merges_below : (d : ℕ) → List ℕ → List ℕ
merges_below zero ws = []
merges_below (suc d) ws = merges_at d ws ++ merges_below d (replaced (merges_at d ws) ws)

-- ---- mending

-- A parent has degree 23 or less.
unfoldable pub mended : List ℕ → List ℕ
mended ws = merged_below 24 (sound ws)

-- "The change list .. names first each dropped word in input order .. Then each merge, as its parent with reason 5"
unfoldable pub changes : List ℕ → List Change
changes ws = dropped (judged ws [] ws) ++ map (λ u. change u 5) (merges_below 24 (sound ws))
