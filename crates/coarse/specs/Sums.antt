-- Document 02, 2026-08: the count and the sum of the present readings of each triangle one degree up, and the two lists
-- that store them. Assumes nothing.
use Rattle.std.specs.Prelude.{ℕ, zero, suc, List, [], ◌∷◌, ℤ, pos, negsuc, length, get_or, set, replicate}
use Rattle.frame.specs.Lists.{below}
use Rattle.words.specs.Family.{parent_of, child_of}
use Rattle.words.specs.Counting.{code_at, place_of}
use Rattle.words.specs.declared.TriangleCode.{TriangleCode}
use Rattle.net.specs.Division.{sum}
use Rattle.tables.specs.Tables.{places, number_at}
use Rattle.tables.specs.Owners.{Shared, fresh_shared, shared_after}
use Rattle.tables.specs.declared.Deed.{Deed}

-- ---- "for each triangle one degree up, the count and sum of its present readings"

-- "present readings": of numbers that are each a reading or -1, the readings
abbrev pub present : List ℤ → List ℕ
present [] = []
present (pos r ∷ xs) = r ∷ present xs
present (negsuc r ∷ xs) = present xs

-- of a triangle one degree up: those of its four children
abbrev pub present_in : TriangleCode → List ℤ → List ℕ
present_in p list =
    present (number_at (child_of p 0) list ∷ number_at (child_of p 1) list ∷ number_at (child_of p 2) list
    ∷ number_at (child_of p 3) list ∷ [])

abbrev pub count_in : TriangleCode → List ℤ → ℕ
count_in p list = length (present_in p list)

abbrev pub sum_in : TriangleCode → List ℤ → ℕ
sum_in p list = sum (present_in p list)

-- ---- "Store both in lent lists beside the table"

-- how many triangles there are one degree up: "For tables of degree 0 the lists are empty."
abbrev pub parents : (degree : ℕ) → ℕ
parents zero = 0
parents (suc n) = places n

pub record Coarse : Type 0 where
  pub counts : List ℕ
  pub sums : List ℕ

abbrev pub coarse : (counts sums : List ℕ) → Coarse
coarse cs ss = record { counts = cs; sums = ss }

-- what a list stores for p
abbrev pub stored_for : TriangleCode → List ℕ → ℕ
stored_for p list = get_or list (place_of p) 0

-- what f says of every triangle one degree up, in the order of their codes
unfoldable pub every_parent : (degree : ℕ) → (TriangleCode → ℕ) → List ℕ
every_parent zero f = []
every_parent (suc n) f = below (places n) (λ i. f (code_at n i))

-- the lists as they are to be for these readings: "worked out afresh"
abbrev pub true_coarse : (degree : ℕ) → List ℤ → Coarse
true_coarse n list = coarse (every_parent n (λ p. count_in p list)) (every_parent n (λ p. sum_in p list))

-- A table that desks share, with its coarse sums.
pub record Chart : Type 0 where
  pub shared : Shared
  pub coarse : Coarse

abbrev pub chart : Shared → Coarse → Chart
chart s c = record { shared = s; coarse = c }

-- "a fresh table (no readings, no owners, sums 0)"
abbrev pub fresh_chart : (degree : ℕ) → Chart
fresh_chart n = chart (fresh_shared n) (coarse (replicate (parents n) 0) (replicate (parents n) 0))

-- ---- "and keep them true through set, clear, take and give back"

-- what f says of t's parent is stored for it; at degree 0 it has none
abbrev pub kept : (degree : ℕ) → TriangleCode → (TriangleCode → ℕ) → List ℕ → List ℕ
kept zero t f list = list
kept (suc n) t f list = set list (place_of (parent_of t)) (f (parent_of t))

-- both lists, when the readings are those of `list`
abbrev pub coarse_after : (degree : ℕ) → TriangleCode → List ℤ → Coarse → Coarse
coarse_after n t list c =
    coarse (kept n t (λ p. count_in p list) c.counts)
    (kept n t (λ p. sum_in p list) c.sums)

abbrev pub chart_after : Deed → (desk degree : ℕ) → TriangleCode → Chart → Chart
chart_after e d n t c =
    let s = shared_after e d t c.shared in chart s (coarse_after n t s.readings c.coarse)
