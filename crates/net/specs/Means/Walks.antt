-- The step across an edge on a side and digits, and the walk round a corner. Assumes nothing.
use Rattle.std.specs.Prelude.{ℕ, zero, suc, ◌+◌, min, List, [], ◌∷◌, length}
use Rattle.words.specs.Words.{degree_of, digits, side_of, path, word_of, corner_number}
use Rattle.words.specs.Words as words
use Rattle.words.specs.Family.{code_of}
use Rattle.net.specs.Sides.{next}
use Rattle.net.specs.Division.{each}
use Rattle.net.specs.Means.States.{Move, inside, outside, cross}
use Rattle.net.specs.Means.Seams.{seam_side, seam_kept, flip}
use Rattle.net.specs.declared.Edge.{Edge}

-- a triangle and the number that a corner has in it
pub record Place : Type 0 where
  pub side : ℕ
  pub digits : List ℕ
  pub number : ℕ

-- on another side, with c kept and the other two of 1, 2, 3 exchanged, in every digit and in the number
abbrev pub renumbered : (c s : ℕ) → Place → Place
renumbered c s q = record { side = s; digits = each (flip c) q.digits; number = flip c q.number }

-- over the seam of edge k every digit, and the number, is renumbered
abbrev pub over_seam : ℕ → Place → Place
over_seam k q = renumbered (seam_kept q.side k) (seam_side q.side k) q

-- where a step arrives: a triangle, and the number of the shared edge there
pub record Arrival : Type 0 where
  pub side : ℕ
  pub digits : List ℕ
  pub edge : ℕ

-- inside the side the edge keeps its number; over a seam every digit, and the edge, is renumbered
abbrev pub arrival : (k s : ℕ) → List ℕ → Move (List ℕ) → Arrival
arrival k s ds (inside es) = record { side = s; digits = es; edge = k }
arrival k s ds outside =
    let q = over_seam k (record { side = s; digits = ds; number = k }) in
    record { side = q.side; digits = q.digits; edge = q.number }

unfoldable pub step_of : (k s : ℕ) → List ℕ → Arrival
step_of k s ds = arrival k s ds (cross k ds)

-- from an edge of a triangle code, and to one
abbrev pub step_from : Edge → Arrival
step_from e = let w = e.code.0 in step_of e.number (side_of w) (digits w (degree_of w))

abbrev pub edge_there : Arrival → Edge
edge_there r = record { code = code_of (word_of r.side (length r.digits) (path r.digits)); number = r.edge }

-- the place that a word has by its fields
abbrev pub place_at : ℕ → Place
place_at r =
    let w = words.inside r in
    record { side = side_of w; digits = digits w (degree_of w); number = corner_number r }

-- anticlockwise: across the edge that follows the corner's number, to the triangle where the corner follows that edge's
-- number
abbrev pub arrived : Arrival → Place
arrived r = record { side = r.side; digits = r.digits; number = next r.edge }

unfoldable pub around : Place → Place
around q = arrived (step_of (next q.number) q.side q.digits)

unfoldable pub ring_at : Place → ℕ → Place
ring_at q zero = q
ring_at q (suc i) = around (ring_at q i)

-- the word of the triangle, and with the corner's number
unfoldable pub word_at : Place → ℕ
word_at q = word_of q.side (length q.digits) (path q.digits)

unfoldable pub name_at : Place → ℕ
name_at q = word_at q + q.number

-- the least name over a place and the m that follow it round the corner
unfoldable pub least_name : ℕ → Place → ℕ
least_name zero q = name_at q
least_name (suc m) q = min (name_at q) (least_name m (around q))

-- the words of m triangles round a corner, from a place on
unfoldable pub ring_words : ℕ → Place → List ℕ
ring_words zero q = []
ring_words (suc m) q = word_at q ∷ ring_words m (around q)
