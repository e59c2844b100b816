-- Document 01, 'Refusal numbers': rows 5 of an edge or corner, 10 and 11. Assumes nothing.
use Rattle.std.specs.Prelude.{ℕ, zero, suc, ◌+◌, ◌^◌, Bool, true, false, not, ◌&&◌, List, [], ◌∷◌, ◌++◌, ltb, eqb, take}
use Rattle.frame.specs.Refusals.{◌either◌, Row, ◌when◌, refusal}
use Rattle.words.specs.Words.{degree_of}
use Rattle.words.specs.Refusals.{name_rows}
use Rattle.words.specs.Counting.{code_at, place_of}
use Rattle.words.specs.declared.TriangleCode.{TriangleCode}
use Rattle.words.specs.declared.CornerName.{CornerName}
use Rattle.net.specs.Sides.{corner_vertex}
use Rattle.net.specs.Division.{Weights, sum}
use Rattle.net.specs.Corners.{corner, code_inside, named}

-- "5: an edge or corner argument is not 1 to 3"
abbrev pub one_to_three_rows : ℕ → List Row
one_to_three_rows k = 5 when (eqb k 0 either ltb 3 k) ∷ []

-- some number below m passes the test
abbrev pub some_below : ℕ → (ℕ → Bool) → Bool
some_below zero f = false
some_below (suc m) f = some_below m f either f m

abbrev pub same_weights : Weights → Weights → Bool
same_weights [] [] = true
same_weights [] (y ∷ ys) = false
same_weights (x ∷ xs) [] = false
same_weights (x ∷ xs) (y ∷ ys) = eqb x y && same_weights xs ys

abbrev pub has_corner : TriangleCode → Weights → Bool
has_corner t p = same_weights (corner t 1) p either same_weights (corner t 2) p either same_weights (corner t 3) p

-- A name is "the least triangle code of that degree that has the corner, with the number the corner has in it": whether
-- a lesser code of the degree has the corner too.
unfoldable pub lesser_has : CornerName → Bool
lesser_has r = some_below (place_of (code_inside r)) (λ i. has_corner (code_at (degree_of r.0) i) (named r))

-- "10: a word passes 1 to 4 as a corner name and is not the canonical one": by its refusal among 1 to 4
abbrev pub not_canonical : ℕ → CornerName → Bool
not_canonical zero r = lesser_has r
not_canonical (suc f) r = false

abbrev pub canonical_rows : CornerName → List Row
canonical_rows r = name_rows r ++ (10 when not_canonical (refusal (name_rows r)) r ∷ [])

-- "Checking a word, as the one kind or the other, answers only its refusal number."
unfoldable pub check_name : CornerName → ℕ
check_name r = refusal (canonical_rows r)

-- v is a corner of the side s
abbrev pub is_corner_of : (s v : ℕ) → Bool
is_corner_of s v = eqb v (corner_vertex s 1) either eqb v (corner_vertex s 2) either eqb v (corner_vertex s 3)

-- each vertex with a non-zero weight is a corner of the side s; the list begins with vertex v
abbrev pub on_side : (s v : ℕ) → Weights → Bool
on_side s v [] = true
on_side s v (x ∷ xs) = (eqb x 0 either is_corner_of s v) && on_side s (suc v) xs

-- they are all corners of one side
abbrev pub on_one_side : Weights → Bool
on_one_side p = some_below 20 (λ i. on_side (4 + i) 0 p)

-- "Refusal 11 is given exactly when the weights do not add to 2^N or the vertices with non-zero weights are not all
-- corners of one side." "its sum is meant exactly, never wrapped"; "only its first 12 .. places are used"
abbrev pub weight_rows : ℕ → List ℕ → List Row
weight_rows n list = 11 when (not (eqb (sum (take 12 list)) (2 ^ n)) either not (on_one_side (take 12 list))) ∷ []
