-- Document 01, 'Steps and rings'. Assumes nothing.
use Rattle.std.specs.Prelude.{◌≡◌, ◌⊎◌, List, [], ◌∷◌, ℕ, zero, suc, ◌-◌, ◌<◌, length, get_or}
use Rattle.words.specs.Words.{degree_of}
use Rattle.words.specs.Refusals.{IsCode}
use Rattle.words.specs.Family.{code_of}
use Rattle.words.specs.declared.TriangleCode.{TriangleCode}
use Rattle.words.specs.declared.CornerName.{CornerName}
use Rattle.net.specs.Sides.{OneToThree, next, prev}
use Rattle.net.specs.Division.{Weights}
use Rattle.net.specs.Corners.{corner, code_inside, named, HasCorner}

-- The same two, in either order.
abbrev pub SameTwo : {A : Type 0} → (p q p' q' : A) → Type 0
SameTwo p q p' q' = ((p ≡ p') × (q ≡ q')) ⊎ ((p ≡ q') × (q ≡ p'))

-- "Crossing an edge answers the neighbour's code and the number of the shared edge there": another triangle of the
-- degree, whose edge k' has the two corners of edge k.
pub record Across (n : ℕ) (t : TriangleCode) (k : ℕ) (t' : TriangleCode) (k' : ℕ) : Type 0 where
  pub code : IsCode n t'
  pub other : t' ≡ t → ⊥
  pub edge : OneToThree k'
  pub ends : SameTwo (corner t (next k)) (corner t (prev k)) (corner t' (next k')) (corner t' (prev k'))

-- "5 if the corner has only one non-zero weight, else 6"
abbrev pub non_zeros : Weights → ℕ
non_zeros [] = 0
non_zeros (zero ∷ xs) = non_zeros xs
non_zeros (suc x ∷ xs) = suc (non_zeros xs)

abbrev pub ring_size : ℕ → ℕ
ring_size zero = 6
ring_size (suc zero) = 5
ring_size (suc (suc n)) = 6

-- One step "anticlockwise seen from outside" round the corner p. Corners i, next i, prev i of a triangle are
-- anticlockwise, so seen from its corner i a triangle begins at corner next i and ends at corner prev i; where t ends,
-- t' begins.
pub record Turn (p : Weights) (t t' : TriangleCode) : Type 0 where
  pub i : ℕ
  pub j : ℕ
  pub i_ok : OneToThree i
  pub j_ok : OneToThree j
  pub has : corner t i ≡ p
  pub has' : corner t' j ≡ p
  pub leg : corner t (prev i) ≡ corner t' (next j)

-- "The ring answers a count and its triangles, .. anticlockwise seen from outside, beginning with the triangle inside
-- the corner's own name": the words ts are the ring of the corner that r names.
pub record IsRing (r : CornerName) (ts : List ℕ) : Type 0 where
  pub count : length ts ≡ ring_size (non_zeros (named r))
  pub codes : (m : ℕ) → m < length ts → IsCode (degree_of r.0) (code_of (get_or ts m 0))
  pub begins : get_or ts 0 0 ≡ (code_inside r).0
  pub turns : (m : ℕ) → suc m < length ts → Turn (named r) (code_of (get_or ts m 0)) (code_of (get_or ts (suc m) 0))

-- The words ts are all of the ring. No contract speaks of it, but the ring of every name that passes is so
-- (grid/specs/Sentences.antt).
pub record IsWhole (r : CornerName) (ts : List ℕ) : Type 0 where
  -- its triangles are different
  pub differ : (i j : ℕ) → i < j → j < length ts → get_or ts i 0 ≡ get_or ts j 0 → ⊥
  -- they have the corner, and every triangle of the degree that has it is there
  pub has : (i : ℕ) → i < length ts → HasCorner (code_of (get_or ts i 0)) (named r)
  pub all : (t : TriangleCode) → IsCode (degree_of r.0) t → HasCorner t (named r)
      → (i : ℕ) × (i < length ts) × (get_or ts i 0 ≡ t.0)
  -- from the last the same step leads to the first
  pub closes : Turn (named r) (code_of (get_or ts (length ts - 1) 0)) (code_of (get_or ts 0 0))
