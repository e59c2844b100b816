-- The twenty sides and their seams: that they follow from shared vertices. Each rule is one test that antt computes over the sides.
-- Assumes nothing.
use mathlib.Core.Path.{◌≡◌, refl}
use mathlib.Core.Logic.{◌⊎◌}
use Prim.Native.Nat.{ℕ, ◌<◌}
use Rattle.net.specs.Means.Seams.{flip, seam_kept, seam_side}
use Rattle.net.specs.Sides.{IsSide, OneToThree, corner_vertex, next, prev}
use Rattle.net.proofs.Table.{Test, ◌and◌, ◌or◌, ◌then◌, either_way, less, most, no, same, sides, sound, threes}

abbrev pub HasVertex : ℕ → ℕ → Type 0
HasVertex t v = (v ≡ corner_vertex t 1) ⊎ (v ≡ corner_vertex t 2) ⊎ (v ≡ corner_vertex t 3)

abbrev pub has_vertex : ℕ → ℕ → Test
has_vertex t v = same v (corner_vertex t 1) or same v (corner_vertex t 2) or same v (corner_vertex t 3)

-- the corners of a side are three of the twelve vertices
pub vertex_small : (s : ℕ) → IsSide s → (i : ℕ) → OneToThree i → corner_vertex s i < 12
unfolding corner_vertex
vertex_small = sound (sides λ s. threes λ i. less (corner_vertex s i) 12) refl

pub vertices_differ : (s : ℕ) → IsSide s → (i : ℕ) → OneToThree i → (j : ℕ) → OneToThree j → corner_vertex s i ≡ corner_vertex s j → i ≡ j
unfolding corner_vertex
vertices_differ = sound (sides λ s. threes λ i. threes λ j. same (corner_vertex s i) (corner_vertex s j) then same i j) refl

-- across edge k lies a side
pub seam_side_lem : (s : ℕ) → IsSide s → (k : ℕ) → OneToThree k → IsSide (seam_side s k)
unfolding corner_vertex seam_side
seam_side_lem = sound (sides λ s. threes λ k. most 4 (seam_side s k) and less (seam_side s k) 24) refl

pub seam_kept_lem : (s : ℕ) → IsSide s → (k : ℕ) → OneToThree k → OneToThree (seam_kept s k)
unfolding seam_kept
seam_kept_lem = sound (sides λ s. threes λ k. most 1 (seam_kept s k) and most (seam_kept s k) 3) refl

-- in which the ends of the edge have the numbers that the seam gives them
pub seam_joins : (s : ℕ) → IsSide s → (k : ℕ) → OneToThree k → (i : ℕ) → OneToThree i → (i ≡ k → ⊥) → corner_vertex (seam_side s k) (flip (seam_kept s k) i) ≡ corner_vertex s i
unfolding corner_vertex seam_side seam_kept
seam_joins =
    sound (sides λ s. threes λ k. threes λ i. no (same i k) then same (corner_vertex (seam_side s k) (flip (seam_kept s k) i)) (corner_vertex s i)) refl

-- and which lacks the corner opposite
pub seam_lacks : (s : ℕ) → IsSide s → (k : ℕ) → OneToThree k → HasVertex (seam_side s k) (corner_vertex s k) → ⊥
unfolding corner_vertex seam_side
seam_lacks = sound (sides λ s. threes λ k. no (has_vertex (seam_side s k) (corner_vertex s k))) refl

-- a side with both ends of edge k is the side itself or the one across
pub only_two : (s : ℕ) → IsSide s → (k : ℕ) → OneToThree k → (t : ℕ) → IsSide t
    → HasVertex t (corner_vertex s (next k)) → HasVertex t (corner_vertex s (prev k)) → (t ≡ s) ⊎ (t ≡ seam_side s k)
unfolding corner_vertex seam_side
only_two =
    sound (sides λ s. threes λ k. sides λ t. has_vertex t (corner_vertex s (next k)) then has_vertex t (corner_vertex s (prev k)) then (same t s or same t (seam_side s k))) refl

pub has_or_not : (t v : ℕ) → HasVertex t v ⊎ (HasVertex t v → ⊥)
has_or_not t v = either_way (has_vertex t v)
