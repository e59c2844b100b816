-- Round a corner, seen by marks: the side, whether the triangle points up (0) or down (1), and the corner's number. How the marks follow each
-- other depends only on which vertices have weight, so the whole ring is one table. Assumes nothing.
use mathlib.Core.Path.{refl}
use Prim.Native.Nat.{ℕ, zero, suc, ◌+◌}
use Rattle.net.specs.Means.Seams.{flip, seam_kept, seam_side}
use Rattle.net.specs.Means.Spreads.{weight_at}
use Rattle.net.specs.Means.States.{point}
use Rattle.net.specs.Sides.{corner_vertex, next, nth, prev}
use Rattle.net.specs.Steps.{ring_size}
use Rattle.net.specs.declared.Point.{Point}
use Rattle.net.proofs.SharedVertices.{has_vertex}
use Rattle.net.proofs.Table.{Holds, Test, ◌and◌, ◌then◌, below, less, no, same, sides, some, sound, threes}

pub record Mark : Type 0 where
  pub side : ℕ
  pub kind : ℕ
  pub number : ℕ

abbrev pub mark : ℕ → ℕ → ℕ → Mark
mark s d n = record { side = s; kind = d; number = n }

-- from an up triangle: over the seam where the vertex of axis next n has no weight, else to a down triangle
abbrev pub upward : ℕ → ℕ → ℕ → Mark
upward s n zero = mark (seam_side s (next n)) 0 (next (flip (seam_kept s (next n)) (next n)))
upward s n (suc w) = mark s 1 (prev n)

abbrev pub onward : (ℕ → ℕ) → ℕ → ℕ → ℕ → Mark
onward g s zero n = upward s n (g (corner_vertex s (next n)))
onward g s (suc d) n = mark s 0 (prev n)

abbrev pub mark_after : (ℕ → ℕ) → Mark → Mark
mark_after g m = onward g m.side m.kind m.number

abbrev pub marks : (ℕ → ℕ) → Mark → ℕ → Mark
marks g m zero = m
marks g m (suc i) = mark_after g (marks g m i)

-- the vertex of each axis has the weight that a triangle of this kind and number needs
abbrev pub needs : (ℕ → ℕ) → ℕ → ℕ → ℕ → Test
needs g t zero n = less 0 (g (corner_vertex t n))
needs g t (suc d) n = less 0 (g (corner_vertex t (next n))) and less 0 (g (corner_vertex t (prev n)))

-- each vertex of s that has weight is one of t
abbrev pub bears : ℕ → Point → ℕ → Test
bears s p t = threes λ j. less 0 (nth j p.w1 p.w2 p.w3) then has_vertex t (corner_vertex s j)

abbrev pub fits : ℕ → Point → ℕ → ℕ → ℕ → Test
fits s p t d n = bears s p t and needs (weight_at s p) t d n

abbrev pub same_mark : Mark → Mark → Test
same_mark a b = same a.side b.side and same a.kind b.kind and same a.number b.number

abbrev pub ring : (ℕ → ℕ) → Mark → ℕ → Test
ring g m n = same_mark (marks g m n) m and (below n λ i. below n λ j. less i j then no (same_mark (marks g m i) (marks g m j)))

abbrev pub complete : ℕ → Point → Mark → ℕ → Test
complete s p m n = sides λ t. below 2 λ d. threes λ i. fits s p t d i then some n λ j. same_mark (marks (weight_at s p) m j) (mark t d i)

abbrev pub table : Test
table =
    sides λ s. below 2 λ x. below 2 λ y. below 2 λ z. below 2 λ d. threes λ n.
    needs (weight_at s (point x y z)) s d n then
    (ring (weight_at s (point x y z)) (mark s d n) (ring_size (x + y + z)) and complete s (point x y z) (mark s d n) (ring_size (x + y + z)))

pub ring_table : Holds table
unfolding corner_vertex seam_side seam_kept weight_at
ring_table = sound table refl
