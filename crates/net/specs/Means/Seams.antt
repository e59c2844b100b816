-- The side across an edge of a side, and how the numbers of corners, edges and digits change there. (That it follows from shared vertices is
-- proofs/SharedVertices.antt.) Assumes nothing.
use Rattle.std.specs.Prelude.{ℕ, zero, suc, ◌/◌, ◌%◌}
use Rattle.words.specs.Words.{side}
use Rattle.net.specs.Sides.{nth, after, before}

-- across edge k of the side with these p, q and a
abbrev pub seam_of : (p q a k : ℕ) → ℕ
seam_of zero zero a k = nth k (side a 0 1) (side (after a) 0 0) (side (before a) 0 0)
seam_of zero (suc q) a k = nth k (side a 0 0) (side (before a) 1 1) (side a 1 1)
seam_of (suc p) zero a k = nth k (side a 1 1) (side (before a) 1 0) (side (after a) 1 0)
seam_of (suc p) (suc q) a k = nth k (side a 1 0) (side (after a) 0 1) (side a 0 1)

unfoldable pub seam_side : (s k : ℕ) → ℕ
seam_side s k = seam_of (s / 2 % 2) (s % 2) (s / 4) k

-- one number is kept over the seam, and the other two are exchanged: 1 is kept by a00 and a10, the edge's own number by a01 and a11
abbrev pub kept_of : (q k : ℕ) → ℕ
kept_of zero k = 1
kept_of (suc q) k = k

unfoldable pub seam_kept : (s k : ℕ) → ℕ
seam_kept s k = kept_of (s % 2) k

-- c is kept, the other two of 1, 2, 3 are exchanged, 0 stays
abbrev pub flip : (c i : ℕ) → ℕ
flip c zero = 0
flip c (suc i) = nth c (nth (suc i) 1 3 2) (nth (suc i) 3 2 1) (nth (suc i) 2 1 3)
