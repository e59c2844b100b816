-- The side and the triangle that lie opposite on the globe. (That they do is proofs/OppositeCorners.antt.) Assumes
-- nothing.
use Rattle.std.specs.Prelude.{ℕ, ◌+◌, ◌-◌, cond, ltb, length}
use Rattle.words.specs.Words.{degree_of, digits, path, side_of, word_of}
use Rattle.words.specs.Family.{code_of}
use Rattle.words.specs.declared.TriangleCode.{TriangleCode}
use Rattle.net.specs.Division.{each}
use Rattle.net.specs.Means.Seams.{flip}

-- a00 and (a+2)10 are opposite, and a01 and (a+2)11, a cyclic: of the twenty sides, 4 to 23, those that are ten apart
unfoldable pub opposite_side : (s : ℕ) → ℕ
opposite_side s = cond (ltb s 14) (s + 10) (s - 10)

-- the opposite side, with digits 2 and 3 exchanged
abbrev pub opposite_of : TriangleCode → TriangleCode
opposite_of t =
    let w = t.0 in
    let ds = each (flip 1) (digits w (degree_of w)) in
    code_of (word_of (opposite_side (side_of w)) (length ds) (path ds))
