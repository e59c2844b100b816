-- Document 01, 'Division and weights': "There are 20·4^N triangles", in the order of their codes. Assumes nothing.
use Rattle.std.specs.Prelude.{ℕ, ◌+◌, ◌-◌, ◌*◌, ◌/◌, ◌%◌, ◌^◌}
use Rattle.words.specs.Words.{degree_of, digits, side_of, path, word_of}
use Rattle.words.specs.Family.{code_of}
use Rattle.words.specs.declared.TriangleCode.{TriangleCode}

-- The codes of degree n in rising order: the i-th, from 0 to below 20·4^n.
unfoldable pub code_at : (n i : ℕ) → TriangleCode
code_at n i = code_of (word_of (4 + i / 4 ^ n) n (i % 4 ^ n))

-- The place of a code among those of its degree, from 0: how many are less.
unfoldable pub place_of : TriangleCode → ℕ
place_of t = let w = t.0 in (side_of w - 4) * 4 ^ degree_of w + path (digits w (degree_of w))
