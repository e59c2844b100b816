-- How examples write a code: "Codes are written apq then digits." Assumes nothing.
use Rattle.std.specs.Prelude.{List, [], ◌∷◌, ℕ, zero, suc, ◌+◌, ◌-◌, ◌/◌, ◌%◌, length, get_or, take}
use Rattle.words.specs.Words.{side, path, word_of}
use Rattle.words.specs.Family.{code_of}
use Rattle.words.specs.declared.TriangleCode.{TriangleCode}

-- The decimals of a number, the last first; no more than f of them.
unfoldable pub decimals : (f s : ℕ) → List ℕ
decimals zero s = []
decimals (suc f) zero = []
decimals (suc f) (suc s) = suc s % 10 ∷ decimals f (suc s / 10)

-- 10003 has a = 1, p = 0, q = 0 and the digits 0 and 3.
unfoldable pub written : ℕ → TriangleCode
written s =
    let ds = decimals 27 s in
    let n = length ds - 3 in
    code_of (word_of (side (get_or ds (n + 2) 0) (get_or ds (n + 1) 0) (get_or ds n 0)) n (path (take n ds)))

-- their words, as a list of triangles holds them
abbrev pub words_for : List ℕ → List ℕ
words_for [] = []
words_for (s ∷ ss) = (written s).0 ∷ words_for ss

-- the word with the side 100, the degree n and digits that are all 0
abbrev pub zero_digits : (n : ℕ) → ℕ
zero_digits n = word_of (side 1 0 0) n 0
