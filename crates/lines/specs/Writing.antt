-- Numbers, words and triangle codes as text: what is written, and where. Assumes nothing.
use Rattle.std.specs.Prelude.{ℕ, zero, suc, ◌+◌, ◌*◌, ◌/◌, ◌%◌, ◌^◌, ◌≤◌, ◌≡◌, cond, List, [], ◌∷◌, ◌++◌, ltb, eqb, ℤ, pos, negsuc, nat_abs, length, take, drop}
use Rattle.words.specs.Words.{a_of, p_of, q_of, degree_of, path}
use Rattle.words.specs.Words.{digits as pathDigits}

-- The text stands at a place of a buffer and r is the place after it; all other places are as they were. It has at most `most` bytes.
pub record Wrote (most : ℕ) (text : List ℕ) (at r : ℕ) (old new : List ℕ) : Type 0 where
  pub place : r ≡ at + length text
  pub within : r ≤ at + most
  pub contents : new ≡ take at old ++ text ++ drop (at + length text) old

-- the byte of a digit below 16: `0` to `9`, then `A` to `F`
unfoldable pub glyph : ℕ → ℕ
glyph d = cond (ltb d 10) (48 + d) (55 + d)

-- the last k digits of n in base b, the most significant first
unfoldable pub digits : (b k n : ℕ) → List ℕ
digits b zero n = []
digits b (suc k) n = digits b k (n / b) ++ (glyph (n % b) ∷ [])

-- the decimal digits of n, the most significant first, with no zeros in front; the last k of them where there are more
unfoldable pub last_decimals : (k n : ℕ) → List ℕ
last_decimals zero n = []
last_decimals (suc k) n = cond (ltb n 10) (glyph n ∷ []) (last_decimals k (n / 10) ++ (glyph (n % 10) ∷ []))

-- a number below 2^64 has at most 20
unfoldable pub decimal : ℕ → List ℕ
decimal n = last_decimals 20 n

-- a minus before a negative number
unfoldable pub sign : ℤ → List ℕ
sign (pos n) = []
sign (negsuc n) = 45 ∷ []

unfoldable pub signed_decimal : ℤ → List ℕ
signed_decimal z = sign z ++ decimal (nat_abs z)

-- 0x and so many hexadecimal digits: sixteen for a word, eight for a small one
unfoldable pub hexadecimal : (k w : ℕ) → List ℕ
hexadecimal k w = (48 ∷ 120 ∷ []) ++ digits 16 k w

-- a, p and q
unfoldable pub side : ℕ → List ℕ
side w = digits 8 1 (a_of w) ++ digits 2 1 (p_of w) ++ digits 2 1 (q_of w)

-- a triangle code as document 01 writes it: apq and the digits
unfoldable pub code : ℕ → List ℕ
code w = side w ++ digits 4 (degree_of w) (path (pathDigits w (degree_of w)))

-- the decimals of f / m, f below m, up to the last that is not 0; at most k
unfoldable pub decimals : (k m f : ℕ) → List ℕ
decimals zero m f = []
decimals (suc k) m f = cond (eqb f 0) [] (glyph (f * 10 / m) ∷ decimals k m (f * 10 % m))

-- a dot and the decimals, where there are any
unfoldable pub fraction : (k m f : ℕ) → List ℕ
fraction k m f = cond (eqb f 0) [] ((46 ∷ []) ++ decimals k m f)

-- t / 2^k, exactly: k decimals are enough
unfoldable pub exact : (z : ℤ) (k : ℕ) → List ℕ
exact z k = sign z ++ decimal (nat_abs z / 2 ^ k) ++ fraction k (2 ^ k) (nat_abs z % 2 ^ k)
