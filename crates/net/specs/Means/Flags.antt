-- All digits of a word at once: a number that has 1 at each digit of a kind. Assumes nothing.
use Rattle.std.specs.Prelude.{ℕ, zero, suc, ◌+◌, ◌*◌, cond, eqb}
use Rattle.std.specs.Int.Bits.{bit_and, bit_xor}
use Rattle.words.specs.Words.{path}
use Rattle.net.specs.Division.{each}
use Rattle.net.specs.Means.Paths.{digits_of}
use Rattle.net.specs.Means.Spreads.{sign}

-- 1 at each of n digits
unfoldable pub ones : ℕ → ℕ
ones zero = 0
ones (suc n) = 4 * ones n + 1

-- 1 for a digit that is neither 0 nor c
abbrev pub other : (c d : ℕ) → ℕ
other c d = cond (eqb d c) 0 (sign d)

-- What f makes of each of the 27 pairs of bits below a word's degree: its digits, two pairs of zero bits, the corner
-- number.
unfoldable pub flags : (ℕ → ℕ) → (w : ℕ) → ℕ
flags f w = path (each f (digits_of 27 w))

-- 1 at each digit that the step across edge k changes: from the last, whose weight is the unit, up to the first that is
-- 0 or k, that one with them; with none such, up to the first place above all digits. A digit that is neither is 3
-- here,
-- so that what is added to the last is carried over it. (What it means: proofs/WordFlags.antt: `steps`.)
unfoldable pub span_of : (w unit k : ℕ) → ℕ
span_of w unit k = bit_and (bit_xor (3 * flags (other k) w) (3 * flags (other k) w + unit)) (ones 28)
