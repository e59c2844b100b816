-- Document 01, 'The 64-bit words', for any field widths. Document 02, 2026-11: "State the word layout's facts once for
-- any field width and reuse them for both." Assumes nothing.
use Rattle.std.specs.Prelude.{ℕ, zero, suc, ◌+◌, ◌-◌, ◌*◌, ◌/◌, ◌%◌, ◌^◌, List, [], ◌∷◌}

-- "Fields, most significant first: a (3 bits), p (1), q (1)", a degree, "digits of 2 bits with the first digit first",
-- and low bits, which are 0 in a triangle code. A form says how wide the last three are.
pub record Form : Type 0 where
  pub degree_bits : ℕ
  pub digit_count : ℕ
  pub low_bits : ℕ

-- The b bits of w that stand above its lowest k.
abbrev pub bits : (w k b : ℕ) → ℕ
bits w k b = w / 2 ^ k % 2 ^ b

-- how many bits stand below the degree, and below a, p and q
abbrev pub below_degree : Form → ℕ
below_degree f = 2 * f.digit_count + f.low_bits

abbrev pub below_side : Form → ℕ
below_side f = below_degree f + f.degree_bits

-- a is all that stands above p, so that a number of more bits than the form has an a above 7.
abbrev pub a_in : Form → ℕ → ℕ
a_in f w = w / 2 ^ (below_side f + 2)

abbrev pub p_in : Form → ℕ → ℕ
p_in f w = bits w (below_side f + 1) 1

abbrev pub q_in : Form → ℕ → ℕ
q_in f w = bits w (below_side f) 1

abbrev pub degree_in : Form → ℕ → ℕ
degree_in f w = bits w (below_degree f) f.degree_bits

-- digit i, from 1
abbrev pub digit_in : Form → ℕ → ℕ → ℕ
digit_in f w i = bits w (below_degree f - 2 * i) 2

-- Digits n to 1, the last first: a child has one more at the head.
unfoldable pub first_digits : Form → ℕ → ℕ → List ℕ
first_digits f w zero = []
first_digits f w (suc n) = digit_in f w (suc n) ∷ first_digits f w n

-- The digits after the n-th as one number, which is 0 exactly when each of them is.
abbrev pub beyond_in : Form → ℕ → ℕ → ℕ
beyond_in f w n = bits w f.low_bits (2 * f.digit_count - 2 * n)

abbrev pub low_in : Form → ℕ → ℕ
low_in f w = w % 2 ^ f.low_bits

-- "A side is named apq": as one number, from 4 for 100 to 23 for 511.
abbrev pub side : (a p q : ℕ) → ℕ
side a p q = 4 * a + 2 * p + q

abbrev pub side_in : Form → ℕ → ℕ
side_in f w = side (a_in f w) (p_in f w) (q_in f w)

-- Digits, the last first, as one number.
unfoldable pub path : List ℕ → ℕ
path [] = 0
path (d ∷ ds) = 4 * path ds + d

-- The triangle code of the side s, the degree n and n digits whose path is v.
unfoldable pub word_in : Form → (s n v : ℕ) → ℕ
word_in f s n v = s * 2 ^ below_side f + n * 2 ^ below_degree f + v * 2 ^ (below_degree f - 2 * n)

-- The same side, degree and digits in another form.
unfoldable pub carried : (from to : Form) → ℕ → ℕ
carried f g w = let n = degree_in f w in word_in g (side_in f w) n (path (first_digits f w n))
