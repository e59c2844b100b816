-- Document 01, 'The 64-bit words'. Assumes nothing.
use Rattle.std.specs.Prelude.{ℕ, ◌-◌, ◌%◌, ◌^◌, List}
use Rattle.words.specs.Forms.{Form, a_in, p_in, q_in, degree_in, digit_in, beyond_in, side_in}
-- what is the same in every form, and what the names below stand for
unfoldable pub use Rattle.words.specs.Forms.{bits, side, path, first_digits, word_in}

-- "Fields, most significant first: a (3 bits), p (1), q (1), degree (5), twenty-four digits of 2 bits with the first
-- digit first, four zero bits, corner number (2)."
abbrev pub large : Form
large = record { degree_bits = 5; digit_count = 24; low_bits = 6 }

abbrev pub a_of : ℕ → ℕ
a_of w = a_in large w

abbrev pub p_of : ℕ → ℕ
p_of w = p_in large w

abbrev pub q_of : ℕ → ℕ
q_of w = q_in large w

abbrev pub degree_of : ℕ → ℕ
degree_of w = degree_in large w

abbrev pub digit_of : ℕ → ℕ → ℕ
digit_of w i = digit_in large w i

abbrev pub digits : ℕ → ℕ → List ℕ
digits w n = first_digits large w n

abbrev pub beyond : ℕ → ℕ → ℕ
beyond w n = beyond_in large w n

abbrev pub side_of : ℕ → ℕ
side_of w = side_in large w

abbrev pub word_of : (s n v : ℕ) → ℕ
word_of s n v = word_in large s n v

-- the six low bits: "four zero bits, corner number (2)"
abbrev pub zero_bits : ℕ → ℕ
zero_bits w = bits w 2 4

abbrev pub corner_number : ℕ → ℕ
corner_number w = w % 2 ^ 2

-- The triangle code inside a corner name.
abbrev pub inside : ℕ → ℕ
inside w = w - corner_number w
