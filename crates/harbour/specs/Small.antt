-- Document 02, 2026-11: "Small units store only degree 11 or less, in 32-bit words". "Write reader and writer between
-- the forms." Assumes nothing.
use Rattle.std.specs.Prelude.{ℕ}
use Rattle.words.specs.Forms.{Form, carried}
use Rattle.words.specs.Words.{large}
use Rattle.words.specs.Family.{code_of}
use Rattle.words.specs.declared.TriangleCode.{TriangleCode}
use Rattle.harbour.specs.declared.SmallCode.{SmallCode}

-- "a, p, q as before, a degree of 4 bits, eleven digits, and one zero bit, most significant first"
abbrev pub small : Form
small = record { degree_bits = 4; digit_count = 11; low_bits = 1 }

abbrev pub small_code : ℕ → SmallCode
small_code w = record { 0 = w }

-- the same side, degree and digits in the other form: the reader's answer, and the writer's
abbrev pub large_of : SmallCode → TriangleCode
large_of s = code_of (carried small large s.0)

abbrev pub small_of : TriangleCode → SmallCode
small_of t = small_code (carried large small t.0)
