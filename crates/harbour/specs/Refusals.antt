-- Document 02, 2026-11: the refusals of the calls on the small form, a line each. Assumes nothing.
use Rattle.std.specs.Prelude.{ℕ, not, cond, ◌&&◌, List, [], ◌∷◌, ◌++◌, ltb, leb, eqb}
use Rattle.frame.specs.Refusals.{Row, ◌when◌, first_of, order}
use Rattle.words.specs.Forms.{degree_in, low_in}
use Rattle.words.specs.Words.{large, degree_of}
use Rattle.words.specs.Refusals.{degree_rows, field_rows, code_low_rows}
use Rattle.words.specs.declared.TriangleCode.{TriangleCode}
use Rattle.net.specs.Refusals.{one_to_three_rows}
use Rattle.filing.specs.Refusals.{direction_rows}
use Rattle.filing.specs.declared.Direction.{Direction}
use Rattle.harbour.specs.Small.{small}
use Rattle.harbour.specs.declared.SmallCode.{SmallCode}

-- an order with k put into it, directly after j
abbrev pub directly_after : (k j : ℕ) → List ℕ → List ℕ
directly_after k j [] = []
directly_after k j (n ∷ ns) = cond (eqb n j) (n ∷ k ∷ ns) (n ∷ directly_after k j ns)

-- "the rest as in 01, checked in its order, 30 directly after 1 and 31 directly after 4"
abbrev pub harbour_order : List ℕ
harbour_order = directly_after 31 4 (directly_after 30 1 order)

-- "Degree 12 to 24, as field or argument, is refusal 30", and above 24 it is 1
abbrev pub depth_rows : ℕ → List Row
depth_rows n = degree_rows n ++ (30 when (ltb 11 n && leb n 24) ∷ [])

-- "a set last bit is 31"
abbrev pub last_bit_rows : SmallCode → List Row
last_bit_rows s = 31 when not (eqb (low_in small s.0) 0) ∷ []

-- (A small word has no four zero bits and no corner number, so that 4 is not given; its degree is below 16, so that 1
-- is not.)
abbrev pub small_rows : SmallCode → List Row
small_rows s = depth_rows (degree_in small s.0) ++ field_rows small s.0 ++ last_bit_rows s

-- checking a small word, and reading it
unfoldable pub check_small : SmallCode → ℕ
check_small s = first_of harbour_order (small_rows s)

-- writing the small word of a code
abbrev pub write_rows : TriangleCode → List Row
write_rows t = depth_rows (degree_of t.0) ++ field_rows large t.0 ++ code_low_rows t

unfoldable pub refuse_write : TriangleCode → ℕ
refuse_write t = first_of harbour_order (write_rows t)

unfoldable pub refuse_small_cross : SmallCode → ℕ → ℕ
refuse_small_cross s k = first_of harbour_order (small_rows s ++ one_to_three_rows k)

unfoldable pub refuse_small_file : ℕ → Direction → ℕ
refuse_small_file n d = first_of harbour_order (depth_rows n ++ direction_rows d)
