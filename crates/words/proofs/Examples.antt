-- Fields at numbers, and the test of the order of refusals. (The words of document 01's examples, and each refusal at
-- its bound, are in the crate grid.) Assumes nothing.
use mathlib.Core.Path.{◌≡◌, refl}
use mathlib.Core.Bool.{true, false}
use mathlib.Core.List.{[], ◌∷◌}
use Prim.Native.Nat.{ℕ, ◌+◌}
use Rattle.words.specs.Words.{digits, first_digits, word_of, word_in}
use Rattle.frame.specs.Refusals.{first_of, order}
use Rattle.frame.proofs.Refusing.{in_order}
use Rattle.words.specs.Refusals.{check_code, check_name_fields}
use Rattle.words.specs.Family.{code_of}
use Rattle.words.specs.declared.CornerName.{CornerName}

abbrev name_of : ℕ → CornerName
name_of w = record { 0 = w }

pub table :
    -- the digits of 10003, the last first
    (digits 0x208C000000000000 2 ≡ 3 ∷ 0 ∷ [])
    -- the highest of the four zero bits; corner numbers 1 to 3
    × (check_code (code_of (word_of 4 0 0 + 32)) ≡ 4)
    × (check_name_fields (name_of (word_of 4 0 0 + 1)) ≡ 0)
    × (check_name_fields (name_of (word_of 4 0 0 + 2)) ≡ 0)
    × (check_name_fields (name_of (word_of 4 0 0 + 3)) ≡ 0)
    -- the test of the order: a number twice, 10 before 5, 8 before 7; not 5 before 10
    × (in_order order (1 ∷ 1 ∷ 4 ∷ 10 ∷ 5 ∷ 6 ∷ 8 ∷ 7 ∷ 9 ∷ 11 ∷ []) ≡ true)
    × (in_order order (4 ∷ 5 ∷ 10 ∷ []) ≡ false)
    × (in_order order (1 ∷ 2 ∷ 1 ∷ []) ≡ false)
unfolding word_in first_digits first_of check_code check_name_fields
table = (refl, refl, refl, refl, refl, refl, refl, refl)
