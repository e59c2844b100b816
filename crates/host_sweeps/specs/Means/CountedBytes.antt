-- What a sweep over bytes finds on its way: the bytes of the codes, and how many directions are refused. Assumes
-- nothing.
use Rattle.std.specs.Prelude.{◌≡◌, List, [], ◌∷◌, ℕ, zero, suc, ◌+◌, ◌*◌, ℤ, get_or, drop}
use Rattle.frame.specs.Answers.{over}
use Rattle.octets.specs.Bytes.{bytes, number_at, signed}
use Rattle.filing.specs.declared.Direction.{Direction}
use Rattle.grid.specs.Writing.{towards}
use Rattle.sweeps.specs.Means.Counted.{Counted, Tells}
use Rattle.sweeps.specs.Sweeps.{SweepAnswer}

-- direction i, from 0, of those that stand in bytes: three numbers of four bytes each
abbrev pub direction_in : List ℕ → ℕ → Direction
direction_in bs i =
    towards (signed 4 (number_at 4 bs (3 * i))) (signed 4 (number_at 4 bs (3 * i + 1)))
    (signed 4 (number_at 4 bs (3 * i + 2)))

-- the directions come to codes whose bytes lie over `codes`, and m of them are refused
pub record CountedBytes (degree : ℕ) (dirs : List ℤ) (codes : List ℕ) (m : ℕ) (new : List ℕ) : Type 0 where
  pub written : List ℕ
  pub counted : Counted degree dirs m written
  pub put : new ≡ over (bytes 8 written) codes

-- the first byte of each of the first n codes
unfoldable pub first_bytes : (n : ℕ) → List ℕ → List ℕ
first_bytes zero bs = []
first_bytes (suc n) bs = get_or bs 0 0 ∷ first_bytes n (drop 8 bs)

-- an answer's three numbers in lent bytes, where m directions are refused, and the first with the code 0 stands at
-- `place`
pub record ToldBytes (degree : ℕ) (dirs : List ℤ) (place m : ℕ) (out new : List ℕ) : Type 0 where
  pub told : SweepAnswer
  pub tells : Tells degree dirs place m told
  pub put : new ≡ over (bytes 8 (told.refused ∷ told.place ∷ told.first ∷ [])) out
