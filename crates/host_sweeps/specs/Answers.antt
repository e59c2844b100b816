-- Document 02, 2026-04: the complete answer of a sweep over bytes, for every input: what its contract cites. `codes`
-- and `out` are the lent bytes as they come, `new` both as they are left. Assumes nothing.
use Rattle.std.specs.Prelude.{◌≡◌, List, [], ◌∷◌, ℕ, ◌/◌, ℤ, length}
use Rattle.frame.specs.Answers.{Lent, over}
use Rattle.octets.specs.Bytes.{bytes, signed_numbers}
use Rattle.sweeps.specs.Sweeps.{SweepAnswer, Swept}
use Rattle.host_sweeps.specs.Refusals.{refuse_sweep}

-- "three signed numbers each": four bytes for each number, most significant first
abbrev pub directions_in : List ℕ → List ℤ
directions_in dirs = signed_numbers 4 (length dirs / 4) dirs

-- "File a lent list of directions .. into a lent list of codes": eight bytes a code, and the later ones stay
pub record SweptBytes (n : ℕ) (dirs codes : List ℕ) (a : SweepAnswer) (new : List ℕ) : Type 0 where
  pub written : List ℕ
  pub swept : Swept n (directions_in dirs) a written
  pub put : new ≡ over (bytes 8 written) codes

-- "the answer holds the number of refused directions and the first one's place (from 0) and refusal": in 24 bytes
pub record SentSweep (n : ℕ) (dirs codes out : List ℕ) (r : ℕ) (new : List ℕ × List ℕ) : Type 0 where
  pub told : SweepAnswer
  pub swept : SweptBytes n dirs codes told new.0
  pub answered : r ≡ 0
  pub put : new.1 ≡ over (bytes 8 (told.refused ∷ told.place ∷ told.first ∷ [])) out

abbrev pub SweepBytes : (degree : ℕ) (dirs codes out : List ℕ) → ℕ → List ℕ × List ℕ → Type 0
SweepBytes n dirs codes out r new =
    Lent (refuse_sweep n dirs codes out) (SentSweep n dirs codes out) (λ k. k) (codes, out) r new
