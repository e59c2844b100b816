-- Document 02, 2026-04: what a sweep comes to. Assumes nothing.
use Rattle.std.specs.Prelude.{◌≡◌, Bool, true, false, List, [], ◌∷◌, map, ℕ, zero, suc, ℤ, get_or}
use Rattle.frame.specs.Lists.{first_place}
use Rattle.words.specs.Family.{CodeAnswer}
use Rattle.net.specs.Steps.{non_zeros}
use Rattle.directions.specs.Answers.{FileAnswer}
use Rattle.grid.specs.Writing.{towards}

-- "File a lent list of directions (three signed numbers each)"; "Each result equals the single call's.": rs are the
-- answers of the single call, one for each three numbers in turn
pub data Singles (degree : ℕ) : List ℤ → List CodeAnswer → Type 0 where
  done : Singles degree [] []
  then : {x y z : ℤ} {more : List ℤ} {r : CodeAnswer} {rs : List CodeAnswer}
      → FileAnswer degree (towards x y z) r → Singles degree more rs
      → Singles degree (x ∷ y ∷ z ∷ more) (r ∷ rs)

-- "A refused direction writes 0 in its own place": a refused single call answers the code 0
abbrev pub codes_of : List CodeAnswer → List ℕ
codes_of = map (λ r. r.code.0)

-- the refusal of each, 0 where it is filed
abbrev pub refusals_of : List CodeAnswer → List ℕ
refusals_of = map (λ r. r.refusal)

abbrev pub is_refusal : ℕ → Bool
is_refusal zero = false
is_refusal (suc f) = true

-- ---- the answer

-- The refusal of the whole call, or 0; how many directions were refused, and the first one's place, from 0, and
-- refusal.
pub record SweepAnswer : Type 0 where
  pub refusal : ℕ
  pub refused : ℕ
  pub place : ℕ
  pub first : ℕ

abbrev pub sweep_answer : (refusal refused place first : ℕ) → SweepAnswer
sweep_answer f m p g = record { refusal = f; refused = m; place = p; first = g }

-- "Every refusal returns only its number and zeros" (document 01), of the whole call; with 0 none is refused
abbrev pub no_sweep : (refusal : ℕ) → SweepAnswer
no_sweep f = sweep_answer f 0 0 0

-- "the answer holds the number of refused directions and the first one's place (from 0) and refusal, all zeros if there
-- is none": fs are the refusals of all directions
abbrev pub first_refused : List ℕ → ℕ
first_refused fs = first_place is_refusal fs

abbrev pub told_of : (refused : ℕ) → List ℕ → SweepAnswer
told_of zero fs = no_sweep 0
told_of (suc m) fs = sweep_answer 0 (suc m) (first_refused fs) (get_or fs (first_refused fs) 0)

unfoldable pub told : List ℕ → SweepAnswer
told fs = told_of (non_zeros fs) fs

-- The directions come to the answer r and these codes, one for each.
pub record Swept (degree : ℕ) (dirs : List ℤ) (r : SweepAnswer) (codes : List ℕ) : Type 0 where
  pub singles : List CodeAnswer
  pub each : Singles degree dirs singles
  pub answer : r ≡ told (refusals_of singles)
  pub are : codes ≡ codes_of singles
