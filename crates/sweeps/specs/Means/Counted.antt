-- What a sweep finds on its way: the codes, and how many directions are refused. Where the first of them stands is seen
-- from the codes, which are 0 just there. Assumes nothing.
use Rattle.std.specs.Prelude.{◌≡◌, Bool, true, false, List, ℕ, zero, suc, ℤ}
use Rattle.frame.specs.Answers.{over}
use Rattle.words.specs.Family.{CodeAnswer}
use Rattle.net.specs.Steps.{non_zeros}
use Rattle.filing.specs.declared.Direction.{Direction}
use Rattle.directions.specs.Answers.{FileAnswer}
use Rattle.sweeps.specs.Sweeps.{SweepAnswer, Singles, codes_of, refusals_of, sweep_answer, no_sweep}
use Rattle.sweeps.specs.Promises.{direction_at}

-- the directions come to these codes, and m of them are refused
pub record Counted (degree : ℕ) (dirs : List ℤ) (m : ℕ) (codes : List ℕ) : Type 0 where
  pub singles : List CodeAnswer
  pub each : Singles degree dirs singles
  pub count : m ≡ non_zeros (refusals_of singles)
  pub are : codes ≡ codes_of singles

-- the same in a lent list, which comes as `out` and is left as `new`
pub record CountedInto (degree : ℕ) (dirs : List ℤ) (out : List ℕ) (m : ℕ) (new : List ℕ) : Type 0 where
  pub codes : List ℕ
  pub counted : Counted degree dirs m codes
  pub put : new ≡ over codes out

abbrev pub is_zero : ℕ → Bool
is_zero zero = true
is_zero (suc w) = false

-- that a direction is refused, as the single call answers it
abbrev pub Refuses : (degree : ℕ) → Direction → Type 0
Refuses degree d = (s : CodeAnswer) → FileAnswer degree d s → s.refusal ≡ 0 → ⊥

-- an answer where m directions are refused, and the first with the code 0 stands at `place`
pub record Tells (degree : ℕ) (dirs : List ℤ) (place m : ℕ) (r : SweepAnswer) : Type 0 where
  pub none : m ≡ 0 → r ≡ no_sweep 0
  pub some : (m ≡ 0 → ⊥)
      → (s : CodeAnswer) × FileAnswer degree (direction_at dirs place) s × (r ≡ sweep_answer 0 m place s.refusal)
