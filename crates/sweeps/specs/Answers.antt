-- Document 02, 2026-04: the complete answer of a sweep, for every input: what the contract cites. `out` is the lent
-- list of codes as it comes, `new` as it is left. Assumes nothing.
use Rattle.std.specs.Prelude.{◌≡◌, List, ℕ, ℤ, Option, None, Some, Result}
use Rattle.frame.specs.declared.Refusal.{Refusal}
use Rattle.frame.specs.Refusals.{number, told}
use Rattle.frame.specs.Answers.{Lent, over}
use Rattle.sweeps.specs.Sweeps.{SweepAnswer, sweep_answer, no_sweep, Swept}
use Rattle.sweeps.specs.Refusals.{refuse_sweep}
use Rattle.sweeps.specs.declared.Unfiled.{Unfiled}

-- the answer of a call's result: "all zeros if there is none"
abbrev pub unfiled_told : Option Unfiled → SweepAnswer
unfiled_told None = no_sweep 0
unfiled_told (Some r) = sweep_answer 0 r.count r.place (number r.refusal)

abbrev pub sweep_told : Result (Option Unfiled) Refusal → SweepAnswer
sweep_told r = told unfiled_told no_sweep r

-- "into a lent list of codes"; "Code places after the last direction stay unchanged."
pub record SweptInto (degree : ℕ) (dirs : List ℤ) (out : List ℕ) (r : SweepAnswer) (new : List ℕ) : Type 0 where
  pub codes : List ℕ
  pub swept : Swept degree dirs r codes
  pub put : new ≡ over codes out

-- "For the whole call, writing nothing"
abbrev pub SweepResult : (degree : ℕ) → List ℤ → List ℕ → SweepAnswer → List ℕ → Type 0
SweepResult n dirs out r new = Lent (refuse_sweep n dirs out) (SweptInto n dirs out) no_sweep out r new
