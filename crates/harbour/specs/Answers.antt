-- Document 02, 2026-11: the complete answer of each call on the small form, for every input: what the contracts cite.
-- (Checking answers an equation: `check_small`.) Assumes nothing.
use Rattle.std.specs.Prelude.{◌≡◌, ℕ, Result}
use Rattle.frame.specs.declared.Refusal.{Refusal}
use Rattle.frame.specs.Refusals.{told}
use Rattle.frame.specs.Answers.{Answer, Known}
use Rattle.words.specs.Family.{code_answer, no_code}
use Rattle.words.specs.declared.TriangleCode.{TriangleCode}
use Rattle.words.specs.Family.{CodeAnswer}
use Rattle.filing.specs.declared.Direction.{Direction}
use Rattle.corners.specs.Answers.{Crossed}
use Rattle.corners.specs.Answers.{StepAnswer}
use Rattle.directions.specs.Answers.{Filed}
use Rattle.harbour.specs.Small.{small_code, large_of, small_of}
use Rattle.harbour.specs.Refusals.{check_small, refuse_write, refuse_small_cross, refuse_small_file}
use Rattle.harbour.specs.declared.SmallCode.{SmallCode}
use Rattle.harbour.specs.declared.SmallStep.{SmallStep}

-- ---- answers, and a refusal's zeros

pub record SmallAnswer : Type 0 where
  pub refusal : ℕ
  pub code : SmallCode

pub record SmallStepAnswer : Type 0 where
  pub refusal : ℕ
  pub code : SmallCode
  pub edge : ℕ
  pub first : ℕ
  pub second : ℕ

abbrev pub small_answer : (refusal : ℕ) → SmallCode → SmallAnswer
small_answer f s = record { refusal = f; code = s }

abbrev pub small_step : (refusal : ℕ) → SmallCode → (edge first second : ℕ) → SmallStepAnswer
small_step f s k i j = record { refusal = f; code = s; edge = k; first = i; second = j }

abbrev pub no_small : (refusal : ℕ) → SmallAnswer
no_small f = small_answer f (small_code 0)

abbrev pub no_small_step : (refusal : ℕ) → SmallStepAnswer
no_small_step f = small_step f (small_code 0) 0 0 0

-- the same of a call's result
abbrev pub small_told : Result SmallCode Refusal → SmallAnswer
small_told r = told (small_answer 0) no_small r

abbrev pub small_step_told : Result SmallStep Refusal → SmallStepAnswer
small_step_told r = told (λ s. small_step 0 s.code s.edge s.first s.second) no_small_step r

-- ---- "reader and writer between the forms"

abbrev pub ReadAnswer : SmallCode → CodeAnswer → Type 0
ReadAnswer s r = Known (check_small s) (code_answer 0 (large_of s)) no_code r

abbrev pub WriteAnswer : TriangleCode → SmallAnswer → Type 0
WriteAnswer t r = Known (refuse_write t) (small_answer 0 (small_of t)) no_small r

-- ---- "Crossing and filing on the small form give the small form of the large answer."

-- the small form of an answer
abbrev pub small_of_step : StepAnswer → SmallStepAnswer
small_of_step a = small_step a.refusal (small_of a.code) a.edge a.first a.second

abbrev pub small_of_code : CodeAnswer → SmallAnswer
small_of_code a = small_answer a.refusal (small_of a.code)

-- r is the small form of an answer that the large call may give.
pub record SmallFormOf {A B : Type 0} (Large : A → Type 0) (formed : A → B) (r : B) : Type 0 where
  pub answer : A
  pub large : Large answer
  pub is : r ≡ formed answer

abbrev pub SmallCrossed : SmallCode → ℕ → SmallStepAnswer → Type 0
SmallCrossed s k r = SmallFormOf (Crossed (large_of s) k) small_of_step r

abbrev pub SmallCrossAnswer : SmallCode → ℕ → SmallStepAnswer → Type 0
SmallCrossAnswer s k r = Answer (refuse_small_cross s k) (SmallCrossed s k) no_small_step r

abbrev pub SmallFiled : ℕ → Direction → SmallAnswer → Type 0
SmallFiled n d r = SmallFormOf (Filed n d) small_of_code r

abbrev pub SmallFileAnswer : ℕ → Direction → SmallAnswer → Type 0
SmallFileAnswer n d r = Answer (refuse_small_file n d) (SmallFiled n d) no_small r
