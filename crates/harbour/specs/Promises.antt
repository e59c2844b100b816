-- Document 02, 2026-11: what is promised of the small form, beside the contracts. Assumes nothing.
use Rattle.std.specs.Prelude.{◌≡◌, ◌↔◌, ℕ, ◌-◌, ◌%◌, ◌≤◌, ◌<◌, ◌^◌}
use Rattle.frame.specs.Promises.{Keeps}
use Rattle.words.specs.Forms.{degree_in, first_digits, side_in}
use Rattle.words.specs.Words.{degree_of, digits, side_of}
use Rattle.words.specs.Refusals.{IsCode, check_code}
use Rattle.words.specs.Family.{code_answer, no_code}
use Rattle.words.specs.declared.TriangleCode.{TriangleCode}
use Rattle.words.specs.Family.{CodeAnswer}
use Rattle.filing.specs.declared.Direction.{Direction}
use Rattle.corners.specs.Answers.{CrossAnswer}
use Rattle.corners.specs.Answers.{StepAnswer}
use Rattle.directions.specs.Answers.{FileAnswer}
use Rattle.harbour.specs.Small.{small, small_code, large_of, small_of}
use Rattle.harbour.specs.Refusals.{check_small, refuse_write, refuse_small_cross, refuse_small_file}
use Rattle.harbour.specs.Answers.{small_answer, no_small, no_small_step, small_of_step, small_of_code}
use Rattle.harbour.specs.Answers.{ReadAnswer, WriteAnswer, SmallCrossAnswer, SmallFileAnswer}
use Rattle.harbour.specs.declared.SmallCode.{SmallCode}
use Rattle.harbour.specs.Answers.{SmallAnswer}
use Rattle.harbour.specs.Answers.{SmallStepAnswer}

-- Demand 1, of these calls: exactly one answer for every input, a refusal by its number, with zeros.
pub record OneAnswer : Type 0 where
  pub check : (s : SmallCode) → Keeps (check_small s) (λ r. r ≡ check_small s) (λ r. r) (λ f. f)
  pub read : (s : SmallCode) → Keeps (check_small s) (ReadAnswer s) (λ r. r.refusal) no_code
  pub write : (t : TriangleCode) → Keeps (refuse_write t) (WriteAnswer t) (λ r. r.refusal) no_small
  pub cross : (s : SmallCode) (k : ℕ)
      → Keeps (refuse_small_cross s k) (SmallCrossAnswer s k) (λ r. r.refusal) no_small_step
  pub file : (n : ℕ) (d : Direction)
      → Keeps (refuse_small_file n d) (SmallFileAnswer n d) (λ r. r.refusal) no_small

-- "Write reader and writer between the forms."
pub record BetweenForms : Type 0 where
  -- there and back, both ways
  pub read_write : (s : SmallCode) → check_small s ≡ 0 → WriteAnswer (large_of s) (small_answer 0 s)
  pub write_read : (t : TriangleCode) → refuse_write t ≡ 0 → ReadAnswer (small_of t) (code_answer 0 t)
  -- "Small units store only degree 11 or less": the small words are just the codes of such degrees
  pub is_code : (s : SmallCode) → check_small s ≡ 0
      → IsCode (degree_in small s.0) (large_of s) × (degree_in small s.0 ≤ 11)
  pub is_small : (t : TriangleCode) → check_code t ≡ 0 → degree_of t.0 ≤ 11 → check_small (small_of t) ≡ 0
  -- of the same side and digits
  pub same_side : (s : SmallCode) → check_small s ≡ 0 → side_of (large_of s).0 ≡ side_in small s.0
  pub same_digits : (s : SmallCode) → check_small s ≡ 0
      → let n = degree_in small s.0 in digits (large_of s).0 n ≡ first_digits small s.0 n
  -- "in 32-bit words"
  pub fits : (t : TriangleCode) → refuse_write t ≡ 0 → (small_of t).0 < 2 ^ 32
  -- codes of one degree are in the same order in both forms
  pub same_order : (n : ℕ) (t u : TriangleCode) → IsCode n t → IsCode n u → n ≤ 11
      → (t.0 < u.0) ↔ ((small_of t).0 < (small_of u).0)

-- "Degree 12 to 24, as field or argument, is refusal 30; a set last bit is 31"
pub record Refusing : Type 0 where
  pub deep_field : (s : SmallCode) → (check_small s ≡ 30) ↔ (12 ≤ degree_in small s.0)
  pub deep_code : (t : TriangleCode) → (refuse_write t ≡ 30) ↔ ((12 ≤ degree_of t.0) × (degree_of t.0 ≤ 24))
  pub deep_argument : (n : ℕ) (d : Direction) → (refuse_small_file n d ≡ 30) ↔ ((12 ≤ n) × (n ≤ 24))
  -- no small word is refused by 1 or by 4
  pub never : (s : SmallCode) → (check_small s ≡ 1 → ⊥) × (check_small s ≡ 4 → ⊥)
  -- a word that would be a small code without its last bit
  pub last_bit : (s : SmallCode)
      → (check_small s ≡ 31) ↔ ((s.0 % 2 ≡ 1) × (check_small (small_code (s.0 - 1)) ≡ 0))

-- "Crossing and filing on the small form give the small form of the large answer": of any small code, with any edge, a
-- refused one too; and of any direction at a degree of 11 or less.
pub record SmallCalls : Type 0 where
  pub crosses : (s : SmallCode) (k : ℕ) (r : SmallStepAnswer) (a : StepAnswer) → check_small s ≡ 0
      → SmallCrossAnswer s k r → CrossAnswer (large_of s) k a → r ≡ small_of_step a
  pub files : (n : ℕ) (d : Direction) (r : SmallAnswer) (a : CodeAnswer) → n ≤ 11
      → SmallFileAnswer n d r → FileAnswer n d a → r ≡ small_of_code a
  -- and what they answer reads as the large answer
  pub crossed : (s : SmallCode) (k : ℕ) (r : SmallStepAnswer) (a : StepAnswer) → refuse_small_cross s k ≡ 0
      → SmallCrossAnswer s k r → CrossAnswer (large_of s) k a → ReadAnswer r.code (code_answer 0 a.code)
  pub filed : (n : ℕ) (d : Direction) (r : SmallAnswer) (a : CodeAnswer) → refuse_small_file n d ≡ 0
      → SmallFileAnswer n d r → FileAnswer n d a → ReadAnswer r.code (code_answer 0 a.code)
