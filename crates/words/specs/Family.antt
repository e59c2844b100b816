-- Document 01, "Parent, child and crossing take a triangle code": parent and child. Assumes nothing.
use Rattle.std.specs.Prelude.{ℕ, suc, ◌-◌, ◌∷◌, ◌++◌, Result}
use Rattle.frame.specs.declared.Refusal.{Refusal}
use Rattle.frame.specs.Refusals.{refusal, told}
use Rattle.frame.specs.Answers.{Known}
use Rattle.words.specs.Words.{degree_of, digits, side_of, path, word_of}
use Rattle.words.specs.Refusals.{code_rows, digit_rows, parent_rows, child_rows}
use Rattle.words.specs.declared.TriangleCode.{TriangleCode}

abbrev pub code_of : ℕ → TriangleCode
code_of w = record { 0 = w }

-- an answer that is a code, and a refusal's zeros
pub record CodeAnswer : Type 0 where
  pub refusal : ℕ
  pub code : TriangleCode

abbrev pub code_answer : (refusal : ℕ) → TriangleCode → CodeAnswer
code_answer f t = record { refusal = f; code = t }

abbrev pub no_code : (refusal : ℕ) → CodeAnswer
no_code f = code_answer f (code_of 0)

abbrev pub code_told : Result TriangleCode Refusal → CodeAnswer
code_told r = told (code_answer 0) no_code r

unfoldable pub refuse_parent : TriangleCode → ℕ
refuse_parent t = refusal (code_rows t ++ parent_rows t)

unfoldable pub refuse_child : TriangleCode → ℕ → ℕ
refuse_child t d = refusal (code_rows t ++ digit_rows d ++ child_rows t)

-- The same side, and all digits but the last.
unfoldable pub parent_of : TriangleCode → TriangleCode
parent_of t = let w = t.0 in code_of (word_of (side_of w) (degree_of w - 1) (path (digits w (degree_of w - 1))))

-- The same side, and all digits and one more.
unfoldable pub child_of : TriangleCode → ℕ → TriangleCode
child_of t d = let w = t.0 in code_of (word_of (side_of w) (suc (degree_of w)) (path (d ∷ digits w (degree_of w))))

-- The complete answers, for every input: what the contracts cite.
abbrev pub ParentAnswer : TriangleCode → CodeAnswer → Type 0
ParentAnswer t r = Known (refuse_parent t) (code_answer 0 (parent_of t)) no_code r

abbrev pub ChildAnswer : TriangleCode → ℕ → CodeAnswer → Type 0
ChildAnswer t d r = Known (refuse_child t d) (code_answer 0 (child_of t d)) no_code r
