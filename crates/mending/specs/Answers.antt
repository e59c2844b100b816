-- Document 02, 2026-10: the complete answer of mending, for every input: what the contract cites. `l` is the three lent
-- lists as they come, `new` as they are left. Assumes nothing.
use Rattle.std.specs.Prelude.{List, [], ◌∷◌, ◌++◌, map, ℕ, ltb, length, Result}
use Rattle.frame.specs.declared.Refusal.{Refusal}
use Rattle.frame.specs.Refusals.{◌when◌, first_of, order, list_rows, told}
use Rattle.frame.specs.Answers.{Known, over}
use Rattle.mending.specs.Mending.{Change, mended, changes}
use Rattle.mending.specs.declared.Written.{Written}

-- "Work in lent lists": one for the result, and "words in one list and reasons in another"
pub record Lists : Type 0 where
  pub out : List ℕ
  pub words : List ℕ
  pub reasons : List ℕ

abbrev pub lists : (out words reasons : List ℕ) → Lists
lists out words reasons = record { out = out; words = words; reasons = reasons }

-- "a list above 4,096 words is refusal 32, checked first, and a result or change list shorter than the input is
-- refusal 9"
unfoldable pub refuse_mend : List ℕ → Lists → ℕ
refuse_mend ws l =
    let n = length ws in
    first_of (32 ∷ order)
    (32 when ltb 4096 n ∷ list_rows n l.out ++ list_rows n l.words ++ list_rows n l.reasons)

-- How many places of the result and of the change lists were written; or a refusal's number, with zeros.
pub record MendAnswer : Type 0 where
  pub refusal : ℕ
  pub count : ℕ
  pub changes : ℕ

abbrev pub mend_answer : (refusal count changes : ℕ) → MendAnswer
mend_answer f n m = record { refusal = f; count = n; changes = m }

abbrev pub no_mend : (refusal : ℕ) → MendAnswer
no_mend f = mend_answer f 0 0

abbrev pub mend_told : Result Written Refusal → MendAnswer
mend_told r = told (λ m. mend_answer 0 m.count m.changes) no_mend r

abbrev pub words_of : List Change → List ℕ
words_of cs = map (λ c. c.word) cs

abbrev pub reasons_of : List Change → List ℕ
reasons_of cs = map (λ c. c.reason) cs

-- "Both counts are answered; later places stay unchanged."
abbrev pub mend_out : List ℕ → Lists → MendAnswer × Lists
mend_out ws l =
    let list = mended ws in
    let cs = changes ws in (
      mend_answer 0 (length list) (length cs),
      lists (over list l.out) (over (words_of cs) l.words) (over (reasons_of cs) l.reasons),
    )

abbrev pub MendResult : List ℕ → Lists → MendAnswer → Lists → Type 0
MendResult ws l r new = Known (refuse_mend ws l) (mend_out ws l) (λ f. (no_mend f, l)) (r, new)
