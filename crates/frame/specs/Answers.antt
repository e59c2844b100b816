-- Document 01, 'Refusal numbers': what a call answers, and how it leaves lent memory. Assumes nothing.
use Rattle.std.specs.Prelude.{◌≡◌, ℕ, zero, suc, List, ◌++◌, length, drop}

-- "Zero means answered. Every refusal returns only its number and zeros": f is the refusal, r the answer.
pub record Answer {A : Type 0} (f : ℕ) (Good : A → Type 0) (zeros : ℕ → A) (r : A) : Type 0 where
  pub answered : f ≡ 0 → Good r
  pub refused : (f ≡ 0 → ⊥) → r ≡ zeros f

-- The same where what is answered is one value.
abbrev pub Known : {A : Type 0} → (f : ℕ) (value : A) (zeros : ℕ → A) (r : A) → Type 0
Known f v zeros r = Answer f (λ s. s ≡ v) zeros r

-- The one answer that `Known` allows.
abbrev pub settled : {A : Type 0} → (f : ℕ) (value : A) (zeros : ℕ → A) → A
settled zero v zeros = v
settled (suc f) v zeros = zeros (suc f)

-- "lent memory keeps its contents": the same of an answer together with lent memory, which comes as `old` and is left
-- as `new`. The memory is of any type: a list, or several.
abbrev pub Lent : {A M : Type 0} → (f : ℕ) (Good : A → M → Type 0) (zeros : ℕ → A) (old : M) (r : A) (new : M)
    → Type 0
Lent {A} {M} f Good zeros old r new = Answer {A = A × M} f (λ x. Good x.0 x.1) (λ k. (zeros k, old)) (r, new)

-- "A longer list is allowed; only its first 12 or 6 places are used": xs in the first places, and what was there in the
-- later ones
abbrev pub over : {A : Type 0} → List A → List A → List A
over xs out = xs ++ drop (length xs) out

-- A count and a list, of which the answer r tells the count. "the sixth place stays unchanged when there are 5",
-- "places after the count are unchanged"
pub record Listed {A B : Type 0} (Good : List B → Type 0) (counted : ℕ → A) (out : List B) (r : A) (new : List B)
    : Type 0 where
  pub list : List B
  pub good : Good list
  pub count : r ≡ counted (length list)
  pub put : new ≡ over list out
