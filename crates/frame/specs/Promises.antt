-- Document 01, 'What the contracts owe', and the user's demand 1 (grid/specs/Demands.antt): a promise P of a call at
-- given arguments says which answers it may give. Assumes nothing.
use Rattle.std.specs.Prelude.{◌≡◌, ◌↔◌, ℕ}

-- "Show that any two results meeting a statement are equal": r meets the promise, and whatever meets it is r.
pub record Gives {A : Type 0} (P : A → Type 0) (r : A) : Type 0 where
  pub meets : P r
  pub only : (s : A) → P s → s ≡ r

infix 3 ◌gives◌
abbrev pub ◌gives◌ : {A : Type 0} → (A → Type 0) → A → Type 0
P gives r = Gives P r

-- There is one, and whatever else meets P is that one.
abbrev pub One : {A : Type 0} → (A → Type 0) → Type 0
One {A} P = (a : A) × (P gives a)

-- A promise of an answer and of lent memory as it is left, as one of the two together.
abbrev pub together : {A M : Type 0} → (A → M → Type 0) → A × M → Type 0
together P x = P x.0 x.1

infix 3 ◌leaves◌
abbrev pub ◌leaves◌ : {A M : Type 0} → (A → M → Type 0) → A × M → Type 0
P leaves x = together P gives x

-- Demand 1: "Each call answers, or refuses by document 01's number exactly when 01 says so; a refusal returns its number and
-- zeros": f is the number that document 01 gives, 0 where the call answers.
-- "No older answer is ever repeated": the arguments alone determine the answer.
pub record Keeps {A : Type 0} (f : ℕ) (P : A → Type 0) (number : A → ℕ) (zeros : ℕ → A) : Type 0 where
  pub one : One P
  pub exactly : (r : A) → P r → number r ≡ f
  pub refused : (r : A) → P r → (f ≡ 0 → ⊥) → r ≡ zeros f

-- ".. and changes no lent memory": the same with lent memory, which comes as `old`
abbrev pub KeepsLent : {A M : Type 0} → (f : ℕ) (P : A → M → Type 0) (number : A → ℕ) (zeros : ℕ → A) (old : M)
    → Type 0
KeepsLent f P number zeros old = Keeps f (together P) (λ x. number x.0) (λ k. (zeros k, old))

-- What a function's own contract says at given arguments: it asks nothing, and what it ensures is just the promise.
pub record Says (asked ensured promise : Type 0) : Type 0 where
  pub nothing : asked
  pub just : ensured ↔ promise
