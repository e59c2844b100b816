-- Laws of answers and promises: what a program returns, that there is one answer and no other, and the number that it
-- has. With lent memory an answer is the two together (`Lent`), so that each law serves both. Assumes nothing.
use mathlib.Core.Path.{◌≡◌, ◌∙◌, refl, sym, ap, subst}
use mathlib.Core.Bool.{false}
use mathlib.Core.Logic.{◌⊎◌, inl, inr, ⊎_elim}
use mathlib.Core.List.{List}
use Prim.Native.Nat.{ℕ, zero, suc}
use native.Mathlib.Omega.{arith}
use borrow.Author.Tests.{eqb-false}
use lib.Dec.{eqb}
use lib.ListN.{length}
use Rattle.frame.specs.Answers.{Answer, Known, settled, Listed, over}
use Rattle.frame.specs.Promises.{Keeps, Says, ◌gives◌}

-- a call answers or refuses
pub answers_or_not : (f : ℕ) → (f ≡ 0) ⊎ (f ≡ 0 → ⊥)
answers_or_not zero = inl refl
answers_or_not (suc f) = inr (λ e. omega arith)

-- ---- what a program returns

module _ {A : Type 0} {f : ℕ} {Good : A → Type 0} {zeros : ℕ → A} where
  -- refusal k was found, and it is not 0
  pub refusing : {k : ℕ} → k ≡ f → (k ≡ 0 → ⊥) → Answer f Good zeros (zeros k)
  refusing e no_zero = record { answered = λ z. absurd (no_zero (e ∙ z)); refused = λ n. ap zeros e }

  -- what is returned is the refusal f with its zeros
  pub refused_as : {r : A} → r ≡ zeros f → (f ≡ 0 → ⊥) → Answer f Good zeros r
  refused_as e some = record { answered = λ z. absurd (some z); refused = λ n. e }

  pub answering : {r : A} → f ≡ 0 → Good r → Answer f Good zeros r
  answering z g = record { answered = λ e. g; refused = λ n. absurd (n z) }

  -- ---- one answer, where what is answered is one

  pub answer_one : {r r' : A} → ((f ≡ 0) → Good r → Good r' → r ≡ r')
      → Answer f Good zeros r → Answer f Good zeros r' → r ≡ r'
  answer_one one x y =
      ⊎_elim (λ z. one z (x.answered z) (y.answered z)) (λ n. x.refused n ∙ sym (y.refused n))
      (answers_or_not f)

module _ {A : Type 0} (f : ℕ) (Good : A → Type 0) (zeros : ℕ → A) where
  pub answer_some : (f ≡ 0 → (r : A) × Good r) → (r : A) × Answer f Good zeros r
  answer_some give =
      ⊎_elim (λ z. let x = give z in (x.0, answering z x.1)) (λ n. (zeros f, refusing refl n))
      (answers_or_not f)

-- where what is answered is one value v
module _ {A : Type 0} (f : ℕ) (v : A) (zeros : ℕ → A) where
  pub known_one : (r r' : A) → Known f v zeros r → Known f v zeros r' → r ≡ r'
  known_one r r' = answer_one (λ z x y. x ∙ sym y)

  pub known_some : (r : A) × Known f v zeros r
  known_some = answer_some f (λ s. s ≡ v) zeros (λ z. (v, refl))

-- which is the settled one
pub known_settled : {A : Type 0} (f : ℕ) (v : A) (zeros : ℕ → A) (r : A) → Known f v zeros r
    → r ≡ settled f v zeros
known_settled zero v zeros r k = k.answered refl
known_settled (suc f) v zeros r k = k.refused (λ e. omega (arith, e))

-- a count with its list, where the list is one
pub listed_one : {A B : Type 0} {Good : List B → Type 0} {counted : ℕ → A} {out : List B} {x y : A × List B}
    → ((xs ys : List B) → Good xs → Good ys → xs ≡ ys)
    → Listed Good counted out x.0 x.1 → Listed Good counted out y.0 y.1 → x ≡ y
listed_one {B = B} {counted = counted} {out = out} one g h =
    let e : g.list ≡ h.list = one g.list h.list g.good h.good in
    λ i. (
      (g.count ∙ ap (λ (l : List B). counted (length l)) e ∙ sym h.count) i,
      (g.put ∙ ap (λ (l : List B). over l out) e ∙ sym h.put) i,
    )

-- ---- the number of an answer

module _ {A : Type 0} {f : ℕ} {Good : A → Type 0} {zeros : ℕ → A} (number : A → ℕ)
    (z : number (zeros f) ≡ f) (g : (r : A) → Good r → number r ≡ 0) where
  -- it is the refusal
  pub number_is : {r : A} → Answer f Good zeros r → number r ≡ f
  number_is {r} a =
      ⊎_elim (λ e. g r (a.answered e) ∙ sym e) (λ n. ap number (a.refused n) ∙ z) (answers_or_not f)

  -- where it is 0, nothing was refused, and the answer is what was asked for
  pub passed : {r : A} → Answer f Good zeros r → number r ≡ 0 → f ≡ 0
  passed a e = sym (number_is a) ∙ e

  pub good : {r : A} → Answer f Good zeros r → number r ≡ 0 → Good r
  good a e = a.answered (passed a e)

  pub keeps : ((r : A) × Answer f Good zeros r)
      → ((r r' : A) → Answer f Good zeros r → Answer f Good zeros r' → r ≡ r')
      → Keeps f (Answer f Good zeros) number zeros
  keeps some one = record {
    one = (some.0, record { meets = some.1; only = λ r a. one r some.0 a some.1 });
    exactly = λ r a. number_is a;
    refused = λ r a n. a.refused n;
  }

-- ---- a promise of one value

pub keeps_known : {A : Type 0} (f : ℕ) (v : A) (zeros : ℕ → A) (number : A → ℕ) → number v ≡ 0
    → number (zeros f) ≡ f → Keeps f (Known f v zeros) number zeros
keeps_known f v zeros number e z =
    keeps number z (λ r g. ap number g ∙ e) (known_some f v zeros) (known_one f v zeros)

-- the same where a refusal is told by an equation too

pub keeps_is : {A : Type 0} {f : ℕ} {number : A → ℕ} {zeros : ℕ → A} (v : A) → number v ≡ f
    → ((f ≡ 0 → ⊥) → v ≡ zeros f) → Keeps f (λ r. r ≡ v) number zeros
keeps_is {number = number} v h k = record {
  one = (v, record { meets = refl; only = λ r e. e });
  exactly = λ r e. ap number e ∙ h;
  refused = λ r e n. e ∙ k n;
}

-- ---- examples

-- an answer that meets a promise, where the promise has one answer
pub gives_one : {A : Type 0} {P : A → Type 0} {r : A} → ((s s' : A) → P s → P s' → s ≡ s') → P r
    → P gives r
gives_one {r = r} one is = record { meets = is; only = λ s a. one s r a is }

-- where a promise is kept
pub keeps_gives : {A : Type 0} {f : ℕ} {P : A → Type 0} {number : A → ℕ} {zeros : ℕ → A} {r : A}
    → Keeps f P number zeros → P r → P gives r
keeps_gives k = let one = k.one.1.only in gives_one (λ s s' p q. one s p ∙ sym (one s' q))

-- where what is answered is one value
pub known_gives : {A : Type 0} {f : ℕ} {v : A} {zeros : ℕ → A} {r : A} → settled f v zeros ≡ r
    → Known f v zeros gives r
known_gives {f = f} {v = v} {zeros = zeros} e =
    let x = known_some f v zeros in
    record {
      meets = subst (Known f v zeros) (known_settled f v zeros x.0 x.1 ∙ e) x.1;
      only = λ s k. known_settled f v zeros s k ∙ e;
    }

-- beside the only answer no other, told by one of its numbers
pub no_other : {A : Type 0} {P : A → Type 0} {r s : A} (number : A → ℕ) → P gives r
    → eqb (number s) (number r) ≡ false → P s → ⊥
no_other number g differ a = eqb-false _ _ differ (ap number (g.only _ a))

-- ---- contracts

-- a function without `requires` that ensures just the promise
pub says_itself : {P : Type 0} → Says (Unit {0}) P P
says_itself = record { nothing = tt; just = (λ p. p, λ p. p) }
