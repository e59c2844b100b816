-- What the calls return, and that it is the one answer that is promised. Assumes nothing.
use mathlib.Core.Path.{◌≡◌, ◌∙◌, refl, ap}
use mathlib.Core.List.{List}
use Prim.Native.Nat.{ℕ}
use borrow.Author.Tests.{ne_eqb}
use lib.IntN.{ℤ}
use Rattle.tables.specs.Tables.{least_bad}
use Rattle.tables.specs.Answers.{table_answer, refused}
use Rattle.tables.specs.Answers.{TableAnswer}

-- ---- the place beside a refusal

module _ (list : List ℤ) where
  pub no_place : (f : ℕ) → (f ≡ 23 → ⊥) → table_answer f 0 ≡ refused list f
  no_place f d = rw (ne_eqb f 23 d) refl

  -- what an earlier check answered
  pub answer_same : {f g : ℕ} {r : TableAnswer} → r ≡ refused list g → g ≡ f → r ≡ refused list f
  answer_same e q = e ∙ ap (refused list) q

  pub answer_bad : {f p : ℕ} → 23 ≡ f → p ≡ least_bad list → table_answer 23 p ≡ refused list f
  answer_bad q e = ap (table_answer 23) e ∙ ap (refused list) q
