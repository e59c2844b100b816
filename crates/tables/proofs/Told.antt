-- Laws of why a call on a table refuses: only a bad number is 23, what `?` hands on, and what a result tells. Assumes
-- nothing.
use mathlib.Core.Path.{◌≡◌, ◌∙◌, sym, ap}
use mathlib.Core.List.{List}
use Prim.Native.Nat.{ℕ}
use native.Mathlib.Omega.{arith}
use lib.IntN.{ℤ}
use Rattle.std.specs.Prelude.{Result, Ok, Err, IsErr}
use Rattle.std.specs.Result.{IsErrAnd}
use Rattle.frame.specs.Refusals.{number}
use Rattle.frame.proofs.Told.{number_some, number_one}
use Rattle.frame.specs.declared.Refusal.{Refusal}
use Rattle.frame.specs.declared.Refusal.TheVariants.{Degree, Side, BeyondDegree, LowBits, Argument, NoSuchKin}
use Rattle.frame.specs.declared.Refusal.TheVariants.{ZeroDirection, FarDirection, ShortList, NotCanonical, NoCorner}
use Rattle.frame.specs.declared.Refusal.TheVariants.{WrongDegree, ReadingRange, TableLength, NoDesk, Owners, OtherDesk}
use Rattle.frame.specs.declared.Refusal.TheVariants.{NotOwned, SumsLength, SumsDiffer, SmallDegree, LastBit, LongList}
use Rattle.frame.specs.declared.Refusal.TheVariants.{PaperCode}
use Rattle.tables.specs.Answers.{TableAnswer, table_answer, refused}
use Rattle.tables.specs.Answers.{table_number, table_place, told_placed, table_told}
use Rattle.tables.specs.declared.TableRefusal.{TableRefusal}
use Rattle.tables.specs.declared.TableRefusal.TheVariants.{Call, BadNumber}
use Rattle.tables.proofs.Answering.{no_place}

-- ---- numbers

number_not_23 : (f : Refusal) → number f ≡ 23 → ⊥
number_not_23 Degree e = omega (arith, e)
number_not_23 Side e = omega (arith, e)
number_not_23 BeyondDegree e = omega (arith, e)
number_not_23 LowBits e = omega (arith, e)
number_not_23 Argument e = omega (arith, e)
number_not_23 NoSuchKin e = omega (arith, e)
number_not_23 ZeroDirection e = omega (arith, e)
number_not_23 FarDirection e = omega (arith, e)
number_not_23 ShortList e = omega (arith, e)
number_not_23 NotCanonical e = omega (arith, e)
number_not_23 NoCorner e = omega (arith, e)
number_not_23 WrongDegree e = omega (arith, e)
number_not_23 ReadingRange e = omega (arith, e)
number_not_23 TableLength e = omega (arith, e)
number_not_23 NoDesk e = omega (arith, e)
number_not_23 Owners e = omega (arith, e)
number_not_23 OtherDesk e = omega (arith, e)
number_not_23 NotOwned e = omega (arith, e)
number_not_23 SumsLength e = omega (arith, e)
number_not_23 SumsDiffer e = omega (arith, e)
number_not_23 SmallDegree e = omega (arith, e)
number_not_23 LastBit e = omega (arith, e)
number_not_23 LongList e = omega (arith, e)
number_not_23 PaperCode e = omega (arith, e)

pub table_some : (e : TableRefusal) → table_number e ≡ 0 → ⊥
table_some (Call f) z = number_some f z
table_some (BadNumber p) z = omega (arith, z)

-- ---- what `?` hands on

pub handed : {A : Type 0} {e : TableRefusal} (r : Result A TableRefusal) → IsErr r × IsErrAnd r (λ x. x ≡ e)
    → r ≡ Err e
handed (Ok a) h = absurd h.1
handed (Err x) h = ap Err h.1

module _ (list : List ℤ) {f : ℕ} where
  -- what an earlier check answers tells whether it refuses
  pub told_some : (e : TableRefusal) → table_told (Err e) ≡ refused list f → f ≡ 0 → ⊥
  told_some e q z = table_some e (ap (λ (r : TableAnswer). r.refusal) q ∙ z)

  pub told_none : table_answer 0 0 ≡ refused list f → f ≡ 0
  told_none q = sym (ap (λ (r : TableAnswer). r.refusal) q)

  -- a refusal of any call answers no place
  pub told_call : (e : Refusal) → number e ≡ f → table_answer (number e) 0 ≡ refused list f
  told_call e q = no_place list (number e) (number_not_23 e) ∙ ap (refused list) q

  pub call_handed : (e : Refusal) (r : Result (Unit {0}) TableRefusal) → IsErr r × IsErrAnd r (λ x. x ≡ Call e)
      → number e ≡ f → table_told r ≡ refused list f
  call_handed e r h q = ap table_told (handed r h) ∙ told_call e q

  pub table_handed : (e : TableRefusal) (r : Result (Unit {0}) TableRefusal) → IsErr r × IsErrAnd r (λ x. x ≡ e)
      → {g : ℕ} → table_told (Err e) ≡ refused list g → g ≡ f → table_told r ≡ refused list f
  table_handed e r h q k = ap table_told (handed r h) ∙ q ∙ ap (refused list) k

-- ---- two results that are told alike are one

refusal_one : (e g : TableRefusal) → table_number e ≡ table_number g → table_place e ≡ table_place g → e ≡ g
refusal_one (Call e) (Call g) n p = ap Call (number_one e g n)
refusal_one (Call e) (BadNumber q) n p = absurd (number_not_23 e n)
refusal_one (BadNumber q) (Call g) n p = absurd (number_not_23 g (sym n))
refusal_one (BadNumber q) (BadNumber q') n p = ap BadNumber p

module _ {A R : Type 0} (answer : A → R) (zeros : (refusal place : ℕ) → R) (num place : R → ℕ)
    (zero_is : (x : A) → num (answer x) ≡ 0) (number_is : (k p : ℕ) → num (zeros k p) ≡ k)
    (place_is : (k p : ℕ) → place (zeros k p) ≡ p) (same : (x y : A) → answer x ≡ answer y → x ≡ y) where
  pub told_one : (r s : Result A TableRefusal) → told_placed answer zeros r ≡ told_placed answer zeros s → r ≡ s
  told_one (Ok x) (Ok y) q = ap Ok (same x y q)
  told_one (Ok x) (Err g) q = absurd (table_some g (sym (number_is _ _) ∙ sym (ap num q) ∙ zero_is x))
  told_one (Err e) (Ok y) q = absurd (table_some e (sym (number_is _ _) ∙ ap num q ∙ zero_is y))
  told_one (Err e) (Err g) q =
      ap Err (refusal_one e g (sym (number_is _ _) ∙ ap num q ∙ number_is _ _)
      (sym (place_is _ _) ∙ ap place q ∙ place_is _ _))
