-- Laws of refusals as an enum: their numbers are not 0 and differ, what `?` hands on, and a call's result told as the
-- documents' answer. Assumes nothing.
use mathlib.Core.Path.{◌≡◌, ◌∙◌, refl, sym, ap, subst}
use mathlib.Core.Logic.{◌⊎◌, inl, inr, ⊎_elim}
use mathlib.Core.List.{List, [], ◌∷◌}
use Prim.Native.Nat.{ℕ}
use mathlib.Core.Bool.{Bool, true, false, cond, ◌&&◌, true≢false}
use lib.Dec.{T, eqb, eqb→eq}
use native.Mathlib.Omega.{arith}
use Rattle.std.specs.Prelude.{Result, Ok, Err, IsErr, is_err}
use Rattle.std.specs.Result.{IsErrAnd}
use Rattle.frame.specs.Refusals.{Row, given, first_of, number, told, told_number}
use Rattle.frame.specs.Promises.{Keeps}
use Rattle.frame.proofs.Refusing.{both}
use Rattle.frame.specs.Answers.{Answer}
use Rattle.frame.proofs.Answering.{refusing}
use Rattle.frame.specs.declared.Refusal.{Refusal}
use Rattle.frame.specs.declared.Refusal.TheVariants.{Degree, Side, BeyondDegree, LowBits, Argument, NoSuchKin}
use Rattle.frame.specs.declared.Refusal.TheVariants.{ZeroDirection, FarDirection, ShortList, NotCanonical, NoCorner}
use Rattle.frame.specs.declared.Refusal.TheVariants.{WrongDegree, ReadingRange, TableLength, NoDesk, Owners, OtherDesk}
use Rattle.frame.specs.declared.Refusal.TheVariants.{NotOwned, SumsLength, SumsDiffer, SmallDegree, LastBit, LongList}
use Rattle.frame.specs.declared.Refusal.TheVariants.{PaperCode}

-- ---- numbers

pub number_some : (f : Refusal) → number f ≡ 0 → ⊥
number_some Degree e = omega (arith, e)
number_some Side e = omega (arith, e)
number_some BeyondDegree e = omega (arith, e)
number_some LowBits e = omega (arith, e)
number_some Argument e = omega (arith, e)
number_some NoSuchKin e = omega (arith, e)
number_some ZeroDirection e = omega (arith, e)
number_some FarDirection e = omega (arith, e)
number_some ShortList e = omega (arith, e)
number_some NotCanonical e = omega (arith, e)
number_some NoCorner e = omega (arith, e)
number_some WrongDegree e = omega (arith, e)
number_some ReadingRange e = omega (arith, e)
number_some TableLength e = omega (arith, e)
number_some NoDesk e = omega (arith, e)
number_some Owners e = omega (arith, e)
number_some OtherDesk e = omega (arith, e)
number_some NotOwned e = omega (arith, e)
number_some SumsLength e = omega (arith, e)
number_some SumsDiffer e = omega (arith, e)
number_some SmallDegree e = omega (arith, e)
number_some LastBit e = omega (arith, e)
number_some LongList e = omega (arith, e)
number_some PaperCode e = omega (arith, e)

-- the refusal that has a number
abbrev pub refusal_of : ℕ → Refusal
refusal_of n =
    cond (eqb n 1) Degree (
    cond (eqb n 2) Side (
    cond (eqb n 3) BeyondDegree (
    cond (eqb n 4) LowBits (
    cond (eqb n 5) Argument (
    cond (eqb n 6) NoSuchKin (
    cond (eqb n 7) ZeroDirection (
    cond (eqb n 8) FarDirection (
    cond (eqb n 9) ShortList (
    cond (eqb n 10) NotCanonical (
    cond (eqb n 11) NoCorner (
    cond (eqb n 20) WrongDegree (
    cond (eqb n 21) ReadingRange (
    cond (eqb n 22) TableLength (
    cond (eqb n 24) NoDesk (
    cond (eqb n 25) Owners (
    cond (eqb n 26) OtherDesk (
    cond (eqb n 27) NotOwned (
    cond (eqb n 28) SumsLength (
    cond (eqb n 29) SumsDiffer (
    cond (eqb n 30) SmallDegree (
    cond (eqb n 31) LastBit (
    cond (eqb n 32) LongList (
    PaperCode)))))))))))))))))))))))

back : (f : Refusal) → refusal_of (number f) ≡ f
back Degree = refl
back Side = refl
back BeyondDegree = refl
back LowBits = refl
back Argument = refl
back NoSuchKin = refl
back ZeroDirection = refl
back FarDirection = refl
back ShortList = refl
back NotCanonical = refl
back NoCorner = refl
back WrongDegree = refl
back ReadingRange = refl
back TableLength = refl
back NoDesk = refl
back Owners = refl
back OtherDesk = refl
back NotOwned = refl
back SumsLength = refl
back SumsDiffer = refl
back SmallDegree = refl
back LastBit = refl
back LongList = refl
back PaperCode = refl

pub number_one : (f g : Refusal) → number f ≡ number g → f ≡ g
number_one f g e = sym (back f) ∙ ap refusal_of e ∙ back g

-- ---- what `?` hands on, of a refusal or of any other error

pub handed : {A E : Type 0} {f : E} (r : Result A E) → IsErr r × IsErrAnd r (λ e. e ≡ f) → r ≡ Err f
handed (Ok a) h = absurd h.1
handed (Err e) h = ap Err h.1

-- ---- results as the documents' answers

-- whether a result is a refusal
pub some_told : {A : Type 0} (r : Result A Refusal) → is_err r ≡ true → told_number r ≡ 0 → ⊥
some_told (Ok a) e = absurd (true≢false (sym e))
some_told (Err f) e = number_some f

pub none_told : {A : Type 0} (r : Result A Refusal) → is_err r ≡ false → told_number r ≡ 0
none_told (Ok a) e = refl
none_told (Err f) e = absurd (true≢false e)

pub told_handed : {A : Type 0} {f : ℕ} (e : Refusal) (r : Result A Refusal) → IsErr r × IsErrAnd r (λ x. x ≡ e)
    → number e ≡ f → told_number r ≡ f
told_handed e r h g = ap told_number (handed r h) ∙ g

pub handed_on : {A R : Type 0} {f : ℕ} {Good : R → Type 0} {zeros : ℕ → R} (answer : A → R) (e : Refusal)
    (r : Result A Refusal) → IsErr r × IsErrAnd r (λ x. x ≡ e) → number e ≡ f
    → Answer f Good zeros (told answer zeros r)
handed_on answer e r h g = rw (handed r h) (refusing g (number_some e))

-- the same with lent memory, which is left as it came
pub handed_lent : {A R M : Type 0} {f : ℕ} {Good : R × M → Type 0} {zeros : ℕ → R} {old : M} (answer : A → R)
    (e : Refusal) (r : Result A Refusal) → IsErr r × IsErrAnd r (λ x. x ≡ e) → number e ≡ f
    → Answer {A = R × M} f Good (λ k. (zeros k, old)) (told answer zeros r, old)
handed_lent answer e r h g = rw (handed r h) (refusing g (number_some e))

-- ---- demand 1 of the result itself

-- an order whose numbers are all numbers of refusals; `tt` at closed numbers
abbrev pub known : List ℕ → Bool
known [] = true
known (k ∷ ks) = eqb (number (refusal_of k)) k && known ks

abbrev pub IsNumber : ℕ → Type 0
IsNumber f = (f ≡ 0) ⊎ (e : Refusal) × (number e ≡ f)

pub first_number : (os : List ℕ) (rs : List Row) → T (known os) → IsNumber (first_of os rs)
unfolding first_of
first_number [] rs t = inl refl
first_number (o ∷ os) rs t = go (given o rs) (first_number os rs (both _ _ t).1)
  where
    go : (b : Bool) → IsNumber (first_of os rs) → IsNumber (cond b o (first_of os rs))
    go true ih = inr (refusal_of o, eqb→eq _ _ (both _ _ t).0)
    go false ih = ih

module _ {A X : Type 0} (answer : X → A) (zeros : ℕ → A) (num : A → ℕ) (zero_is : (x : X) → num (answer x) ≡ 0)
    (number_is : (k : ℕ) → num (zeros k) ≡ k) (same : (x y : X) → answer x ≡ answer y → x ≡ y) where
  told_num : (r : Result X Refusal) → num (told answer zeros r) ≡ told_number r
  told_num (Ok x) = zero_is x
  told_num (Err e) = number_is (number e)

  -- two results that are told alike are one
  pub told_one : (r s : Result X Refusal) → told answer zeros r ≡ told answer zeros s → r ≡ s
  told_one (Ok x) (Ok y) e = ap Ok (same x y e)
  told_one (Ok x) (Err g) e = absurd (number_some g (sym (number_is (number g)) ∙ sym (ap num e) ∙ zero_is x))
  told_one (Err f) (Ok y) e = absurd (number_some f (sym (number_is (number f)) ∙ ap num e ∙ zero_is y))
  told_one (Err f) (Err g) e =
      ap Err (number_one f g (sym (number_is (number f)) ∙ ap num e ∙ number_is (number g)))

  pub keeps_told : {f : ℕ} {P : A → Type 0} → ((a : A) → P a → f ≡ 0 → (x : X) × (answer x ≡ a)) → IsNumber f
      → Keeps f P num zeros → Keeps f (λ r. P (told answer zeros r)) told_number (λ k. Err (refusal_of k))
  keeps_told {f} {P} made is k = record {
    one = (some.0, record { meets = some.1; only = λ r p. told_one r some.0 (unique p some.1) });
    exactly = λ r p. sym (told_num r) ∙ k.exactly _ p;
    refused = λ r p n. told_one r (Err (refusal_of f))
        (k.refused _ p n ∙ ap zeros (sym (⊎_elim (λ z. absurd (n z)) (λ e. numbered e) is)));
  }
    where
      unique : {a b : A} → P a → P b → a ≡ b
      unique p q = k.one.1.only _ p ∙ sym (k.one.1.only _ q)

      numbered : (e : Refusal) × (number e ≡ f) → number (refusal_of f) ≡ f
      numbered e = ap (λ (m : ℕ). number (refusal_of m)) (sym e.1) ∙ ap number (back e.0) ∙ e.1

      some : (r : Result X Refusal) × P (told answer zeros r)
      some = ⊎_elim
          (λ z. let x = made k.one.0 k.one.1.meets z in (Ok x.0, subst P (sym x.1) k.one.1.meets))
          (λ e. (
            Err e.0,
            subst P (k.refused _ k.one.1.meets (λ z. number_some e.0 (e.1 ∙ z)) ∙ ap zeros (sym e.1))
                k.one.1.meets,
          )) is
