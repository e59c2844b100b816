-- The promises of the small form hold: a theorem for each record of specs/Promises.antt. Assumes nothing.
use mathlib.Core.Path.{◌≡◌, ◌∙◌, refl, sym, ap, subst}
use mathlib.Core.Bool.{Bool, true, false, not, ◌&&◌, true≢false}
use mathlib.Core.Logic.{◌↔◌, ⊎_elim}
use mathlib.Core.List.{List, [], ◌∷◌, ◌++◌}
use Prim.Native.Nat.{ℕ, zero, suc, ◌+◌, ◌-◌, ◌*◌, ◌/◌, ◌%◌, ◌^◌, ◌≤◌, ◌<◌}
use native.Mathlib.Omega.{arith}
use lib.Dec.{T, ltb, leb, eqb}
use lib.Pow.{shr-shr}
use borrow.Author.Tests.{ltb-true, leb-true, eqb-false, not-true, le-ltb, eq-eqb, ne_eqb}
use Rattle.frame.specs.Answers.{Answer}
use Rattle.frame.specs.Promises.{Keeps}
use Rattle.frame.specs.Refusals.{Row, ◌when◌, ◌either◌, first_of}
use Rattle.frame.proofs.Refusing.{here, next, in_order, in_turn, numbers, ◌or◌, refuse_first, refuse_after, given_so}
use Rattle.frame.proofs.Refusing.{not_given, either_none, none_after, refusal_append}
use Rattle.frame.proofs.Answering.{answers_or_not, answering, answer_one, answer_some, keeps, keeps_is, keeps_known}
use Rattle.words.specs.Forms.{a_in, degree_in, beyond_in, low_in, carried, first_digits, path, word_in}
use Rattle.words.specs.Words.{large, degree_of}
use Rattle.words.specs.Refusals.{field_rows, code_low_rows}
use Rattle.words.specs.Family.{code_of, code_answer}
use Rattle.words.specs.declared.TriangleCode.{TriangleCode}
use Rattle.words.specs.Family.{CodeAnswer}
use Rattle.filing.specs.Refusals.{direction_rows}
use Rattle.filing.specs.declared.Direction.{Direction}
use Rattle.corners.specs.Answers.{Crossed, CrossAnswer}
use Rattle.corners.specs.Answers.{StepAnswer}
use Rattle.corners.proofs.OneAnswer.{cross_one, cross_some}
use Rattle.directions.specs.Answers.{Filed, FileAnswer}
use Rattle.directions.proofs.OneFiling.{file_one, file_some}
use Rattle.harbour.specs.Small.{small, small_code, large_of, small_of}
use Rattle.harbour.specs.Refusals.{harbour_order, depth_rows, small_rows, last_bit_rows, write_rows, check_small}
use Rattle.harbour.specs.Refusals.{refuse_write}
use Rattle.harbour.specs.Refusals.{refuse_small_cross, refuse_small_file}
use Rattle.harbour.specs.Answers.{small_answer, small_step, small_of_step, small_of_code}
use Rattle.harbour.specs.Answers.{SmallFormOf, ReadAnswer, SmallCrossAnswer}
use Rattle.harbour.specs.Answers.{SmallFileAnswer}
use Rattle.harbour.specs.Promises.{OneAnswer, BetweenForms, Refusing, SmallCalls}
use Rattle.harbour.specs.declared.SmallCode.{SmallCode}
use Rattle.harbour.specs.Answers.{SmallAnswer}
use Rattle.harbour.specs.Answers.{SmallStepAnswer}
use Rattle.harbour.proofs.SmallWords.{deep, write_passes, low_degree, large_code, same_side_lem, same_digits_lem}
use Rattle.harbour.proofs.SmallWords.{there_back}
use Rattle.harbour.proofs.SmallWords.{write_again, small_code_lem, back_there, small_fits, same_order_lem}
use Rattle.harbour.proofs.LargeCalls.{cross_code, cross_same, neighbour_small, file_degree, file_same}
use Rattle.harbour.proofs.LargeCalls.{filed_small}

-- ---- one answer

-- where the large call answers one thing, its small form is one
pub formed_one : {A B : Type 0} {Large : A → Type 0} {formed : A → B} {r r' : B}
    → ((a b : A) → Large a → Large b → a ≡ b)
    → SmallFormOf Large formed r → SmallFormOf Large formed r' → r ≡ r'
formed_one {formed = formed} one x y =
    x.is ∙ ap formed (one x.answer y.answer x.large y.large) ∙ sym y.is

pub crossed_one : (s : SmallCode) (k : ℕ) → refuse_small_cross s k ≡ 0 → (a b : StepAnswer) → Crossed (large_of s) k a
    → Crossed (large_of s) k b → a ≡ b
crossed_one s k z a b x y =
    let e = cross_same s k (cross_code s k z) ∙ z in
    cross_one (large_of s) k a b (answering e x) (answering e y)

pub filed_one : (n : ℕ) (d : Direction) → refuse_small_file n d ≡ 0 → (a b : CodeAnswer) → Filed n d a → Filed n d b
    → a ≡ b
filed_one n d z a b x y =
    let e = file_same n d (file_degree n d z) ∙ z in file_one n d a b (answering e x) (answering e y)

-- a call that answers the small form of what the large one does, where that is one and has the number 0
module _ {A B : Type 0} {f : ℕ} {Large : A → Type 0} {formed : A → B} {zeros : ℕ → B} (number : B → ℕ) where
  formed_keeps : number (zeros f) ≡ f → ((a : A) → Large a → number (formed a) ≡ 0) → (f ≡ 0 → (a : A) × Large a)
      → (f ≡ 0 → (a b : A) → Large a → Large b → a ≡ b)
      → Keeps f (Answer f (SmallFormOf Large formed) zeros) number zeros
  formed_keeps z answered some one =
      keeps number z (λ r g. ap number g.is ∙ answered g.answer g.large)
      (answer_some f (SmallFormOf Large formed) zeros (λ e.
      let a = some e in (formed a.0, record { answer = a.0; large = a.1; is = refl })))
      (λ r r' a b. answer_one (λ e x y. formed_one (one e) x y) a b)

pub one_answer : OneAnswer
one_answer = record {
  check = λ s. keeps_is (check_small s) refl (λ n. refl);
  read = λ s. keeps_known (check_small s) _ _ (λ r. r.refusal) refl refl;
  write = λ t. keeps_known (refuse_write t) _ _ (λ r. r.refusal) refl refl;
  cross = λ s k.
      formed_keeps (λ r. r.refusal) refl (λ a g. g.number)
      (λ z. let a = cross_some (large_of s) k in (a.0, a.1.answered (cross_same s k (cross_code s k z) ∙ z)))
      (crossed_one s k);
  file = λ n d.
      formed_keeps (λ r. r.refusal) refl (λ a g. g.number)
      (λ z. let a = file_some n d in (a.0, a.1.answered (file_same n d (file_degree n d z) ∙ z)))
      (filed_one n d);
}

-- ---- between the forms

pub between_forms : BetweenForms
between_forms = record {
  read_write = λ s h. answering (write_again s h) (ap (small_answer 0) (sym (there_back s h)));
  write_read = λ t h. answering (small_code_lem t h) (ap (code_answer 0) (sym (back_there t h)));
  is_code = λ s h. (large_code s h, low_degree s h);
  is_small = λ t c h. small_code_lem t ((write_passes t).1 (c, h));
  same_side = same_side_lem;
  same_digits = same_digits_lem;
  fits = small_fits;
  same_order = same_order_lem;
}

-- ---- crossing and filing

zero_small : small_of (code_of 0) ≡ small_code 0
unfolding carried first_digits path word_in
zero_small = refl

-- where both calls refuse the same, f, the small answer is the small form of the large one, refused or not
formed_answers : {A B : Type 0} {f g : ℕ} {Large : A → Type 0} {formed : A → B} {zeros : ℕ → A} {small : ℕ → B}
    {r : B} {a : A} → g ≡ f → (f ≡ 0 → (a b : A) → Large a → Large b → a ≡ b) → formed (zeros f) ≡ small f
    → Answer f (SmallFormOf Large formed) small r → Answer g Large zeros a → r ≡ formed a
formed_answers {f = f} {formed = formed} {zeros = zeros} e one same x y =
    ⊎_elim
    (λ z. let h = x.answered z in h.is ∙ ap formed (one z h.answer _ h.large (y.answered (e ∙ z))))
    (λ n. x.refused n ∙ sym same ∙ ap formed (sym (y.refused (λ z. n (sym e ∙ z)) ∙ ap zeros e)))
    (answers_or_not f)

-- what has the small form of a code reads as the code
reads_as : {s : SmallCode} {t : TriangleCode} → s ≡ small_of t → refuse_write t ≡ 0 → ReadAnswer s (code_answer 0 t)
reads_as {t = t} e p = subst (λ (c : SmallCode). ReadAnswer c (code_answer 0 t)) (sym e) (between_forms.write_read t p)

module _ (s : SmallCode) (k : ℕ) (r : SmallStepAnswer) (a : StepAnswer) (x : SmallCrossAnswer s k r)
    (y : CrossAnswer (large_of s) k a) where
  crosses : check_small s ≡ 0 → r ≡ small_of_step a
  crosses h =
      formed_answers (cross_same s k h) (crossed_one s k)
      (λ i. small_step (refuse_small_cross s k) (zero_small i) 0 0 0) x y

  crossed : refuse_small_cross s k ≡ 0 → ReadAnswer r.code (code_answer 0 a.code)
  crossed z =
      let h = cross_code s k z in
      reads_as (ap (λ (q : SmallStepAnswer). q.code) (crosses h))
      (neighbour_small s k h a (y.answered (cross_same s k h ∙ z)))

module _ (n : ℕ) (d : Direction) (r : SmallAnswer) (a : CodeAnswer) (x : SmallFileAnswer n d r)
    (y : FileAnswer n d a) where
  files : n ≤ 11 → r ≡ small_of_code a
  files h =
      formed_answers (file_same n d h) (filed_one n d) (λ i. small_answer (refuse_small_file n d) (zero_small i)) x y

  filed : refuse_small_file n d ≡ 0 → ReadAnswer r.code (code_answer 0 a.code)
  filed z =
      let h = file_degree n d z in
      reads_as (ap (λ (q : SmallAnswer). q.code) (files h)) (filed_small n d h a (y.answered (file_same n d h ∙ z)))

pub small_calls : SmallCalls
small_calls = record {
  crosses = λ s k r a h x y. crosses s k r a x y h;
  files = λ n d r a h x y. files n d r a x y h;
  crossed = λ s k r a z x y. crossed s k r a x y z;
  filed = λ n d r a z x y. filed n d r a x y z;
}

-- ---- 30 and 31

-- the row of 30, alone or before others that have not that number
was_deep : (n : ℕ) → (ltb 11 n && leb n 24) either false ≡ true → (12 ≤ n) × (n ≤ 24)
was_deep n e = go (ltb 11 n) (leb n 24) refl refl (sym (either_none _) ∙ e)
  where
    go : (a b : Bool) → ltb 11 n ≡ a → leb n 24 ≡ b → a && b ≡ true → (12 ≤ n) × (n ≤ 24)
    go true true p q f = (ltb-true 11 n p, leb-true n 24 q)
    go true false p q f = absurd (true≢false (sym f))
    go false b p q f = absurd (true≢false (sym f))

deep_so : (n : ℕ) (rest : List Row) → T (in_order harbour_order (numbers (depth_rows n ++ rest))) → 12 ≤ n → n ≤ 24
    → first_of harbour_order (depth_rows n ++ rest) ≡ 30
deep_so n rest t h l =
    sym (refuse_first harbour_order (depth_rows n ++ rest) t (next (le-ltb 24 n l) (here (deep n h l))))

deep_field_lem : (s : SmallCode) → (check_small s ≡ 30) ↔ (12 ≤ degree_in small s.0)
unfolding check_small
deep_field_lem s = let n = degree_in small s.0 in (
  λ e. (was_deep n (given_so harbour_order (small_rows s) 29 e)).0,
  λ h. deep_so n (field_rows small s.0 ++ last_bit_rows s) tt h (omega arith),
)

deep_code_lem : (t : TriangleCode) → (refuse_write t ≡ 30) ↔ ((12 ≤ degree_of t.0) × (degree_of t.0 ≤ 24))
unfolding refuse_write
deep_code_lem t = let n = degree_of t.0 in (
  λ e. was_deep n (given_so harbour_order (write_rows t) 29 e),
  λ h. deep_so n (field_rows large t.0 ++ code_low_rows t) tt h.0 h.1,
)

deep_argument_lem : (n : ℕ) (d : Direction) → (refuse_small_file n d ≡ 30) ↔ ((12 ≤ n) × (n ≤ 24))
unfolding refuse_small_file
deep_argument_lem n d = (
  λ e. was_deep n (given_so harbour_order (depth_rows n ++ direction_rows d) 29 e),
  λ h. deep_so n (direction_rows d) tt h.0 h.1,
)

-- no degree of four bits is above 24
never : (s : SmallCode) → (check_small s ≡ 1 → ⊥) × (check_small s ≡ 4 → ⊥)
unfolding check_small
never s = (
  λ e.
      let n = degree_in small s.0 in
      let l : 24 < n = ltb-true 24 n (sym (either_none _) ∙ given_so harbour_order (small_rows s) 0 e) in
      omega (arith, l),
  not_given harbour_order (small_rows s) 3 tt,
)

-- the rows before that of 31, by the fields that they look at
abbrev before : (n a b : ℕ) → List Row
before n a b = depth_rows n ++ (2 when (eqb a 0 either ltb 5 a) ∷ 3 when not (eqb b 0) ∷ [])

abbrev before_last : ℕ → List Row
before_last w = before (degree_in small w) (a_in small w) (beyond_in small w (degree_in small w))

module _ (w : ℕ) (odd : w % 2 ≡ 1) where
  half : (w - 1) / 2 ≡ w / 2
  half = omega (arith, odd)

  above : (k : ℕ) → (w - 1) / 2 ^ (1 + k) ≡ w / 2 ^ (1 + k)
  above k = sym (shr-shr (w - 1) 1 k) ∙ ap (λ (x : ℕ). x / 2 ^ k) half ∙ shr-shr w 1 k

  -- without its last bit the word has the same other fields
  same_before : before_last (w - 1) ≡ before_last w
  same_before =
      let d : degree_in small (w - 1) ≡ degree_in small w = ap (λ (x : ℕ). x % 2 ^ 4) (above 22) in
      λ i. before (d i) (above 28 i) (half i % 2 ^ (22 - 2 * d i))

last_bit_lem : (s : SmallCode) → (check_small s ≡ 31) ↔ ((s.0 % 2 ≡ 1) × (check_small (small_code (s.0 - 1)) ≡ 0))
unfolding check_small
last_bit_lem s =
    let w = s.0 in
    let H = harbour_order in
    let last = last_bit_rows s in
    let last' = last_bit_rows (small_code (w - 1)) in (
      λ e.
          let so = sym (either_none _) ∙ given_so H (small_rows s) 30 e in
          let odd : w % 2 ≡ 1 = let n = eqb-false (low_in small w) 0 (not-true _ so) in omega (arith, n) in
          let none : first_of H (before_last w) ≡ 0 =
          first_none (first_of H (before_last w)) (in_turn last) (not_given H (before_last w) 30 tt)
          (sym (refusal_append H H (before_last w) last tt tt) ∙ e) in
          let none' = ap (first_of H) (same_before w odd) ∙ none in
          let even : not (eqb (low_in small (w - 1)) 0) ≡ false =
          ap not (eq-eqb (low_in small (w - 1)) 0 (omega (arith, odd))) in
          (odd, (none_after H H (before_last (w - 1)) last' tt tt).1 (none', (even, tt))),
      λ p.
          let none = ((none_after H H (before_last (w - 1)) last' tt tt).0 p.1).0 in
          let none' = sym (ap (first_of H) (same_before w p.0)) ∙ none in
          let so : not (eqb (low_in small w) 0) ≡ true =
          ap not (ne_eqb (low_in small w) 0 (λ z. omega (arith, z, p.0))) in
          sym (refuse_after H H (before_last w) last tt tt none' (here so)),
    )
  where
    -- 31 came from the later rows
    first_none : (f m : ℕ) → (f ≡ 31 → ⊥) → f or m ≡ 31 → f ≡ 0
    first_none zero m n e = refl
    first_none (suc f) m n e = absurd (n e)

pub refusing : Refusing
refusing = record {
  deep_field = deep_field_lem;
  deep_code = deep_code_lem;
  deep_argument = deep_argument_lem;
  never = never;
  last_bit = last_bit_lem;
}
