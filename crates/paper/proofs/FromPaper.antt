-- A list of the paper's, read: what is refused, and what is answered where nothing is. First what holds of any list,
-- however many places come before its digits; then a domain's code. Assumes nothing.
use mathlib.Core.Path.{◌≡◌, ◌∙◌, refl, sym, ap, subst}
use mathlib.Core.Logic.{◌↔◌}
use mathlib.Core.Bool.{Bool, true, false, ◌&&◌, and_assoc, and-false, not}
use mathlib.Core.List.{List, [], ◌∷◌, reverse}
use Prim.Native.Nat.{ℕ, ◌+◌, ◌-◌, ◌*◌, ◌^◌, ◌≤◌, ◌<◌}
use native.Mathlib.Omega.{arith}
use lib.Dec.{leb, leb-suc-suc, ltb}
use lib.ListN.{length, get_or, take, drop, length-drop}
use lib.Seq.{drop-cons, take_all}
use borrow.Author.Tests.{le-leb, le-ltb, leb-true, lt-ltb, ltb-false, not-false}
use Rattle.frame.specs.Answers.{Answer}
use Rattle.frame.specs.Refusals.{◌when◌, first_of}
use Rattle.frame.proofs.Answering.{answering, refused_as}
use Rattle.frame.proofs.Refusing.{here, next, none_so, refuse_first, so_unless}
use Rattle.words.specs.Words.{degree_of, path, side, word_of}
use Rattle.words.specs.Family.{code_answer, code_of}
use Rattle.words.specs.declared.TriangleCode.{TriangleCode}
use Rattle.words.proofs.Digits.{none, path_lt}
use Rattle.net.proofs.Canonical.{and_true, not_so}
use Rattle.notation.specs.Domains.{are_digits, is_a, is_bit, is_domain}
use Rattle.notation.specs.Same.{SameDomain}
use Rattle.notation.specs.Means.Reading.{taken}
use Rattle.std.specs.Prelude.{None, Some}
use Rattle.notation.proofs.Domains.{Read, reverse_digits, ours, ours_same}
use Rattle.notation.proofs.Reading.{reverse_long, taken_no, taken_path}
use Rattle.paper.specs.Answers.{FromDomainAnswer}
use Rattle.paper.specs.Refusals.{paper_order, refuse_from_domain}

-- ---- the digits after the first h places

-- what the code hands on of a list
abbrev pub rest : (h : ℕ) → List ℕ → List ℕ
rest h xs = take (length xs - h) (drop h xs)

pub rest_drop : (h : ℕ) (xs : List ℕ) → rest h xs ≡ drop h xs
rest_drop h xs = take_all (length xs - h) (drop h xs) (omega (arith, length-drop h xs))

pub rest_long : (h : ℕ) (xs : List ℕ) → length (rest h xs) ≡ length xs - h
rest_long h xs = ap length (rest_drop h xs) ∙ length-drop h xs

-- 24 at most can be read
pub read_room : (h : ℕ) (xs : List ℕ) → length xs ≤ h + 24 → length (rest h xs) ≤ 24
read_room h xs l = omega (arith, rest_long h xs)

path_or_wrong : {v : ℕ} → Some v ≡ None → ⊥
path_or_wrong e = let z : ◌≡◌ {A = ℕ} 0 1 = cc in absurd (omega arith)

-- what was read tells whether all are digits, and their path
module _ (rs : List ℕ) where
  read_path : are_digits rs ≡ true → taken 0 rs ≡ Some (path (reverse rs))
  unfolding path
  read_path h = taken_path rs [] 0 refl h

  pub digits_wrong : None ≡ taken 0 rs → are_digits rs ≡ false
  digits_wrong e = not_so (are_digits rs) (λ h. path_or_wrong (sym (e ∙ read_path h)))

  module _ {v : ℕ} (e : Some v ≡ taken 0 rs) where
    pub digits_right : are_digits rs ≡ true
    digits_right = so_unless (are_digits rs) (λ h. path_or_wrong (e ∙ taken_no rs 0 h))

    pub path_is : v ≡ path (reverse rs)
    path_is = let f : Some v ≡ Some (path (reverse rs)) = e ∙ read_path digits_right in cc

    pub path_small : {n : ℕ} → length rs ≡ n → v < 2 ^ (2 * n)
    path_small {n} l =
        let m : length rs + 0 ≡ n = omega arith in
        subst (λ (n : ℕ). v < 2 ^ (2 * n)) m (rw path_is (path_lt (reverse_digits rs digits_right none)))

-- ---- refusals

-- f is the refusal of a list with so many places: more than `places`, or not as the paper's text allows
pub record PaperRefusal (places long : ℕ) (allowed : Bool) (f : ℕ) : Type 0 where
  pub deep : places < long → 1 ≡ f
  pub wrong : long ≤ places → allowed ≡ false → 33 ≡ f
  pub passes : (f ≡ 0) ↔ ((long ≤ places) × (allowed ≡ true))

pub paper_refusal : (places long : ℕ) (allowed : Bool)
    → PaperRefusal places long allowed (first_of paper_order (1 when ltb places long ∷ 33 when not allowed ∷ []))
paper_refusal places long allowed =
    let rows = 1 when ltb places long ∷ 33 when not allowed ∷ [] in
    record {
      deep = λ l. refuse_first paper_order rows tt (here (lt-ltb places long l));
      wrong = λ l e. refuse_first paper_order rows tt (next (le-ltb places long l) (here (ap not e)));
      passes = (
        λ z. let n = (none_so paper_order rows tt).0 z in (ltb-false places long n.0, not-false allowed n.1.0),
        λ p. (none_so paper_order rows tt).1 (le-ltb places long p.0, (ap not p.1, tt)),
      );
    }

-- what is returned with it
module _ {A : Type 0} {Good : A → Type 0} {zeros : ℕ → A} {places long : ℕ} {allowed : Bool} {f : ℕ}
    (p : PaperRefusal places long allowed f) {r : A} where
  pub refused_deep : places < long → r ≡ zeros 1 → Answer f Good zeros r
  refused_deep l e = refused_as (e ∙ ap zeros (p.deep l)) (λ z. omega (arith, p.deep l, z))

  pub refused_wrong : long ≤ places → allowed ≡ false → r ≡ zeros 33 → Answer f Good zeros r
  refused_wrong l h e = refused_as (e ∙ ap zeros (p.wrong l h)) (λ z. omega (arith, p.wrong l h, z))

pub domain_refusal : (xs : List ℕ) → PaperRefusal 27 (length xs) (is_domain xs) (refuse_from_domain xs)
unfolding refuse_from_domain
domain_refusal xs = paper_refusal 27 (length xs) (is_domain xs)

-- ---- how a domain's code begins

module _ (a p q : ℕ) where
  pub begun : is_a a && (is_bit p && is_bit q) ≡ true → (1 ≤ a) × (a ≤ 5) × (p ≤ 1) × (q ≤ 1)
  begun e =
      let x = (and_true (is_a a) (is_bit p && is_bit q)).0 e in
      let y = (and_true (leb 1 a) (leb a 5)).0 x.0 in
      let z = (and_true (is_bit p) (is_bit q)).0 x.1 in
      (leb-true 1 a y.0, leb-true a 5 y.1, leb-true p 1 z.0, leb-true q 1 z.1)

  pub begun_none : ((1 ≤ a) × (a ≤ 5) × (p ≤ 1) × (q ≤ 1) → ⊥) → false ≡ is_a a && (is_bit p && is_bit q)
  begun_none n = sym (not_so _ (λ e. n (begun e)))

  pub begun_by : (a ≡ 0 → ⊥) → a ≤ 5 → p ≤ 1 → ltb q 2 ≡ is_a a && (is_bit p && is_bit q)
  begun_by l h k = rw (le-leb 1 a (omega arith), le-leb a 5 h, le-leb p 1 k) (leb-suc-suc q 1)

-- ---- a domain's code

pub few_places : (xs : List ℕ) → length xs < 3 → is_domain xs ≡ false
few_places [] l = refl
few_places (a ∷ []) l = refl
few_places (a ∷ p ∷ []) l = refl
few_places (a ∷ p ∷ q ∷ rs) l = absurd (omega arith)

module _ (xs : List ℕ) (low : 3 ≤ length xs) where
  abbrev a : ℕ
  a = get_or xs 0 0

  abbrev p : ℕ
  p = get_or xs 1 0

  abbrev q : ℕ
  q = get_or xs 2 0

  opened : xs ≡ a ∷ p ∷ q ∷ rest 3 xs
  opened =
      drop-cons xs 0 0 (omega arith)
      ∙ ap (λ (ys : List ℕ). a ∷ ys) (drop-cons xs 1 0 (omega arith))
      ∙ ap (λ (ys : List ℕ). a ∷ p ∷ ys) (drop-cons xs 2 0 (omega arith))
      ∙ ap (λ (ys : List ℕ). a ∷ p ∷ q ∷ ys) (sym (rest_drop 3 xs))

  -- it begins as it should, and digits follow
  domain_by : is_domain xs ≡ (is_a a && (is_bit p && is_bit q)) && are_digits (rest 3 xs)
  domain_by =
      let D = are_digits (rest 3 xs) in
      ap is_domain opened ∙ ap (λ (b : Bool). is_a a && b) (sym (and_assoc (is_bit p) (is_bit q) D))
      ∙ sym (and_assoc (is_a a) (is_bit p && is_bit q) D)

  pub not_begun : is_a a && (is_bit p && is_bit q) ≡ false → is_domain xs ≡ false
  not_begun e = domain_by ∙ ap (λ (b : Bool). b && are_digits (rest 3 xs)) e

  pub not_digits : are_digits (rest 3 xs) ≡ false → is_domain xs ≡ false
  not_digits e = domain_by ∙ ap (λ (b : Bool). (is_a a && (is_bit p && is_bit q)) && b) e
      ∙ and-false (is_a a && (is_bit p && is_bit q))

  -- the word of what was read is the code of the triangle
  pub from_answers : {v w : ℕ} → length xs ≤ 27 → is_a a && (is_bit p && is_bit q) ≡ true
      → Some v ≡ taken 0 (rest 3 xs) → w ≡ word_of (side a p q) (length xs - 3) v
      → FromDomainAnswer xs (code_answer 0 (code_of w))
  from_answers {v} {w} high b e f =
      let rs = rest 3 xs in
      let ok = digits_right rs e in
      let l = begun a p q b in
      let x : Read xs = record {
        a = a;
        p = p;
        q = q;
        rs = rs;
        is = opened;
        a_low = l.0;
        a_high = l.1;
        p_ok = l.2;
        q_ok = l.3;
        rs_ok = ok;
      } in
      let h : is_domain xs ≡ true = domain_by ∙ (λ i. b i && ok i) in
      let n : length xs - 3 ≡ length (reverse rs) = sym (reverse_long rs ∙ rest_long 3 xs) in
      let is : code_of w ≡ ours xs x high = (λ i. code_of ((f ∙ (λ j. word_of (side a p q) (n j) (path_is rs e j))) i)) in
      answering ((domain_refusal xs).passes.1 (high, h)) (record {
        number = refl;
        same = subst (λ (t : TriangleCode). SameDomain (degree_of t.0) xs t) (sym is) (ours_same xs x high h);
      })
