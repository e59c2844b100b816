-- The paper's domains are our triangles: (16) to (19) are our sides, (24) to (27) our division. So each domain's code
-- has one of our codes, and the other way round. Assumes nothing.
use mathlib.Core.Path.{◌≡◌, ◌∙◌, refl, sym, ap, subst}
use mathlib.Core.Bool.{true, ◌&&◌, true≢false}
use mathlib.Core.List.{List, [], ◌∷◌, reverse, reverse_aux}
use Prim.Native.Nat.{ℕ, zero, suc, ◌+◌, ◌/◌, ◌%◌, ◌≤◌}
use native.Mathlib.Omega.{arith}
use lib.Dec.{leb}
use lib.ListN.{length}
use borrow.Author.Tests.{le-leb, leb-true}
use Rattle.words.specs.Words.{side, degree_of, path, word_of}
use Rattle.words.specs.Family.{code_of}
use Rattle.words.specs.Refusals.{IsCode}
use Rattle.words.specs.declared.TriangleCode.{TriangleCode}
use Rattle.words.proofs.Codes.{code_degree}
use Rattle.words.proofs.Digits.{AreDigits, none, more}
use Rattle.net.specs.Sides.{IsSide, corner_vertex, side_corner}
use Rattle.net.specs.Division.{Triangle, triangle, divide, triangle_at, pick_corner, corner_of, unit_at}
use Rattle.net.specs.Corners.{HasCorner, corner, triangle_of}
use Rattle.net.proofs.Canonical.{and_true}
use Rattle.net.proofs.CodePlaces.{code_for, for_code, for_corner}
use Rattle.net.proofs.Crossing.{codes_differ_lem}
use Rattle.net.proofs.Neighbours.{same_corners}
use Rattle.net.proofs.Paths.{are_digits_lem}
use Rattle.net.proofs.Table.{three}
use Rattle.notation.specs.Domains.{is_a, is_bit, are_digits, is_domain, first_domain, parted, parted_by, domain}
use Rattle.notation.specs.Same.{SameDomain}
use Rattle.notation.proofs.Reading.{reverse_long}

-- ---- the formulae

-- (24) to (27) are document 01's division
parted_is : (r : ℕ) (d : Triangle) → parted r d ≡ divide r d
parted_is zero d = refl
parted_is (suc zero) d = refl
parted_is (suc (suc zero)) d = refl
parted_is (suc (suc (suc r))) d = refl

-- (16) to (19) are document 01's sides
at_corners : (a p q : ℕ) → first_domain a p q
    ≡ triangle (unit_at (side_corner p q a 1)) (unit_at (side_corner p q a 2)) (unit_at (side_corner p q a 3))
at_corners a zero zero = refl
at_corners a zero (suc q) = refl
at_corners a (suc p) zero = refl
at_corners a (suc p) (suc q) = refl

pub first_is : (a p q : ℕ) → p ≤ 1 → q ≤ 1 → first_domain a p q ≡ triangle_at (side a p q) []
unfolding triangle_at corner_vertex
first_is a p q h k =
    let e : p ≡ side a p q / 2 % 2 = omega arith in
    let f : q ≡ side a p q % 2 = omega arith in
    let g : a ≡ side a p q / 4 = omega arith in
    at_corners a p q
    ∙ (λ i. triangle (unit_at (side_corner (e i) (f i) (g i) 1)) (unit_at (side_corner (e i) (f i) (g i) 2))
    (unit_at (side_corner (e i) (f i) (g i) 3)))

-- ---- digits, the first first and the last first

parted_by_lem : (s : ℕ) (rs ds : List ℕ) → parted_by rs (triangle_at s ds) ≡ triangle_at s (reverse_aux rs ds)
unfolding parted_by triangle_at
parted_by_lem s [] ds = refl
parted_by_lem s (r ∷ rs) ds = ap (parted_by rs) (parted_is r (triangle_at s ds)) ∙ parted_by_lem s rs (r ∷ ds)

pub reverse_digits : (rs : List ℕ) {n : ℕ} {ds : List ℕ} → are_digits rs ≡ true → AreDigits n ds
    → AreDigits (length rs + n) (reverse_aux rs ds)
reverse_digits [] {n} {ds} h a = let e : n ≡ 0 + n = omega arith in subst (λ (m : ℕ). AreDigits m ds) e a
reverse_digits (r ∷ rs) {n} {ds} h a =
    let x = (and_true (leb r 3) (are_digits rs)).0 h in
    let e : length rs + suc n ≡ suc (length rs) + n = omega arith in
    subst (λ (m : ℕ). AreDigits m (reverse_aux rs (r ∷ ds))) e (reverse_digits rs x.1 (more (leb-true r 3 x.0) a))

pub reverse_one : (rs ss : List ℕ) {ds es : List ℕ} → length rs ≡ length ss → reverse_aux rs ds ≡ reverse_aux ss es
    → (rs ≡ ss) × (ds ≡ es)
reverse_one [] [] l e = (refl, e)
reverse_one [] (s ∷ ss) l e = absurd (omega arith)
reverse_one (r ∷ rs) [] l e = absurd (omega arith)
reverse_one (r ∷ rs) (s ∷ ss) {ds} {es} l e =
    let x = reverse_one rs ss {ds = r ∷ ds} {es = s ∷ es} (omega arith) e in
    let y : r ∷ ds ≡ s ∷ es = x.1 in
    let f : r ≡ s = cc in
    let g : ds ≡ es = cc in
    ((λ i. f i ∷ x.0 i), g)

pub are_reverse : {n : ℕ} {ds : List ℕ} (es : List ℕ) → AreDigits n ds → are_digits es ≡ true
    → are_digits (reverse_aux ds es) ≡ true
are_reverse es none h = h
are_reverse es (more {d = d} l a) h = are_reverse (d ∷ es) a ((and_true (leb d 3) (are_digits es)).1 (le-leb d 3 l, h))

-- ---- a code of the paper, read

pub record Read (xs : List ℕ) : Type 0 where
  pub a : ℕ
  pub p : ℕ
  pub q : ℕ
  pub rs : List ℕ
  pub is : xs ≡ a ∷ p ∷ q ∷ rs
  pub a_low : 1 ≤ a
  pub a_high : a ≤ 5
  pub p_ok : p ≤ 1
  pub q_ok : q ≤ 1
  pub rs_ok : are_digits rs ≡ true

read : (xs : List ℕ) → is_domain xs ≡ true → Read xs
read [] h = absurd (true≢false (sym h))
read (a ∷ []) h = absurd (true≢false (sym h))
read (a ∷ p ∷ []) h = absurd (true≢false (sym h))
read (a ∷ p ∷ q ∷ rs) h =
    let x = (and_true (is_a a) (is_bit p && (is_bit q && are_digits rs))).0 h in
    let y = (and_true (is_bit p) (is_bit q && are_digits rs)).0 x.1 in
    let z = (and_true (is_bit q) (are_digits rs)).0 y.1 in
    let w = (and_true (leb 1 a) (leb a 5)).0 x.0 in
    record {
      a = a;
      p = p;
      q = q;
      rs = rs;
      is = refl;
      a_low = leb-true 1 a w.0;
      a_high = leb-true a 5 w.1;
      p_ok = leb-true p 1 y.0;
      q_ok = leb-true q 1 z.0;
      rs_ok = z.1;
    }

module _ (xs : List ℕ) (x : Read xs) where
  abbrev s : ℕ
  s = side x.a x.p x.q

  abbrev ds : List ℕ
  ds = reverse x.rs

  size : length xs ≡ 3 + length x.rs
  size = let e : length xs ≡ suc (suc (suc (length x.rs))) = ap length x.is in omega arith

  are : AreDigits (length x.rs + 0) ds
  are = reverse_digits x.rs x.rs_ok none

  a_side : IsSide s
  a_side = (omega (arith, x.a_low, x.p_ok, x.q_ok), omega (arith, x.a_high, x.p_ok, x.q_ok))

  -- its side, and its digits
  domain_is : domain xs ≡ triangle_at s ds
  domain_is =
      ap domain x.is ∙ ap (parted_by x.rs) (first_is x.a x.p x.q x.p_ok x.q_ok)
      ∙ parted_by_lem s x.rs []

  module _ (short : length xs ≤ 27) where
    -- our code
    abbrev pub ours : TriangleCode
    ours = code_for s ds

    long : length ds ≤ 24
    long = omega (arith, reverse_long x.rs, size)

    ours_code : IsCode (length x.rs) ours
    ours_code = subst (λ (m : ℕ). IsCode m ours) (reverse_long x.rs) (for_code s ds a_side (are_digits_lem are) long)

    -- "translated corners have the same weights"
    ours_corners : domain xs ≡ triangle_of ours
    unfolding corner_of
    ours_corners =
        let c = for_corner s ds a_side (are_digits_lem are) long in
        domain_is ∙ (λ i. triangle (sym (c 1) i) (sym (c 2) i) (sym (c 3) i))

    pub ours_same : is_domain xs ≡ true → SameDomain (degree_of ours.0) xs ours
    ours_same h =
        let c = ours_code in
        let d : degree_of ours.0 ≡ length x.rs = c.degree_is in
        record {
          allowed = h;
          degree = size ∙ ap (λ (n : ℕ). 3 + n) (sym d);
          code = subst (λ (m : ℕ). IsCode m ours) (sym d) c;
          corners = ours_corners;
        }

-- ---- one of each for each

-- two codes of a degree with the same corners are one
one_code : {n : ℕ} {t u : TriangleCode} → IsCode n t → IsCode n u → triangle_of t ≡ triangle_of u → t ≡ u
one_code {n} {t} {u} c d e =
    codes_differ_lem n t u c d
    (three (λ i. HasCorner u (corner t i))
    (1, omega arith, sym (ap (λ (x : Triangle). x.a1) e))
    (2, omega arith, sym (ap (λ (x : Triangle). x.a2) e))
    (3, omega arith, sym (ap (λ (x : Triangle). x.a3) e)))

-- to our words: there is a code, and no other
pub domain_some : (xs : List ℕ) → is_domain xs ≡ true → length xs ≤ 27
    → (t : TriangleCode) × SameDomain (degree_of t.0) xs t
domain_some xs h l = let x = read xs h in (ours xs x l, ours_same xs x l h)

pub domain_code : {m n : ℕ} {xs : List ℕ} {t u : TriangleCode} → SameDomain m xs t → SameDomain n xs u → t ≡ u
domain_code {m} {n} {t = t} {u = u} x y =
    let e : m ≡ n = omega (arith, x.degree, y.degree) in
    one_code (subst (λ (m : ℕ). IsCode m t) e x.code) y.code (sym x.corners ∙ y.corners)

-- which has the same side and digits
pub domain_digits : {n a p q : ℕ} {rs : List ℕ} {t : TriangleCode} → SameDomain n (a ∷ p ∷ q ∷ rs) t
    → t ≡ code_of (word_of (side a p q) (length rs) (path (reverse rs)))
unfolding read
domain_digits {n} {a} {p} {q} {rs} x =
    let xs = a ∷ p ∷ q ∷ rs in
    let l : length xs ≤ 27 = omega (arith, x.degree, code_degree x.code) in
    domain_code x (ours_same xs (read xs x.allowed) l x.allowed)
    ∙ ap (λ (m : ℕ). code_of (word_of (side a p q) m (path (reverse rs)))) (reverse_long rs)

-- to the paper: no two lists
pub domain_list : {n : ℕ} {xs ys : List ℕ} {t : TriangleCode} → SameDomain n xs t → SameDomain n ys t → xs ≡ ys
unfolding corner_of
domain_list {n} {xs} {ys} x y =
    let a = read xs x.allowed in
    let b = read ys y.allowed in
    let n : length a.rs ≡ length b.rs = omega (arith, size xs a, size ys b, x.degree, y.degree) in
    let e : triangle_at (s ys b) (ds ys b) ≡ triangle_at (s xs a) (ds xs a) =
    sym (domain_is ys b) ∙ y.corners ∙ sym x.corners ∙ domain_is xs a in
    let z = same_corners (s xs a) (ds xs a) (a_side xs a) (are_digits_lem (are xs a)) (s ys b) (ds ys b) (a_side ys b)
    (are_digits_lem (are ys b)) (reverse_long b.rs ∙ sym n ∙ sym (reverse_long a.rs))
    (λ i l. ap (λ (d : Triangle). pick_corner i d) e) in
    let g = (reverse_one a.rs b.rs n (sym z.1)).0 in
    let ea : a.a ≡ b.a = omega (arith, z.0, a.p_ok, a.q_ok, b.p_ok, b.q_ok) in
    let ep : a.p ≡ b.p = omega (arith, z.0, a.p_ok, a.q_ok, b.p_ok, b.q_ok) in
    let eq : a.q ≡ b.q = omega (arith, z.0, a.p_ok, a.q_ok, b.p_ok, b.q_ok) in
    a.is ∙ (λ i. ea i ∷ ep i ∷ eq i ∷ g i) ∙ sym b.is
