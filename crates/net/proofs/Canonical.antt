-- The table's tests, by going through codes of a degree, say what they are meant to: a name passes exactly when it is
-- its corner's. Assumes nothing.
use mathlib.Core.Path.{◌≡◌, ◌∙◌, refl, sym, ap, subst}
use mathlib.Core.Logic.{◌↔◌, ◌⊎◌, inl, inr, ⊎_elim}
use mathlib.Core.Bool.{Bool, true, false, ◌&&◌, true≢false}
use mathlib.Core.List.{[], ◌∷◌}
use Prim.Native.Nat.{ℕ, zero, suc, ◌<◌}
use native.Mathlib.Omega.{arith}
use lib.Dec.{eqb}
use borrow.Author.Tests.{eqb-true, eq-eqb}
use Rattle.frame.specs.Refusals.{◌either◌, order}
use Rattle.frame.proofs.Refusing.{none_after}
use Rattle.words.proofs.CodeCount.{at_place, code_at_lem, place_at, place_below, places_rise}
use Rattle.words.proofs.Codes.{code_degree, code_name, name_code, name_passes}
use Rattle.words.specs.Counting.{code_at, place_of}
use Rattle.words.specs.Refusals.{check_name_fields, name_rows}
use Rattle.words.specs.Words.{degree_of}
use Rattle.words.specs.declared.CornerName.{CornerName}
use Rattle.words.specs.declared.TriangleCode.{TriangleCode}
use Rattle.net.specs.Corners.{HasCorner, code_inside, corner, named}
use Rattle.net.specs.Division.{Weights}
use Rattle.net.specs.Names.{IsName}
use Rattle.net.specs.Refusals.{check_name, has_corner, lesser_has, not_canonical, same_weights, some_below}
use Rattle.net.proofs.Table.{either_way, less, same, three}

-- ---- tests

pub and_true : (a b : Bool) → (a && b ≡ true) ↔ ((a ≡ true) × (b ≡ true))
and_true true b = (λ e. (refl, e), λ p. p.1)
and_true false b = (λ e. absurd (true≢false (sym e)), λ p. p.0)

pub or_true : (a b : Bool) → (a either b ≡ true) ↔ ((a ≡ true) ⊎ (b ≡ true))
or_true true b = (λ e. inl refl, λ p. refl)
or_true false b = (inr, ⊎_elim (λ e. absurd (true≢false (sym e))) (λ e. e))

pub not_so : (b : Bool) → (b ≡ true → ⊥) → b ≡ false
not_so true f = absurd (f refl)
not_so false f = refl

-- a test of the numbers below m
pub some_below_lem : (m : ℕ) (f : ℕ → Bool) → (some_below m f ≡ true) ↔ ((i : ℕ) × (i < m) × (f i ≡ true))
some_below_lem zero f = (λ e. absurd (true≢false (sym e)), λ p. absurd (omega (arith, p.1)))
some_below_lem (suc m) f = go (some_below_lem m f)
  where
    go : (some_below m f ≡ true) ↔ ((i : ℕ) × (i < m) × (f i ≡ true))
        → (some_below (suc m) f ≡ true) ↔ ((i : ℕ) × (i < suc m) × (f i ≡ true))
    go ih =
        let one = or_true (some_below m f) (f m) in (
          λ e. ⊎_elim (λ q. let x = ih.0 q in (x.0, omega (arith, x.1), x.2)) (λ q. (m, omega arith, q)) (one.0 e),
          λ p. ⊎_elim (λ q. one.1 (inr (ap f (sym q) ∙ p.2)))
              (λ q. one.1 (inl (ih.1 (p.0, omega (arith, q, p.1), p.2)))) (either_way (same p.0 m)),
        )

-- equal weights
same_weights_is : (p q : Weights) → (same_weights p q ≡ true) ↔ (p ≡ q)
same_weights_is [] [] = (λ e. refl, λ e. refl)
same_weights_is [] (y ∷ ys) = (
  λ e. absurd (true≢false (sym e)),
  λ e. let z : ◌≡◌ {A = ℕ} 0 1 = cc in absurd (omega arith),
)
same_weights_is (x ∷ xs) [] = (
  λ e. absurd (true≢false (sym e)),
  λ e. let z : ◌≡◌ {A = ℕ} 0 1 = cc in absurd (omega arith),
)
same_weights_is (x ∷ xs) (y ∷ ys) = (
  λ e.
      let p = (and_true (eqb x y) (same_weights xs ys)).0 e in
      let a = eqb-true x y p.0 in
      let b = (same_weights_is xs ys).0 p.1 in
      cc,
  λ e.
      let a : x ≡ y = cc in
      let b : xs ≡ ys = cc in
      (and_true (eqb x y) (same_weights xs ys)).1 (eq-eqb x y a, (same_weights_is xs ys).1 b),
)

pub has_corner_lem : (t : TriangleCode) (p : Weights) → (has_corner t p ≡ true) ↔ HasCorner t p
has_corner_lem t p = (
  λ e. ⊎_elim (λ a. (1, omega arith, (same_weights_is _ p).0 a))
      (λ q. ⊎_elim (λ a. (2, omega arith, (same_weights_is _ p).0 a)) (λ a. (3, omega arith, (same_weights_is _ p).0 a))
      ((or_true (same_weights (corner t 2) p) (same_weights (corner t 3) p)).0 q))
      ((or_true (same_weights (corner t 1) p) (same_weights (corner t 2) p either same_weights (corner t 3) p)).0 e),
  λ h. three (λ i. corner t i ≡ p → has_corner t p ≡ true)
      (λ e. (or_true _ _).1 (inl ((same_weights_is _ p).1 e)))
      (λ e. (or_true (same_weights (corner t 1) p) _).1 (inr ((or_true _ _).1 (inl ((same_weights_is _ p).1 e)))))
      (λ e. (or_true (same_weights (corner t 1) p) _).1
      (inr ((or_true (same_weights (corner t 2) p) _).1 (inr ((same_weights_is _ p).1 e))))) h.0 h.1 h.2,
)

-- ---- canonical names

-- no lesser code has the corner exactly when the name is the corner's
pub lesser_none : (r : CornerName) → check_name_fields r ≡ 0
    → (lesser_has r ≡ false) ↔ IsName (degree_of r.0) (named r) r
unfolding lesser_has
lesser_none r z =
    let n = degree_of r.0 in
    let u = code_inside r in
    let c = name_code r z in
    let p = (name_passes r).0 z in
    let has : ℕ → Bool = λ i. has_corner (code_at n i) (named r) in
    let some = some_below_lem (place_of u) has in (
      λ e. record {
        code = c;
        number = (p.2, p.3);
        there = refl;
        least = λ t ct ht. ⊎_elim
            (λ l.
            let q : has (place_of t) ≡ true =
            ap (λ (x : TriangleCode). has_corner x (named r)) (at_place ct) ∙ (has_corner_lem t (named r)).1 ht in
            absurd (true≢false (sym (some.1 (place_of t, (places_rise ct c).0 l, q)) ∙ e)))
            (λ h. omega (arith, h)) (either_way (less t.0 u.0));
      },
      λ x. not_so (lesser_has r) (λ e.
          let y = some.0 e in
          let ci = code_at_lem n y.0 (code_degree c) (omega (arith, y.1, place_below c)) in
          let h = x.least (code_at n y.0) ci ((has_corner_lem (code_at n y.0) (named r)).0 y.2) in
          let q = (places_rise ci c).1 (rw (place_at n y.0 (code_degree c)) y.1) in
          omega (arith, h, q)),
    )

-- a word passes as a corner name exactly when it is the name of the corner that it names
pub name_means : (r : CornerName)
    → (check_name r ≡ 0) ↔ ((check_name_fields r ≡ 0) × IsName (degree_of r.0) (named r) r)
unfolding check_name check_name_fields
name_means r = (
  λ e. let n = (none_after order order (name_rows r) _ tt tt).0 e in
      (n.0, (lesser_none r n.0).0 ((by_zero n.0).0 n.1.0)),
  λ p. (none_after order order (name_rows r) _ tt tt).1 (p.0, ((by_zero p.0).1 ((lesser_none r p.0).1 p.1), tt)),
)
  where
    by_zero : {f : ℕ} → f ≡ 0 → (not_canonical f r ≡ false) ↔ (lesser_has r ≡ false)
    by_zero {f} z = subst (λ (k : ℕ). (not_canonical k r ≡ false) ↔ (lesser_has r ≡ false)) (sym z) (λ e. e, λ e. e)

-- the name of a corner passes, and has the corner's degree
pub name_passes_all : {n : ℕ} {p : Weights} {r : CornerName} → IsName n p r → (check_name r ≡ 0) × (degree_of r.0 ≡ n)
name_passes_all {n} {p} {r} x =
    let f = code_name r x.code.passes x.number.0 x.number.1 in
    let d : degree_of r.0 ≡ n = f.1 ∙ x.code.degree_is in
    let own : IsName n (named r) r = record {
      code = x.code;
      number = x.number;
      there = refl;
      least = λ t c h. x.least t c (h.0, h.1, h.2 ∙ x.there);
    } in
    ((name_means r).1 (f.0, subst (λ (m : ℕ). IsName m (named r) r) (sym d) own), d)
