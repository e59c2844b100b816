-- A corner of a degree has at most one name, and two names are equal exactly when the twelve weights are. Assumes nothing.
use mathlib.Core.Path.{◌≡◌, ◌∙◌, sym, ap, subst}
use mathlib.Core.Logic.{◌↔◌}
use Prim.Native.Nat.{ℕ, ◌+◌, ◌-◌, ◌%◌, ◌^◌, ◌≤◌}
use native.Mathlib.Omega.{arith}
use Rattle.words.proofs.Codes.{code_passes}
use Rattle.words.specs.Family.{code_of}
use Rattle.words.specs.Refusals.{IsCode}
use Rattle.words.specs.Words.{corner_number}
use Rattle.words.specs.declared.CornerName.{CornerName}
use Rattle.words.specs.declared.TriangleCode.{TriangleCode}
use Rattle.net.specs.Corners.{name_of, HasCorner, code_inside, corner, named}
use Rattle.net.specs.Division.{Weights}
use Rattle.net.specs.Names.{IsName}
use Rattle.net.specs.Sides.{OneToThree}
use Rattle.net.proofs.Crossing.{corner_one}

-- a code and a corner number make a name
module _ {n : ℕ} {t : TriangleCode} (c : IsCode n t) (i : ℕ) (l : OneToThree i) where
  low : t.0 % 64 ≡ 0
  low = ((code_passes t).0 c.passes).1

  pub made_number : corner_number (t.0 + i) ≡ i
  made_number = omega (arith, low)

  pub made_inside : code_inside (name_of (t.0 + i)) ≡ t
  made_inside =
      let e : t.0 + i - (t.0 + i) % 2 ^ 2 ≡ t.0 = omega (arith, made_number) in
      λ j. code_of (e j)

  pub name_is : (p : Weights) → corner t i ≡ p → ((u : TriangleCode) → IsCode n u → HasCorner u p → t.0 ≤ u.0) → IsName n p (name_of (t.0 + i))
  name_is p e f =
      record {
        code = subst (λ (u : TriangleCode). IsCode n u) (sym made_inside) c;
        number = subst OneToThree (sym made_number) l;
        there = (λ j. corner (made_inside j) (made_number j)) ∙ e;
        least = subst (λ (u : TriangleCode). (v : TriangleCode) → IsCode n v → HasCorner v p → u.0 ≤ v.0) (sym made_inside) f;
      }

-- a name is its code and its number
name_word : (r : CornerName) → r.0 ≡ (code_inside r).0 + corner_number r.0
name_word r = omega arith

-- one name
pub one_name : {n : ℕ} {p : Weights} {r q : CornerName} → IsName n p r → IsName n p q → r ≡ q
one_name {n} {p} {r} {q} x y =
    let a = x.least (code_inside q) y.code (corner_number q.0, y.number, y.there) in
    let b = y.least (code_inside r) x.code (corner_number r.0, x.number, x.there) in
    let e : (code_inside r).0 ≡ (code_inside q).0 = omega (arith, a, b) in
    let f : code_inside r ≡ code_inside q = λ i. code_of (e i) in
    let g : corner (code_inside r) (corner_number q.0) ≡ p = ap (λ (t : TriangleCode). corner t (corner_number q.0)) f ∙ y.there in
    let h : corner_number r.0 ≡ corner_number q.0 = corner_one x.code x.number y.number (x.there ∙ sym g) in
    let w : r.0 ≡ q.0 = name_word r ∙ (λ i. e i + h i) ∙ sym (name_word q) in
    λ i. name_of (w i)

-- "two corners of one degree have equal names exactly when their twelve weights are equal"
pub equal_names : {n : ℕ} {p p' : Weights} {r r' : CornerName} → IsName n p r → IsName n p' r' → (r ≡ r') ↔ (p ≡ p')
equal_names {n} {p} {p'} {r} {r'} x y = (
  λ e. sym x.there ∙ ap named e ∙ y.there,
  λ e. one_name (subst (λ (w : Weights). IsName n w r) e x) y,
)
