-- The least over six places round a corner is the corner's name. Assumes nothing.
use mathlib.Core.Path.{◌≡◌, ◌∙◌, refl, sym, ap, subst}
use mathlib.Core.List.{List}
use mathlib.Core.Logic.{◌⊎◌, ⊎_elim}
use Prim.Native.Nat.{ℕ, zero, suc, ◌+◌, ◌≤◌, ◌<◌, min}
use native.Mathlib.Omega.{arith}
use lib.ListN.{length}
use Rattle.words.proofs.Codes.{code_passes, code_side}
use Rattle.words.specs.Refusals.{IsCode}
use Rattle.words.specs.Words.{side_of}
use Rattle.words.specs.declared.TriangleCode.{TriangleCode}
use Rattle.net.specs.Corners.{name_of, HasCorner, corner}
use Rattle.net.specs.Division.{corner_of}
use Rattle.net.specs.Means.Walks.{Place, around, least_name, name_at, ring_at, word_at}
use Rattle.net.specs.Names.{IsName}
use Rattle.net.specs.Sides.{OneToThree}
use Rattle.net.specs.Steps.{non_zeros, ring_size}
use Rattle.net.proofs.CodePlaces.{code_is, code_for, corner_at, digits_in, for_code, for_corner, for_digits, for_side, has_at, in_digits, in_length}
use Rattle.net.proofs.Names.{name_is}
use Rattle.net.proofs.Rings.{At, ring_all, ring_at_lem}

min_one : (a b : ℕ) → (min a b ≡ a) ⊎ (min a b ≡ b)
min_one a b = grind arith

pub around_first : (q : Place) (i : ℕ) → ring_at (around q) i ≡ ring_at q (suc i)
unfolding ring_at
around_first q zero = refl
around_first q (suc i) = ap around (around_first q i)

-- it is one of the names round the corner, and none of them is less
least_one : (m : ℕ) (q : Place) → (i : ℕ) × (i ≤ m) × (least_name m q ≡ name_at (ring_at q i))
unfolding least_name ring_at
least_one zero q = (0, omega arith, refl)
least_one (suc m) q =
    let r = least_one m (around q) in
    ⊎_elim (λ e. (0, omega arith, e)) (λ e. (suc r.0, omega (arith, r.1), e ∙ r.2 ∙ ap name_at (around_first q r.0))) (min_one (name_at q) (least_name m (around q)))

least_low : (m : ℕ) (q : Place) (i : ℕ) → i ≤ m → least_name m q ≤ name_at (ring_at q i)
unfolding least_name ring_at
least_low zero q zero h = omega arith
least_low zero q (suc i) h = absurd (omega arith)
least_low (suc m) q zero h = omega arith
least_low (suc m) q (suc i) h =
    let b : least_name m (around q) ≤ name_at (ring_at q (suc i)) = rw (around_first q i) at (least_low m (around q) i (omega arith)) in
    omega (arith, b)

pub size_low : (n : ℕ) → ring_size n ≤ 6
size_low zero = omega arith
size_low (suc zero) = omega arith
size_low (suc (suc n)) = omega arith

-- a place as a code
module _ {n : ℕ} {P : List ℕ} {q : Place} (a : At n P q) (low : n ≤ 24) where
  short : length q.digits ≤ 24
  short = omega (arith, a.degree)

  pub place_code : IsCode n (code_for q.side q.digits)
  place_code = subst (λ (m : ℕ). IsCode m (code_for q.side q.digits)) a.degree (for_code q.side q.digits a.a_side a.the_digits short)

  pub place_corner : (i : ℕ) → corner (code_for q.side q.digits) i ≡ corner_of q.side q.digits i
  place_corner = for_corner q.side q.digits a.a_side a.the_digits short

  pub place_side : side_of (code_for q.side q.digits).0 ≡ q.side
  place_side = for_side q.side q.digits a.a_side a.the_digits short

  pub place_digits : digits_in (code_for q.side q.digits) ≡ q.digits
  place_digits = for_digits q.side q.digits a.a_side a.the_digits short

-- the place of a corner of a code
abbrev pub place_in : TriangleCode → ℕ → Place
place_in t i = record { side = side_of t.0; digits = digits_in t; number = i }

pub place_in_lem : {n : ℕ} {t : TriangleCode} → IsCode n t → {i : ℕ} → OneToThree i → At n (corner t i) (place_in t i)
place_in_lem {t = t} c {i} l = record { a_side = code_side c; the_digits = in_digits c; degree = in_length c; a_number = l; corner = sym (corner_at t i) }

-- every code that has the corner is on the walk
pub walk_all : {n : ℕ} {P : List ℕ} {q : Place} → At n P q → (t : TriangleCode) → IsCode n t → HasCorner t P
    → (i : ℕ) × (i < ring_size (non_zeros P)) × (code_for (ring_at q i).side (ring_at q i).digits ≡ t)
walk_all {n} {P} {q} h t c hp =
    let x = ring_all n P q h (side_of t.0) (digits_in t) (code_side c) (in_digits c) (in_length c) (has_at t P hp) in
    (x.0, x.1, sym (code_is c (sym x.2) (sym x.3)))

module _ (n : ℕ) (P : List ℕ) (q : Place) (h : At n P q) (low : n ≤ 24) where
  least : {u : TriangleCode} {i : ℕ} → IsCode n u → OneToThree i → least_name 5 q ≡ u.0 + i → (t : TriangleCode) → IsCode n t → HasCorner t P → u.0 ≤ t.0
  unfolding name_at word_at
  least {u} {i} c l e t ct ht =
      let x = walk_all h t ct ht in
      let y = least_low 5 q x.0 (omega (arith, x.1, size_low (non_zeros P))) in
      let z : (code_for (ring_at q x.0).side (ring_at q x.0).digits).0 ≡ t.0 = ap (λ (v : TriangleCode). v.0) x.2 in
      let m = (ring_at_lem n P q h x.0).a_number in
      omega (arith, y, z, ((code_passes u).0 c.passes).1, ((code_passes t).0 ct.passes).1, m.0, m.1, e, l.0, l.1)

  pub least_is_name : IsName n P (name_of (least_name 5 q))
  unfolding name_at word_at
  least_is_name =
      let o = least_one 5 q in
      let r = ring_at q o.0 in
      let a = ring_at_lem n P q h o.0 in
      let u = code_for r.side r.digits in
      let c : IsCode n u = place_code a low in
      subst (λ (w : ℕ). IsName n P (name_of w)) (sym o.2)
      (name_is c r.number a.a_number P (place_corner a low r.number ∙ a.corner) (least c a.a_number o.2))
