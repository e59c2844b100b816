-- From one degree to the next: a corner of the next degree is a kept corner or the middle of an edge, and not both.
-- Assumes nothing.
use mathlib.Core.Path.{◌≡◌, ◌∙◌, refl, sym, ap, subst, subst₂}
use mathlib.Core.List.{List, ◌∷◌}
use mathlib.Core.Logic.{◌⊎◌, inl, inr, ⊎_elim}
use Prim.Native.Nat.{ℕ, zero, suc, ◌≤◌}
use native.Mathlib.Omega.{arith}
use lib.ListN.{length}
use Rattle.words.proofs.Codes.{code_side}
use Rattle.words.proofs.Digits.{digits_are, more}
use Rattle.words.specs.Refusals.{IsCode}
use Rattle.words.specs.Words.{digit_of, digits, first_digits, side_of}
use Rattle.words.specs.declared.TriangleCode.{TriangleCode}
use Rattle.net.specs.Corners.{corner}
use Rattle.net.specs.Division.{Weights, corner_of, kept, middle, triangle_at}
use Rattle.net.specs.Means.Spreads.{spread}
use Rattle.net.specs.Means.States.{point_of, state_of}
use Rattle.net.specs.Sides.{OneToThree, next, prev}
use Rattle.net.specs.Steps.{SameTwo}
use Rattle.net.proofs.CodePlaces.{code_for, corner_at, digits_in, for_code, for_corner, in_digits, in_length}
use Rattle.net.proofs.Loads.{corner_is}
use Rattle.net.proofs.Paths.{Digits, are_digits_lem, are_length}
use Rattle.net.proofs.Spread.{middle_turned}
use Rattle.net.proofs.StateCode.{spread_length}
use Rattle.net.proofs.Table.{three}
use Rattle.grid.specs.Counts.{Edge, IsCorner, IsEdge}
use Rattle.grid.proofs.Differing.{edge_there, edges_differ_lem}
use Rattle.grid.proofs.Middles.{Leans, Twelve, kept_one, middle_not_kept, middle_one, state_leans}

-- ---- sides and digits

module _ (s : ℕ) (ds : List ℕ) where
  -- the middle of edge k
  abbrev middle_at : ℕ → Weights
  middle_at k = middle (corner_of s ds (next k)) (corner_of s ds (prev k))

  -- a kept corner, or the middle of an edge
  abbrev Made : Weights → Type 0
  Made p = ((j : ℕ) × OneToThree j × (kept (corner_of s ds j) ≡ p)) ⊎ ((k : ℕ) × OneToThree k × (middle_at k ≡ p))

  -- such is each corner of a child
  child_corner : (d i : ℕ) → OneToThree i → Made (corner_of s (d ∷ ds) i)
  unfolding corner_of triangle_at
  child_corner zero =
      three (λ i. Made (corner_of s (0 ∷ ds) i))
      (inr (1, omega arith, refl)) (inr (2, omega arith, refl)) (inr (3, omega arith, refl))
  child_corner (suc zero) =
      three (λ i. Made (corner_of s (1 ∷ ds) i))
      (inl (1, omega arith, refl)) (inr (3, omega arith, refl)) (inr (2, omega arith, refl))
  child_corner (suc (suc zero)) =
      three (λ i. Made (corner_of s (2 ∷ ds) i))
      (inr (3, omega arith, refl)) (inl (2, omega arith, refl)) (inr (1, omega arith, refl))
  child_corner (suc (suc (suc d))) =
      three (λ i. Made (corner_of s (suc (suc (suc d)) ∷ ds) i))
      (inr (2, omega arith, refl)) (inr (1, omega arith, refl)) (inl (3, omega arith, refl))

  -- corner j is kept by the child of that digit, and the middle of edge k is corner k of the child 0
  child_keeps : (j : ℕ) → OneToThree j → corner_of s (j ∷ ds) j ≡ kept (corner_of s ds j)
  unfolding corner_of triangle_at
  child_keeps = three (λ j. corner_of s (j ∷ ds) j ≡ kept (corner_of s ds j)) refl refl refl

  child_middle : (k : ℕ) → OneToThree k → corner_of s (0 ∷ ds) k ≡ middle_at k
  unfolding corner_of triangle_at
  child_middle = three (λ k. corner_of s (0 ∷ ds) k ≡ middle_at k) refl refl refl

-- ---- codes

-- the middle of an edge
abbrev pub middle_of : Edge → Weights
middle_of e = middle (corner e.code (next e.number)) (corner e.code (prev e.number))

-- a corner of a code as a point of its side
corner_point : (t : TriangleCode) (i : ℕ) → corner t i ≡ spread (side_of t.0) (point_of i (state_of (digits_in t)))
corner_point t i = corner_at t i ∙ corner_is (side_of t.0) (digits_in t) i

-- a corner has twelve weights, and the ends of an edge lean to each other
corner_twelve : {n : ℕ} (p : Weights) → IsCorner n p → Twelve p
corner_twelve p c =
    let t = c.0 in let i = c.2 in
    ap length (sym i.2 ∙ corner_point t i.0)
    ∙ spread_length (side_of t.0) (point_of i.0 (state_of (digits_in t)))

edge_leans : {n : ℕ} {e : Edge} → IsEdge n e
    → Leans (corner e.code (next e.number)) (corner e.code (prev e.number))
edge_leans {e = e} x =
    let t = e.code in
    let k = e.number in
    subst₂ Leans (sym (corner_point t (next k))) (sym (corner_point t (prev k)))
    (state_leans (side_of t.0) (code_side x.a_code) k x.a_number (state_of (digits_in t)))

-- the child of a code with one more digit
module _ {n : ℕ} {t : TriangleCode} (c : IsCode n t) (d : ℕ) (l : d ≤ 3) (low : suc n ≤ 24) where
  abbrev below : List ℕ
  below = d ∷ digits_in t

  short : length below ≤ 24
  short = omega (arith, in_length c)

  child_code : IsCode (suc n) (code_for (side_of t.0) below)
  child_code =
      subst (λ (m : ℕ). IsCode m (code_for (side_of t.0) below)) (ap suc (in_length c))
      (for_code (side_of t.0) below (code_side c) (more l (in_digits c)) short)

  child_has : (i : ℕ) → OneToThree i → (p : Weights) → corner_of (side_of t.0) below i ≡ p → IsCorner (suc n) p
  child_has i h p e =
      let at = for_corner (side_of t.0) below (code_side c) (more l (in_digits c)) short i in
      (code_for (side_of t.0) below, child_code, (i, h, at ∙ e))

-- kept corners and middles of edges are corners of the next degree
pub kept_corner : {n : ℕ} → suc n ≤ 24 → (p : Weights) → IsCorner n p → IsCorner (suc n) (kept p)
kept_corner low p (t, c, (i, l, e)) =
    child_has c i l.1 low i l (kept p)
    (child_keeps (side_of t.0) (digits_in t) i l ∙ ap kept (sym (corner_at t i) ∙ e))

pub middle_corner : {n : ℕ} → suc n ≤ 24 → (e : Edge) → IsEdge n e → IsCorner (suc n) (middle_of e)
middle_corner low e x =
    let t = e.code in
    let k = e.number in
    child_has x.a_code 0 (omega arith) low k x.a_number (middle_of e)
    (child_middle (side_of t.0) (digits_in t) k x.a_number
    ∙ (λ i. middle (sym (corner_at t (next k)) i) (sym (corner_at t (prev k)) i)))

-- the same two ends have the same middle
ends_middle : {p q p' q' : Weights} → SameTwo p q p' q' → middle p' q' ≡ middle p q
ends_middle {p} {q} {p'} {q'} =
    ⊎_elim (λ x. λ i. middle (sym x.0 i) (sym x.1 i))
    (λ x. (λ i. middle (sym x.1 i) (sym x.0 i)) ∙ middle_turned q p)

-- kept from degree n, and the middle of an edge of degree n
abbrev pub IsKept : ℕ → Weights → Type 0
IsKept n p = (q : Weights) × IsCorner n q × (kept q ≡ p)

abbrev pub IsMiddle : ℕ → Weights → Type 0
IsMiddle n p = (e : Edge) × IsEdge n e × (middle_of e ≡ p)

-- the code of one digit less
module _ {n : ℕ} {t : TriangleCode} (c : IsCode (suc n) t) (low : suc n ≤ 24) where
  abbrev s : ℕ
  s = side_of t.0

  abbrev above : List ℕ
  above = digits t.0 n

  above_digits : Digits above
  above_digits = are_digits_lem (digits_are t.0 n)

  above_length : length above ≡ n
  above_length = are_length (digits_are t.0 n)

  abbrev parent : TriangleCode
  parent = code_for s above

  parent_code : IsCode n parent
  parent_code =
      subst (λ (m : ℕ). IsCode m parent) above_length
      (for_code s above (code_side c) above_digits (omega (arith, above_length)))

  parent_corner : (i : ℕ) → corner parent i ≡ corner_of s above i
  parent_corner = for_corner s above (code_side c) above_digits (omega (arith, above_length))

  last_digit : digits_in t ≡ digit_of t.0 (suc n) ∷ above
  unfolding first_digits
  last_digit = ap (digits t.0) c.degree_is

  from_parent : (p : Weights) → Made s above p → IsKept n p ⊎ IsMiddle n p
  from_parent p (inl (j, l, e)) =
      inl (corner parent j, (parent, parent_code, (j, l, refl)), ap kept (parent_corner j) ∙ e)
  from_parent p (inr (k, l, e)) =
      let x = edge_there n parent k parent_code l in
      inr (x.0, x.1, ends_middle x.2 ∙ (λ i. middle (parent_corner (next k) i) (parent_corner (prev k) i)) ∙ e)

  made_corner : (i : ℕ) → OneToThree i → Made s above (corner t i)
  made_corner i l =
      subst (Made s above) (ap (λ (ds : List ℕ). corner_of s ds i) (sym last_digit) ∙ sym (corner_at t i))
      (child_corner s above (digit_of t.0 (suc n)) i l)

-- every corner of the next degree is the one or the other
pub kept_or_middle : {n : ℕ} → suc n ≤ 24 → (p : Weights) → IsCorner (suc n) p → IsKept n p ⊎ IsMiddle n p
kept_or_middle low p (t, c, (i, l, e)) =
    from_parent c low p (subst (Made (s c low) (above c low)) e (made_corner c low i l))

-- not both
pub not_both : {n : ℕ} (p : Weights) → IsKept n p → IsMiddle n p → ⊥
not_both p (q, c, e) (f, x, g) = middle_not_kept _ _ q (edge_leans x) (g ∙ sym e)

-- and each is so once
pub kept_once : {n : ℕ} (p q : Weights) → IsCorner n p → IsCorner n q → kept p ≡ kept q → p ≡ q
kept_once p q c d e = kept_one p q (corner_twelve p c) (corner_twelve q d) e

pub middle_once : {n : ℕ} (e f : Edge) → IsEdge n e → IsEdge n f → middle_of e ≡ middle_of f → e ≡ f
middle_once {n} e f x y z = edges_differ_lem n e f x y (middle_one _ _ _ _ (edge_leans x) (edge_leans y) z)
