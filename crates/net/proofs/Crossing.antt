-- Across an edge of a code of any degree lies exactly one other triangle, and what follows. Assumes nothing.
use mathlib.Core.Path.{◌≡◌, ◌∙◌, refl, sym, ap, subst}
use mathlib.Core.List.{List}
use mathlib.Core.Logic.{◌⊎◌, inl, inr, ⊎_elim, ◌↔◌}
use Prim.Native.Nat.{ℕ, ◌≤◌}
use native.Mathlib.Omega.{arith}
use lib.ListN.{length}
use Rattle.words.proofs.Codes.{code_degree, code_side}
use Rattle.words.specs.Refusals.{IsCode}
use Rattle.words.specs.Words.{side_of}
use Rattle.words.specs.declared.TriangleCode.{TriangleCode}
use Rattle.net.specs.Corners.{HasCorner, corner}
use Rattle.net.specs.Division.{corner_of}
use Rattle.net.specs.Means.Walks.{Arrival, step_of}
use Rattle.net.specs.Sides.{OneToThree, next, prev}
use Rattle.net.specs.Steps.{Across, SameTwo}
use Rattle.net.proofs.CodePlaces.{at_has, code_for_lem, code_is, code_for, corner_at, digits_in, for_code}
use Rattle.net.proofs.CodePlaces.{for_corner, for_digits, for_side, has_at, in_digits, in_length}
use Rattle.net.proofs.Loads.{HasAt}
use Rattle.net.proofs.Neighbours.{another, corners_differ, shares_ends, shares_just}
use Rattle.net.proofs.Stepping.{Beside, next_three, prev_three, step_beside, step_only}
use Rattle.net.proofs.Table.{◌and◌, ◌or◌, ◌then◌, same, sound, threes}

-- two edges with the same ends are one
edge_one : (k : ℕ) → OneToThree k → (e : ℕ) → OneToThree e
    → ((next k ≡ next e) × (prev k ≡ prev e)) ⊎ ((next k ≡ prev e) × (prev k ≡ next e)) → k ≡ e
edge_one =
    sound
    (threes λ k. threes λ e.
    ((same (next k) (next e) and same (prev k) (prev e)) or (same (next k) (prev e) and same (prev k) (next e)))
    then same k e) refl

pub corner_one : {n : ℕ} {t : TriangleCode} → IsCode n t → {i j : ℕ} → OneToThree i → OneToThree j
    → corner t i ≡ corner t j → i ≡ j
corner_one {t = t} c {i} {j} a b z =
    corners_differ (side_of t.0) (digits_in t) (code_side c) i a j b (sym (corner_at t i) ∙ z ∙ corner_at t j)

edges_same : {n : ℕ} {t : TriangleCode} (e f : ℕ) (p q : List ℕ) → IsCode n t → OneToThree e → OneToThree f
    → SameTwo p q (corner t (next e)) (corner t (prev e))
    → SameTwo p q (corner t (next f)) (corner t (prev f)) → e ≡ f
edges_same {t = t} e f p q c l m x y =
    edge_one e l f m
    (⊎_elim
    (λ x. ⊎_elim (λ y. inl (nn (sym x.0 ∙ y.0), pp (sym x.1 ∙ y.1)))
    (λ y. inr (np (sym x.0 ∙ y.0), pn (sym x.1 ∙ y.1))) y)
    (λ x. ⊎_elim (λ y. inr (np (sym x.1 ∙ y.1), pn (sym x.0 ∙ y.0)))
    (λ y. inl (nn (sym x.1 ∙ y.1), pp (sym x.0 ∙ y.0))) y) x)
  where
    nn : corner t (next e) ≡ corner t (next f) → next e ≡ next f
    nn = corner_one c (next_three e l) (next_three f m)

    pp : corner t (prev e) ≡ corner t (prev f) → prev e ≡ prev f
    pp = corner_one c (prev_three e l) (prev_three f m)

    np : corner t (next e) ≡ corner t (prev f) → next e ≡ prev f
    np = corner_one c (next_three e l) (prev_three f m)

    pn : corner t (prev e) ≡ corner t (next f) → prev e ≡ next f
    pn = corner_one c (prev_three e l) (next_three f m)

-- the code that the step finds, and the edge there
abbrev pub code_across : ℕ → TriangleCode → TriangleCode
code_across k t = let r = step_of k (side_of t.0) (digits_in t) in code_for r.side r.digits

abbrev pub edge_across : ℕ → TriangleCode → ℕ
edge_across k t = (step_of k (side_of t.0) (digits_in t)).edge

module _ {n : ℕ} {t : TriangleCode} (c : IsCode n t) (k : ℕ) (l : OneToThree k) where
  abbrev s : ℕ
  s = side_of t.0

  abbrev ds : List ℕ
  ds = digits_in t

  abbrev r : Arrival
  r = step_of k s ds

  b : Beside k s ds r
  b = step_beside k s ds l (code_side c) (in_digits c)

  long : length r.digits ≤ 24
  long = omega (arith, b.degree, in_length c, code_degree c)

  pub across_code : IsCode n (code_across k t)
  across_code =
      subst (λ (m : ℕ). IsCode m (code_across k t)) (b.degree ∙ in_length c)
      (for_code r.side r.digits b.a_side b.the_digits long)

  across_corner : (i : ℕ) → corner (code_across k t) i ≡ corner_of r.side r.digits i
  across_corner = for_corner r.side r.digits b.a_side b.the_digits long

  across_side : side_of (code_across k t).0 ≡ r.side
  across_side = for_side r.side r.digits b.a_side b.the_digits long

  across_digits : digits_in (code_across k t) ≡ r.digits
  across_digits = for_digits r.side r.digits b.a_side b.the_digits long

  -- what is next here is previous there, and the other way round
  abbrev Reversed : TriangleCode → ℕ → Type 0
  Reversed t' k' =
      (corner t (next k) ≡ corner t' (prev k')) × (corner t (prev k) ≡ corner t' (next k'))

  reversed : Reversed (code_across k t) (edge_across k t)
  reversed = (
    corner_at t (next k) ∙ sym b.after ∙ sym (across_corner (prev r.edge)),
    corner_at t (prev k) ∙ sym b.before ∙ sym (across_corner (next r.edge)),
  )

  -- it lies across
  pub across_is : Across n t k (code_across k t) (edge_across k t)
  across_is =
      record {
        code = across_code;
        other = λ e.
            another s ds (code_side c) (in_digits c) k l
            (sym across_side ∙ ap (λ (u : TriangleCode). side_of u.0) e) (sym across_digits ∙ ap digits_in e);
        edge = b.an_edge;
        ends = inr reversed;
      }

  ends_has : (t' : TriangleCode) (k' : ℕ) → Across n t k t' k'
      → HasCorner t' (corner t (next k)) × HasCorner t' (corner t (prev k))
  ends_has t' e a =
      ⊎_elim (λ x. ((next e, next_three e a.edge, sym x.0), (prev e, prev_three e a.edge, sym x.1)))
      (λ x. ((prev e, prev_three e a.edge, sym x.0), (next e, next_three e a.edge, sym x.1))) a.ends

  at_end : (t' : TriangleCode) (i : ℕ) → HasCorner t' (corner t i)
      → HasAt (side_of t'.0) (digits_in t') (corner_of s ds i)
  at_end t' i h =
      subst (λ (p : List ℕ). HasAt (side_of t'.0) (digits_in t') p) (corner_at t i)
      (has_at t' (corner t i) h)

  -- a triangle with both ends of the edge is the triangle itself, or the one across
  pub ends_only : (t' : TriangleCode) → IsCode n t'
      → HasCorner t' (corner t (next k)) → HasCorner t' (corner t (prev k))
      → (t' ≡ t) ⊎ (t' ≡ code_across k t)
  ends_only t' c' p q =
      ⊎_elim (λ x. inl (code_is c' x.0 x.1 ∙ sym (code_for_lem c))) (λ x. inr (code_is c' x.0 x.1))
      (step_only k s ds l (code_side c) (in_digits c) (side_of t'.0) (digits_in t') (code_side c')
      (in_digits c') (in_length c' ∙ sym (in_length c)) (at_end t' (next k) p) (at_end t' (prev k) q))

  only_code : (t' : TriangleCode) (k' : ℕ) → Across n t k t' k' → t' ≡ code_across k t
  only_code t' e a =
      let h = ends_has t' e a in
      ⊎_elim (λ x. absurd (a.other x)) (λ x. x) (ends_only t' a.code h.0 h.1)

  only_edge : (t' : TriangleCode) (k' : ℕ) → Across n t k t' k' → k' ≡ edge_across k t
  only_edge t' e a =
      edges_same e (edge_across k t) (corner t (next k)) (corner t (prev k)) across_code a.edge across_is.edge
      (subst
      (λ (u : TriangleCode). SameTwo (corner t (next k)) (corner t (prev k)) (corner u (next e)) (corner u (prev e)))
      (only_code t' e a) a.ends) across_is.ends

  pub across_only : (t' : TriangleCode) (k' : ℕ) → Across n t k t' k'
      → (t' ≡ code_across k t) × (k' ≡ edge_across k t)
  across_only t' e a = (only_code t' e a, only_edge t' e a)

  pub across_reversed : {t' : TriangleCode} {k' : ℕ} → Across n t k t' k' → Reversed t' k'
  across_reversed {t'} {k'} a = let o = across_only t' k' a in rw o.0 (rw o.1 reversed)

  just : (i : ℕ) → OneToThree i → HasCorner (code_across k t) (corner t i) ↔ (i ≡ k → ⊥)
  just i m = (
    λ h e. shares_just s ds (code_side c) (in_digits c) k l
        (over (ap (corner_of s ds) e) (at_end (code_across k t) i h)),
    λ f. at_has (code_across k t) (corner t i) (back (shares_ends s ds (code_side c) (in_digits c) k l i m f)),
  )
    where
      over : {p q : List ℕ} → p ≡ q → HasAt (side_of (code_across k t).0) (digits_in (code_across k t)) p
          → HasAt r.side r.digits q
      over e h = (h.0, h.1, (λ i. corner_of (sym across_side i) (sym across_digits i) h.0) ∙ h.2 ∙ e)

      back : HasAt r.side r.digits (corner_of s ds i)
          → HasAt (side_of (code_across k t).0) (digits_in (code_across k t)) (corner t i)
      back h = (h.0, h.1, (λ j. corner_of (across_side j) (across_digits j) h.0) ∙ h.2 ∙ sym (corner_at t i))

  -- a neighbour has just the two corners of its edge
  pub across_just : {t' : TriangleCode} {k' : ℕ} → Across n t k t' k'
      → (i : ℕ) → OneToThree i → HasCorner t' (corner t i) ↔ (i ≡ k → ⊥)
  across_just {t'} {k'} a i m =
      subst (λ (u : TriangleCode). HasCorner u (corner t i) ↔ (i ≡ k → ⊥)) (sym (only_code t' k' a))
      (just i m)

-- the way back
pub across_back : {n : ℕ} {t t' : TriangleCode} {k k' : ℕ} → IsCode n t → OneToThree k
    → Across n t k t' k' → Across n t' k' t k
across_back c l a =
    record {
      code = c;
      other = λ e. a.other (sym e);
      edge = l;
      ends = ⊎_elim (λ x. inl (sym x.0, sym x.1)) (λ x. inr (sym x.1, sym x.0)) a.ends;
    }

-- neighbours across different edges are different
pub across_differ : {n : ℕ} {t t' t'' : TriangleCode} {k k' m m' : ℕ} → IsCode n t → OneToThree k
    → OneToThree m → (k ≡ m → ⊥)
    → Across n t k t' k' → Across n t m t'' m' → t' ≡ t'' → ⊥
across_differ {n} {t} {t'} {t''} {k} {k'} {m} c l h f a b e =
    (across_just c k l a k l).0
    (subst (λ (u : TriangleCode). HasCorner u (corner t k)) (sym e) ((across_just c m h b k l).1 f)) refl

-- a code whose triangle has every corner of another's is that other: different codes are different triangles
pub codes_differ_lem : (n : ℕ) (v w : TriangleCode) → IsCode n v → IsCode n w
    → ((i : ℕ) → OneToThree i → HasCorner w (corner v i)) → v ≡ w
codes_differ_lem n v w c d h =
    let l : OneToThree 1 = omega arith in
    ⊎_elim (λ e. sym e)
    (λ e. absurd
    ((across_just c 1 l (across_is c 1 l) 1 l).0
    (subst (λ (u : TriangleCode). HasCorner u (corner v 1)) e (h 1 l)) refl))
    (ends_only c 1 l w d (h 2 (omega arith)) (h 3 (omega arith)))
