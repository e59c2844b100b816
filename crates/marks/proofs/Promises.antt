-- The promises of marks hold: a theorem for each record of specs/Promises.antt. Assumes nothing.
use mathlib.Core.Path.{◌≡◌, ◌∙◌, refl, sym, ap, subst}
use mathlib.Core.Logic.{◌⊎◌, inl, inr, ⊎_elim, ◌↔◌}
use mathlib.Core.List.{List, [], ◌∷◌}
use Prim.Native.Nat.{ℕ}
use native.Mathlib.Omega.{arith}
use lib.IntN.{ℤ}
use Rattle.frame.proofs.Answering.{answers_or_not, keeps, passed}
use Rattle.words.specs.Words.{degree_of}
use Rattle.words.specs.declared.TriangleCode.{TriangleCode}
use Rattle.net.specs.Sides.{OneToThree}
use Rattle.net.specs.Corners.{corner}
use Rattle.net.specs.Division.{Weights}
use Rattle.net.proofs.Table.{◌and◌, ◌or◌, same, sound, threes}
use Rattle.corners.specs.Turns.{lower, higher}
use Rattle.corners.specs.Refusals.{refuse_numbered}
use Rattle.corners.specs.Answers.{CrossAnswer}
use Rattle.corners.specs.Answers.{StepAnswer}
use Rattle.corners.proofs.Refused.{numbered, numbered_passes}
use Rattle.corners.proofs.TurnedCorners.{first_there, second_there, turned_is}
use Rattle.filing.specs.Coordinates.{exact}
use Rattle.filing.specs.Drawing.{IsPoint}
use Rattle.filing.specs.declared.Point.{Point}
use Rattle.points.specs.Answers.{DrawAnswer}
use Rattle.points.specs.Answers.{PointAnswer}
use Rattle.points.proofs.OnePlace.{point_one}
use Rattle.grid.proofs.Turns.{ends_three}
use Rattle.tables.specs.Tables.{said, number_at, Sounding}
use Rattle.tables.specs.Refusals.{refuse_get}
use Rattle.tables.specs.Answers.{GetAnswer}
use Rattle.std.specs.Prelude.{None, Some}
use Rattle.tables.specs.Answers.{SoundingAnswer}
use Rattle.marks.specs.declared.Mark.{Mark}
use Rattle.marks.specs.Answers.{MarkAnswer}
use Rattle.marks.specs.Marks.{number_of, Shows, DrawnAt, IsMark, IsEdgeMark}
use Rattle.marks.specs.Answers.{TableMarkAnswer, EdgeMarkAnswer}
use Rattle.marks.specs.Promises.{OneAnswer, OfTable, AsDrawn, OneLine}
use Rattle.marks.proofs.Marking.{drawn_is, edge_mark_one, edge_mark_some, nothing_shown}
use Rattle.marks.proofs.Marking.{mark_of_said, table_code, table_one, table_some}

pub one_answer : OneAnswer
one_answer = record {
  table = λ n t list. keeps (λ (r : MarkAnswer). r.refusal) refl (λ r x. x.number) (table_some n t list)
      (table_one n t list);
  edge = λ t k. keeps (λ (r : MarkAnswer). r.refusal) refl (λ r x. x.number) (edge_mark_some t k)
      (edge_mark_one t k);
}

-- ---- of a table

abbrev count : Sounding → ℕ
count None = 0
count (Some r) = 1

a_reading : {r : ℤ} → Some r ≡ None → ⊥
a_reading e = let f = ap count e in omega (arith, f)

-- what a mark says of what the table has
marks_nothing : (t : TriangleCode) (s : Sounding) (m : Mark) → IsMark t s m → (s ≡ None) ↔ Shows m 0 []
marks_nothing t None m x = (λ e. x, λ y. refl)
marks_nothing t (Some r) m x = (λ e. absurd (a_reading e), λ y. absurd (omega (arith, x.2.is, y.is)))

marks_dot : (t : TriangleCode) (s : Sounding) (m : Mark) → IsMark t s m → (s ≡ None → ⊥) ↔ (number_of m ≡ 1)
marks_dot t None m x = (λ d. absurd (d refl), λ e. absurd (omega (arith, x.is, e)))
marks_dot t (Some r) m x = (λ d. x.2.is, λ e. a_reading)

module _ (n : ℕ) (t : TriangleCode) (list : List ℤ) (r : MarkAnswer) (g : SoundingAnswer)
    (x : TableMarkAnswer n t list r) (a : GetAnswer n t list g) where
  -- nothing is refused, and the mark is that of what get says; or both are the same refusal
  marked : refuse_get n t list ≡ 0 → IsMark t g.sounding r.mark
  marked z = mark_of_said t r.mark (ap (λ (h : SoundingAnswer). h.sounding) (a.answered z)) (x.answered z).is

  nothing : (g.sounding ≡ None) ↔ Shows r.mark 0 []
  nothing = ⊎_elim (λ z. marks_nothing t g.sounding r.mark (marked z)) (λ d. (
    λ e. subst (λ (m : Mark). Shows m 0 []) (sym (ap (λ (r : MarkAnswer). r.mark) (x.refused d))) nothing_shown,
    λ y. ap (λ (h : SoundingAnswer). h.sounding) (a.refused d),
  )) (answers_or_not (refuse_get n t list))

  -- by cases, whether there is a reading
  dot : (g.sounding ≡ None → ⊥) ↔ (number_of r.mark ≡ 1)
  dot = ⊎_elim (λ z. marks_dot t g.sounding r.mark (marked z)) (λ d. (
    λ n. absurd (n (ap (λ (h : SoundingAnswer). h.sounding) (a.refused d))),
    λ e. absurd (omega (arith, e, ap (λ (r : MarkAnswer). number_of r.mark) (x.refused d))),
  )) (answers_or_not (refuse_get n t list))

  refused : (r.refusal ≡ g.refusal) × (r.place ≡ g.place)
  refused = ⊎_elim (λ z. (
    (x.answered z).number ∙ sym (ap (λ (h : SoundingAnswer). h.refusal) (a.answered z)),
    (x.answered z).place ∙ sym (ap (λ (h : SoundingAnswer). h.place) (a.answered z)),
  )) (λ d. (
    ap (λ (r : MarkAnswer). r.refusal) (x.refused d) ∙ sym (ap (λ (h : SoundingAnswer). h.refusal) (a.refused d)),
    ap (λ (r : MarkAnswer). r.place) (x.refused d) ∙ sym (ap (λ (h : SoundingAnswer). h.place) (a.refused d)),
  )) (answers_or_not (refuse_get n t list))

pub of_table : OfTable
of_table = record { nothing = nothing; dot = dot; refused = refused }

-- ---- as drawn

-- a mark of one point has the point of the triangle's corner 1
dotted : (t : TriangleCode) (s : Sounding) (m : Mark) {p : Point} → IsMark t s m → number_of m ≡ 1 → DrawnAt t 1 p
    → Shows m 1 (p ∷ [])
dotted t None m x e d = absurd (omega (arith, e, x.is))
dotted t (Some r) m x e d = subst (λ (p : Point). Shows m 1 (p ∷ [])) (point_one x.1 d) x.2

module _ (n : ℕ) (t : TriangleCode) (list : List ℤ) (r : MarkAnswer) (a : PointAnswer)
    (x : TableMarkAnswer n t list r) (e : number_of r.mark ≡ 1) (d : DrawAnswer t 1 a) where
  dot_drawn : Shows r.mark 1 (a.at ∷ [])
  dot_drawn = ⊎_elim
      (λ z. dotted t (said (number_at t list)) r.mark (x.answered z).is e
      (drawn_is t 1 (table_code n t list z) (omega arith) d))
      (λ k. absurd (omega (arith, e, ap (λ (r : MarkAnswer). number_of r.mark) (x.refused k))))
      (answers_or_not (refuse_get n t list))

-- a segment has the points of the edge's corners
module _ (t : TriangleCode) (k : ℕ) {r : MarkAnswer} (x : EdgeMarkAnswer t k r) (z : refuse_numbered t k ≡ 0) where
  between : {p q : Point} → DrawnAt t (lower k) p → DrawnAt t (higher k) q → Shows r.mark 2 (p ∷ q ∷ [])
  between d e =
      let y = (x.answered z).is in
      let a = point_one y.2 d in
      let b = point_one y.3 e in
      subst (λ (ps : List Point). Shows r.mark 2 ps) (λ i. a i ∷ b i ∷ []) y.4

pub as_drawn : AsDrawn
as_drawn = record {
  dot = dot_drawn;
  segment = λ t k r a b x e d f.
      let z = passed (λ (r : MarkAnswer). r.refusal) refl (λ r y. y.number) x e in
      let c = (numbered_passes t k).0 z in
      let ends = ends_three k c.1 in
      between t k x z (drawn_is t (lower k) c.0 ends.0 d) (drawn_is t (higher k) c.0 ends.1 f);
}

-- ---- one line

-- the edge's two corners are, there, the two of the edge there, in the one order or the other
ends_there : (k : ℕ) → OneToThree k → (e : ℕ) → OneToThree e
    → ((first_there k e ≡ lower e) × (second_there k e ≡ higher e))
    ⊎ ((first_there k e ≡ higher e) × (second_there k e ≡ lower e))
ends_there =
    sound
    (threes λ k. threes λ e.
    (same (first_there k e) (lower e) and same (second_there k e) (higher e))
    or (same (first_there k e) (higher e) and same (second_there k e) (lower e))) refl

-- a mark that shows two points is no refusal's
two_passed : (t : TriangleCode) (k : ℕ) {r : MarkAnswer} {ps : List Point} → EdgeMarkAnswer t k r
    → Shows r.mark 2 ps → refuse_numbered t k ≡ 0
two_passed t k x w = ⊎_elim (λ z. z)
    (λ d. absurd (omega (arith, w.is, ap (λ (r : MarkAnswer). number_of r.mark) (x.refused d))))
    (answers_or_not (refuse_numbered t k))

-- the two points that a mark shows are the corners'
two_drawn : (t : TriangleCode) (k : ℕ) (m : Mark) {p q : Point} → IsEdgeMark t k m → Shows m 2 (p ∷ q ∷ [])
    → DrawnAt t (lower k) p × DrawnAt t (higher k) q
two_drawn t k m {p} {q} y w =
    let e : y.0 ∷ y.1 ∷ [] ≡ p ∷ q ∷ [] = sym y.4.are ∙ w.are in
    let f : y.0 ≡ p = cc in
    let g : y.1 ≡ q = cc in
    (subst (DrawnAt t (lower k)) f y.2, subst (DrawnAt t (higher k)) g y.3)

-- one point is drawn the same as a corner of another triangle of the degree
drawn_there : (t t' : TriangleCode) (i j m : ℕ) {p : Point} → degree_of t'.0 ≡ degree_of t.0
    → corner t i ≡ corner t' j → j ≡ m → DrawnAt t i p → DrawnAt t' m p
drawn_there t t' i j m {p} n e f d =
    subst (λ (n : ℕ). IsPoint n (exact (corner t' m)) p) (sym n)
    (subst (λ (w : Weights). IsPoint (degree_of t.0) (exact w) p) (e ∙ ap (corner t') f) d)

module _ (t : TriangleCode) (k : ℕ) (s : StepAnswer) (r r' : MarkAnswer) (p q : Point) (c : CrossAnswer t k s)
    (x : EdgeMarkAnswer t k r) (y : EdgeMarkAnswer s.code s.edge r') (w : Shows r.mark 2 (p ∷ q ∷ [])) where
  across_it_lem : Shows r'.mark 2 (p ∷ q ∷ []) ⊎ Shows r'.mark 2 (q ∷ p ∷ [])
  across_it_lem =
      let z = two_passed t k x w in
      let here = numbered t k z in
      let there = (c.answered z).across in
      let z' = (numbered_passes s.code s.edge).1 (there.code.passes, there.edge) in
      let turn = turned_is here.0 here.1 there in
      let d = two_drawn t k r.mark (x.answered z).is w in
      let first : (m : ℕ) → first_there k s.edge ≡ m → DrawnAt s.code m p =
      λ m e. drawn_there t s.code (lower k) _ m there.code.degree_is turn.lower_is.1 e d.0 in
      let second : (m : ℕ) → second_there k s.edge ≡ m → DrawnAt s.code m q =
      λ m e. drawn_there t s.code (higher k) _ m there.code.degree_is turn.higher_is.1 e d.1 in
      ⊎_elim
      (λ e. inl (between s.code s.edge y z' (first _ e.0) (second _ e.1)))
      (λ e. inr (between s.code s.edge y z' (second _ e.1) (first _ e.0)))
      (ends_there k here.1 s.edge there.edge)

pub one_line : OneLine
one_line = record { across_it = across_it_lem }
