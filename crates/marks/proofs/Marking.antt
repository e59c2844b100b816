-- A mark is its number and its points; what the calls answer, and that there is one answer. Assumes nothing.
use mathlib.Core.Path.{◌≡◌, ◌∙◌, refl, sym, ap, subst}
use mathlib.Core.Bool.{false}
use mathlib.Core.List.{List, [], ◌∷◌}
use Prim.Native.Nat.{ℕ}
use native.Mathlib.Omega.{arith}
use lib.IntN.{ℤ}
use Rattle.frame.proofs.Answering.{answer_one, answer_some, answering, number_is}
use Rattle.words.specs.Refusals.{check_code}
use Rattle.words.specs.declared.TriangleCode.{TriangleCode}
use Rattle.net.specs.Sides.{OneToThree}
use Rattle.corners.specs.Turns.{lower, higher}
use Rattle.corners.specs.Refusals.{refuse_numbered}
use Rattle.corners.proofs.Refused.{numbered_passes}
use Rattle.filing.specs.declared.Point.{Point}
use Rattle.points.specs.Answers.{DrawAnswer}
use Rattle.points.specs.Answers.{PointAnswer, no_point}
use Rattle.points.proofs.OnePlace.{draw_some, point_one}
use Rattle.grid.proofs.Turns.{ends_three}
use Rattle.tables.specs.Tables.{said, number_at, Sounding}
use Rattle.tables.specs.Refusals.{refuse_get}
use Rattle.tables.specs.Answers.{GetAnswer, sounding_answer}
use Rattle.std.specs.Prelude.{None, Some}
use Rattle.frame.specs.declared.Refusal.{Refusal}
use Rattle.frame.specs.Refusals.{number}
use Rattle.frame.proofs.Told.{number_some}
use Rattle.tables.specs.Answers.{SoundingAnswer}
use Rattle.tables.proofs.Refused.{call_passed}
use Rattle.marks.specs.declared.Mark.{Mark}
use Rattle.marks.specs.declared.Mark.TheVariants.{Nothing, Dot, Segment}
use Rattle.marks.specs.Answers.{MarkAnswer}
use Rattle.marks.specs.Marks.{number_of, points_of, Shows, DrawnAt, IsMark, IsEdgeMark}
use Rattle.marks.specs.Answers.{mark_answer, Marked, no_mark, no_edge_mark, TableMarkAnswer, EdgeMarkAnswer}

-- ---- the number and the points tell the mark

told_one : (m m' : Mark) → number_of m ≡ number_of m' → points_of m ≡ points_of m' → m ≡ m'
told_one Nothing Nothing n e = refl
told_one Nothing (Dot p) n e = absurd (omega arith)
told_one Nothing (Segment p q) n e = absurd (omega arith)
told_one (Dot p) Nothing n e = absurd (omega arith)
told_one (Dot p) (Dot p') n e = let f : p ≡ p' = cc in ap Dot f
told_one (Dot p) (Segment p' q') n e = absurd (omega arith)
told_one (Segment p q) Nothing n e = absurd (omega arith)
told_one (Segment p q) (Dot p') n e = absurd (omega arith)
told_one (Segment p q) (Segment p' q') n e =
    let f : p ≡ p' = cc in
    let g : q ≡ q' = cc in
    λ i. Segment (f i) (g i)

shows_one : {m m' : Mark} {n : ℕ} {ps : List Point} → Shows m n ps → Shows m' n ps → m ≡ m'
shows_one {m} {m'} x y = told_one m m' (x.is ∙ sym y.is) (x.are ∙ sym y.are)

-- ---- drawn points

-- what the call for drawing answers is one
pub drawn_is : (t : TriangleCode) (i : ℕ) {a : PointAnswer} → check_code t ≡ 0 → OneToThree i → DrawAnswer t i a
    → DrawnAt t i a.at
drawn_is t i z l x = (x.answered ((numbered_passes t i).1 (z, l))).is

-- and it refuses none
pub drawn_passes : (t : TriangleCode) (i : ℕ) (e : Refusal) → check_code t ≡ 0 → OneToThree i
    → DrawAnswer t i (no_point (number e)) → ⊥
drawn_passes t i e z l x = number_some e (x.answered ((numbered_passes t i).1 (z, l))).number

drawn_some : (t : TriangleCode) (i : ℕ) → check_code t ≡ 0 → OneToThree i → (p : Point) × DrawnAt t i p
drawn_some t i z l = let a = draw_some t i in (a.0.at, drawn_is t i z l a.1)

-- ---- one mark

pub mark_one : (t : TriangleCode) (s : Sounding) (m m' : Mark) → IsMark t s m → IsMark t s m' → m ≡ m'
mark_one t None m m' x y = shows_one x y
mark_one t (Some r) m m' x y =
    shows_one (subst (λ (p : Point). Shows m 1 (p ∷ [])) (point_one x.1 y.1) x.2) y.2

pub edge_one : (t : TriangleCode) (k : ℕ) (m m' : Mark) → IsEdgeMark t k m → IsEdgeMark t k m' → m ≡ m'
edge_one t k m m' x y =
    let f = point_one x.2 y.2 in
    let g = point_one x.3 y.3 in
    shows_one (subst (λ (ps : List Point). Shows m 2 ps) (λ i. f i ∷ g i ∷ []) x.4) y.4

-- the marks that are made
pub nothing_shown : Shows Nothing 0 []
nothing_shown = record { is = refl; are = refl }

pub a_dot : (t : TriangleCode) {p : Point} → DrawnAt t 1 p → (q : Point) × DrawnAt t 1 q × Shows (Dot p) 1 (q ∷ [])
a_dot t {p} d = (p, d, record { is = refl; are = refl })

pub a_segment : (t : TriangleCode) (k : ℕ) {p q : Point} → DrawnAt t (lower k) p → DrawnAt t (higher k) q
    → IsEdgeMark t k (Segment p q)
a_segment t k {p} {q} d e = (p, q, d, e, record { is = refl; are = refl })

mark_some : (t : TriangleCode) (s : Sounding) → check_code t ≡ 0 → (m : Mark) × IsMark t s m
mark_some t None z = (Nothing, nothing_shown)
mark_some t (Some r) z = let p = drawn_some t 1 z (omega arith) in (Dot p.0, a_dot t p.1)

edge_some : (t : TriangleCode) (k : ℕ) → check_code t ≡ 0 → OneToThree k → (m : Mark) × IsEdgeMark t k m
edge_some t k z l =
    let ends = ends_three k l in
    let p = drawn_some t (lower k) z ends.0 in
    let q = drawn_some t (higher k) z ends.1 in
    (Segment p.0 q.0, a_segment t k p.1 q.1)

pub mark_of_said : (t : TriangleCode) (m : Mark) {s s' : Sounding} → s ≡ s' → IsMark t s' m → IsMark t s m
mark_of_said t m e x = subst (λ (s : Sounding). IsMark t s m) (sym e) x

-- ---- the answer with a mark

module _ {Good : Mark → Type 0} where
  marked_one : ((m m' : Mark) → Good m → Good m' → m ≡ m') → {r r' : MarkAnswer} → Marked Good r → Marked Good r'
      → r ≡ r'
  marked_one one {r} {r'} x y = λ i. record {
    refusal = (x.number ∙ sym y.number) i;
    place = (x.place ∙ sym y.place) i;
    mark = one r.mark r'.mark x.is y.is i;
  }

  pub with_mark : {m : Mark} → Good m → Marked Good (mark_answer 0 0 m)
  with_mark g = record { number = refl; place = refl; is = g }

-- ---- of a table

pub table_one : (n : ℕ) (t : TriangleCode) (list : List ℤ) (r r' : MarkAnswer) → TableMarkAnswer n t list r
    → TableMarkAnswer n t list r' → r ≡ r'
table_one n t list r r' = answer_one (λ z x y. marked_one (mark_one t (said (number_at t list))) x y)

-- an answered call has a code
pub table_code : (n : ℕ) (t : TriangleCode) (list : List ℤ) → refuse_get n t list ≡ 0 → check_code t ≡ 0
table_code n t list z = (call_passed n t list false z).0.code.passes

pub table_some : (n : ℕ) (t : TriangleCode) (list : List ℤ) → (r : MarkAnswer) × TableMarkAnswer n t list r
table_some n t list =
    answer_some (refuse_get n t list) (Marked (IsMark t (said (number_at t list)))) (no_mark list) (λ z.
    let m = mark_some t (said (number_at t list)) (table_code n t list z) in (mark_answer 0 0 m.0, with_mark m.1))

-- where get answers, it has a code
pub got_code : (n : ℕ) (t : TriangleCode) (list : List ℤ) {s : Sounding}
    → GetAnswer n t list (sounding_answer 0 0 s) → check_code t ≡ 0
got_code n t list a =
    table_code n t list
    (sym (number_is (λ (r : SoundingAnswer). r.refusal) refl (λ r e. ap (λ (r : SoundingAnswer). r.refusal) e) a))

-- ---- of an edge

pub edge_mark_one : (t : TriangleCode) (k : ℕ) (r r' : MarkAnswer) → EdgeMarkAnswer t k r → EdgeMarkAnswer t k r'
    → r ≡ r'
edge_mark_one t k r r' = answer_one (λ z x y. marked_one (edge_one t k) x y)

pub edge_mark_some : (t : TriangleCode) (k : ℕ) → (r : MarkAnswer) × EdgeMarkAnswer t k r
edge_mark_some t k =
    answer_some (refuse_numbered t k) (Marked (IsEdgeMark t k)) no_edge_mark (λ z.
    let c = (numbered_passes t k).0 z in
    let m = edge_some t k c.0 c.1 in (mark_answer 0 0 m.0, with_mark m.1))

-- what is made of the two answers for drawing
module _ (t : TriangleCode) (k : ℕ) (z : refuse_numbered t k ≡ 0) where
  pub low_passes : {i : ℕ} (e : Refusal) → i ≡ lower k → DrawAnswer t i (no_point (number e)) → ⊥
  low_passes e f x =
      let c = (numbered_passes t k).0 z in
      drawn_passes t (lower k) e c.0 (ends_three k c.1).0 (subst (λ (i : ℕ). DrawAnswer t i (no_point (number e))) f x)

  pub high_passes : {i : ℕ} (e : Refusal) → i ≡ higher k → DrawAnswer t i (no_point (number e)) → ⊥
  high_passes e f x =
      let c = (numbered_passes t k).0 z in
      drawn_passes t (higher k) e c.0 (ends_three k c.1).1 (subst (λ (i : ℕ). DrawAnswer t i (no_point (number e))) f x)

  pub edge_marked : {i j : ℕ} {a b : PointAnswer} → i ≡ lower k → DrawAnswer t i a → j ≡ higher k
      → DrawAnswer t j b → EdgeMarkAnswer t k (mark_answer 0 0 (Segment a.at b.at))
  edge_marked {a = a} {b = b} f x g y =
      let c = (numbered_passes t k).0 z in
      let ends = ends_three k c.1 in
      let p = drawn_is t (lower k) c.0 ends.0 (subst (λ (i : ℕ). DrawAnswer t i a) f x) in
      let q = drawn_is t (higher k) c.0 ends.1 (subst (λ (j : ℕ). DrawAnswer t j b) g y) in
      answering z (with_mark (a_segment t k p q))
