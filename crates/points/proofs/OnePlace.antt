-- For every input there is a result that meets the statement of each call for coordinates, and any two that do are
-- equal. Assumes nothing.
use mathlib.Core.Path.{◌≡◌, ◌∙◌, refl, sym, subst}
use Prim.Native.Nat.{ℕ, ◌+◌, ◌*◌, ◌≤◌, ◌^◌}
use native.Mathlib.Omega.{arith}
use lib.IntN.{ℤ, pos}
use lib.Ieee.{Float, binary64, div, of_int}
use Rattle.frame.proofs.Answering.{answer_one, answer_some}
use Rattle.golden.specs.declared.Golden.{Golden}
use Rattle.golden.specs.Numbers.{Below}
use Rattle.golden.proofs.Nearest.{t_one, t_small, t_some}
use Rattle.words.specs.Words.{degree_of}
use Rattle.words.specs.declared.TriangleCode.{TriangleCode}
use Rattle.words.specs.declared.CornerName.{CornerName}
use Rattle.net.specs.Division.{Weights}
use Rattle.net.specs.Corners.{corner, named}
use Rattle.net.specs.Refusals.{check_name}
use Rattle.corners.specs.Refusals.{refuse_numbered}
use Rattle.filing.specs.Coordinates.{exact}
use Rattle.filing.specs.Fractions.{IsFraction}
use Rattle.filing.specs.Drawing.{AreTicks, IsDrawn, IsPoint}
use Rattle.points.specs.Answers.{Placed, Ticked, Pointed, no_coordinates, no_ticks, no_point}
use Rattle.points.specs.Answers.{PlaceAnswer, NamePlaceAnswer, TickAnswer, NameTickAnswer, DrawAnswer}
use Rattle.points.specs.Answers.{NameDrawAnswer}
use Rattle.filing.specs.Means.Places.{Twelve, Small}
use Rattle.filing.specs.declared.Coordinates.{Coordinates}
use Rattle.points.specs.Answers.{CoordinatesAnswer}
use Rattle.filing.specs.declared.Ticks.{Ticks}
use Rattle.points.specs.Answers.{TicksAnswer}
use Rattle.filing.specs.declared.Point.{Point}
use Rattle.points.specs.Answers.{PointAnswer}
use Rattle.filing.proofs.Weighted.{exact_small}
use Rattle.filing.proofs.ExactFractions.{one_fraction, divisor_pos, divided}
use Rattle.points.proofs.DrawnBits.{pointed}
use Rattle.points.proofs.PlaceCalls.{numbered_twelve, numbered_degree, name_twelve, name_degree}

-- ---- exact coordinates

placed_one : {c : Coordinates} {r r' : CoordinatesAnswer} → Placed c r → Placed c r' → r ≡ r'
placed_one x y = λ i. record { refusal = (x.number ∙ sym y.number) i; at = (x.is ∙ sym y.is) i }

placed_some : (c : Coordinates) → (r : CoordinatesAnswer) × Placed c r
placed_some c = (record { refusal = 0; at = c }, record { number = refl; is = refl })

pub place_one : (t : TriangleCode) (i : ℕ) (r r' : CoordinatesAnswer)
    → PlaceAnswer t i r → PlaceAnswer t i r' → r ≡ r'
place_one t i r r' = answer_one (λ z x y. placed_one x y)

pub place_some : (t : TriangleCode) (i : ℕ) → (r : CoordinatesAnswer) × PlaceAnswer t i r
place_some t i =
    let c = exact (corner t i) in
    answer_some (refuse_numbered t i) (Placed c) no_coordinates (λ z. placed_some c)

pub name_place_one : (q : CornerName) (r r' : CoordinatesAnswer)
    → NamePlaceAnswer q r → NamePlaceAnswer q r' → r ≡ r'
name_place_one q r r' = answer_one (λ z x y. placed_one x y)

pub name_place_some : (q : CornerName) → (r : CoordinatesAnswer) × NamePlaceAnswer q r
name_place_some q =
    let c = exact (named q) in
    answer_some (check_name q) (Placed c) no_coordinates (λ z. placed_some c)

-- ---- t

pub ticks_one : {c : Coordinates} {r r' : Ticks} → AreTicks c r → AreTicks c r' → r ≡ r'
ticks_one {c} a b = λ i. record {
  x = t_one c.x a.x b.x i;
  y = t_one c.y a.y b.y i;
  z = t_one c.z a.z b.z i;
}

ticks_some : (c : Coordinates) → (r : Ticks) × AreTicks c r
ticks_some c =
    let a = t_some c.x in
    let b = t_some c.y in
    let d = t_some c.z in
    (record { x = a.0; y = b.0; z = d.0 }, record { x = a.1; y = b.1; z = d.1 })

ticked_one : {c : Coordinates} {r r' : TicksAnswer} → Ticked c r → Ticked c r' → r ≡ r'
ticked_one x y = λ i. record { refusal = (x.number ∙ sym y.number) i; at = ticks_one x.are y.are i }

ticked_some : (c : Coordinates) → (r : TicksAnswer) × Ticked c r
ticked_some c =
    let a = ticks_some c in
    (record { refusal = 0; at = a.0 }, record { number = refl; are = a.1 })

pub tick_answer_one : (t : TriangleCode) (i : ℕ) (r r' : TicksAnswer)
    → TickAnswer t i r → TickAnswer t i r' → r ≡ r'
tick_answer_one t i r r' = answer_one (λ z x y. ticked_one x y)

pub tick_answer_some : (t : TriangleCode) (i : ℕ) → (r : TicksAnswer) × TickAnswer t i r
tick_answer_some t i =
    let c = exact (corner t i) in
    answer_some (refuse_numbered t i) (Ticked c) no_ticks (λ z. ticked_some c)

pub name_tick_one : (q : CornerName) (r r' : TicksAnswer)
    → NameTickAnswer q r → NameTickAnswer q r' → r ≡ r'
name_tick_one q r r' = answer_one (λ z x y. ticked_one x y)

pub name_tick_some : (q : CornerName) → (r : TicksAnswer) × NameTickAnswer q r
name_tick_some q =
    let c = exact (named q) in
    answer_some (check_name q) (Ticked c) no_ticks (λ z. ticked_some c)

-- ---- drawn points

drawn_one : (n : ℕ) (a : Golden) {r r' : Float} → IsDrawn n a r → IsDrawn n a r' → r ≡ r'
drawn_one n a {r} x y =
    let e : x.0 ≡ y.0 = t_one a x.1 y.1 in
    one_fraction (divisor_pos n) (subst (λ (t : ℤ). IsFraction r t (65536 * 2 ^ n)) e x.2) y.2

drawn_some : (n : ℕ) (a : Golden) → n ≤ 24 → Below (2 ^ 26 + 1) a → (r : Float) × IsDrawn n a r
drawn_some n a l b =
    let t = t_some a in
    let r = div binary64 (of_int binary64 t.0) (of_int binary64 (pos (65536 * 2 ^ n))) in
    (r, (t.0, t.1, divided t.0 n (omega (arith, t_small b t.1)) l))

pub point_one : {n : ℕ} {c : Coordinates} {r r' : Point} → IsPoint n c r → IsPoint n c r' → r ≡ r'
point_one {n} {c} a b = λ i. record {
  x = drawn_one n c.x a.x b.x i;
  y = drawn_one n c.y a.y b.y i;
  z = drawn_one n c.z a.z b.z i;
}

point_some : (n : ℕ) (c : Coordinates) → n ≤ 24 → Small c → (r : Point) × IsPoint n c r
point_some n c l s =
    let a = drawn_some n c.x l s.x in
    let b = drawn_some n c.y l s.y in
    let d = drawn_some n c.z l s.z in
    (record { x = a.0; y = b.0; z = d.0 }, record { x = a.1; y = b.1; z = d.1 })

pointed_one : {n : ℕ} {c : Coordinates} {r r' : PointAnswer} → Pointed n c r → Pointed n c r' → r ≡ r'
pointed_one x y = λ i. record { refusal = (x.number ∙ sym y.number) i; at = point_one x.is y.is i }

pointed_some : (n : ℕ) (p : Weights) → n ≤ 24 → Twelve p → (r : PointAnswer) × Pointed n (exact p) r
pointed_some n p l t =
    let a = point_some n (exact p) l (exact_small t) in
    (record { refusal = 0; at = a.0 }, pointed _ l (exact_small t) refl a.1)

pub draw_one : (t : TriangleCode) (i : ℕ) (r r' : PointAnswer)
    → DrawAnswer t i r → DrawAnswer t i r' → r ≡ r'
draw_one t i r r' = answer_one (λ z x y. pointed_one x y)

pub draw_some : (t : TriangleCode) (i : ℕ) → (r : PointAnswer) × DrawAnswer t i r
draw_some t i =
    answer_some (refuse_numbered t i) (Pointed (degree_of t.0) (exact (corner t i))) no_point
    (λ z. pointed_some (degree_of t.0) (corner t i) (numbered_degree t i z) (numbered_twelve t i z))

pub name_draw_one : (q : CornerName) (r r' : PointAnswer)
    → NameDrawAnswer q r → NameDrawAnswer q r' → r ≡ r'
name_draw_one q r r' = answer_one (λ z x y. pointed_one x y)

pub name_draw_some : (q : CornerName) → (r : PointAnswer) × NameDrawAnswer q r
name_draw_some q =
    answer_some (check_name q) (Pointed (degree_of q.0) (exact (named q))) no_point
    (λ z. pointed_some (degree_of q.0) (named q) (name_degree q z) (name_twelve q z))
