-- A corner that is no pole is corner 2 of just one domain of orientation 0. In which side that lies is told by the
-- vertices at which the corner has weight, and so by tables over the sides: no two sides, some side or a pole, and no
-- pole. Assumes nothing.
use mathlib.Core.Path.{◌≡◌, ◌∙◌, refl, sym, ap}
use mathlib.Core.Logic.{◌⊎◌, inl, inr, ⊎_elim}
use mathlib.Core.Bool.{true}
use mathlib.Core.List.{List, [], ◌∷◌}
use Prim.Native.Nat.{ℕ, zero, suc, ◌+◌, ◌%◌, ◌≤◌, ◌<◌}
use native.Mathlib.Omega.{arith}
use lib.ListN.{get_or, length}
use borrow.Author.Tests.{le-leb}
use Rattle.net.specs.Sides.{IsSide, OneToThree, corner_vertex}
use Rattle.net.specs.Division.{corner_of}
use Rattle.net.specs.Refusals.{on_side}
use Rattle.net.specs.Means.Spreads.{point_in, sign, spread, weight_at}
use Rattle.net.specs.Means.States.{point_of, state_of, step}
use Rattle.net.specs.declared.Point.{Point}
use Rattle.net.specs.declared.State.{State}
use Rattle.net.specs.declared.State.TheVariants.{Down, Up}
use Rattle.net.proofs.Halving.{one_list}
use Rattle.net.proofs.Loads.{at_vertex, corner_is, same_weights, spread_one}
use Rattle.net.proofs.Loads.{weight, weight_has, weight_other, weight_own}
use Rattle.net.proofs.Paths.{Digits}
use Rattle.net.proofs.Rings.{sign_low, sign_pos}
use Rattle.net.proofs.SharedVertices.{HasVertex, has_or_not, has_vertex, vertex_small}
use Rattle.net.proofs.Spread.{same_point}
use Rattle.net.proofs.StateCode.{on_too}
use Rattle.net.proofs.StateCorners.{down_same, up_same}
use Rattle.net.proofs.Table.{
  Test,
  ◌and◌,
  ◌or◌,
  ◌then◌,
  below,
  either_way,
  less,
  no,
  same,
  sides,
  some,
  sound,
  three,
}
use Rattle.notation.specs.Means.Directions.{turned, side_turn, orientation, is_base, base_state}
use Rattle.notation.proofs.Computing.{base_some, base_up, state_down, state_up, weight_up, weights_down}
use Rattle.notation.proofs.Directions.{turned_low}

-- ---- which way a triangle points in its side: 0 up, 1 down

abbrev pub way : State → ℕ
way (Up x y z) = 0
way (Down x y z) = 1

way_low : (a : State) → way a ≤ 1
way_low (Up x y z) = omega arith
way_low (Down x y z) = omega arith

way_step : (r : ℕ) (a : State) → way (step r a) ≡ turned r (way a)
way_step zero (Up x y z) = refl
way_step zero (Down x y z) = refl
way_step (suc zero) (Up x y z) = refl
way_step (suc zero) (Down x y z) = refl
way_step (suc (suc zero)) (Up x y z) = refl
way_step (suc (suc zero)) (Down x y z) = refl
way_step (suc (suc (suc r))) (Up x y z) = refl
way_step (suc (suc (suc r))) (Down x y z) = refl

turn_over : (r o w : ℕ) → o ≤ 1 → w ≤ 1 → (turned r o + w) % 2 ≡ (o + turned r w) % 2
turn_over zero o w l m = omega arith
turn_over (suc r) o w l m = refl

side_turn_lem : (ds : List ℕ) (o : ℕ) → o ≤ 1 → side_turn o ds ≡ (o + way (state_of ds)) % 2
unfolding side_turn state_of
side_turn_lem [] o l = omega arith
side_turn_lem (r ∷ ds) o l =
    side_turn_lem ds (turned r o) (turned_low r o l) ∙ turn_over r o (way (state_of ds)) l (way_low (state_of ds))
    ∙ ap (λ (w : ℕ). (o + w) % 2) (sym (way_step r (state_of ds)))

-- a triangle of a side has orientation 0 where it points as the side does
pub side_turn_way : (ds : List ℕ) → side_turn 0 ds ≡ way (state_of ds)
side_turn_way ds = side_turn_lem ds 0 (omega arith) ∙ omega (arith, way_low (state_of ds))

-- ---- its corner 2

orientation_low : (s : ℕ) → orientation s ≤ 1
orientation_low s = omega arith

pub state_base : (s : ℕ) (a : State) → way a ≡ orientation s
    → (is_base s (point_of 2 a) ≡ true) × (base_state s (point_of 2 a) ≡ a)
state_base s (Up x y z) e =
    let p = point_of 2 (Up x y z) in (
      sym (base_up s p e refl) ∙ le-leb 1 (suc y) (omega arith),
      sym (state_up s p e refl) ∙ up_same refl (omega arith) refl,
    )
state_base s (Down x y z) e =
    let p = point_of 2 (Down x y z) in
    let f : ◌≡◌ {A = ℕ} 1 0 → ⊥ = λ g. omega arith in (
      sym (base_some s p e f (λ g. omega arith)) ∙ le-leb 1 (suc z) (omega arith),
      sym (state_down s p e f) ∙ down_same (omega arith) refl (omega arith),
    )

pub record Base (s : ℕ) (p : Point) : Type 0 where
  pub corner : point_of 2 (base_state s p) ≡ p
  pub points : way (base_state s p) ≡ orientation s

pub base_state_lem : (s : ℕ) (p : Point) → is_base s p ≡ true → Base s p
base_state_lem s p h = ⊎_elim up down (either_way (same (orientation s) 0))
  where
    up : orientation s ≡ 0 → Base s p
    up e =
        let k = weight_up s p refl e h in
        let f = sym (state_up s p refl e) in
        record {
          corner = ap (point_of 2) f ∙ same_point _ _ refl (omega (arith, k)) refl;
          points = ap way f ∙ sym e;
        }

    down : (orientation s ≡ 0 → ⊥) → Base s p
    down e =
        let k = weights_down s p refl e h in
        let f = sym (state_down s p refl e) in
        record {
          corner = ap (point_of 2) f ∙ same_point _ _ (omega (arith, k.0)) refl (omega (arith, k.1));
          points = ap way f ∙ omega (arith, e, orientation_low s);
        }

-- the corners of its side at which it has weight
abbrev Needs : (o : ℕ) → (ℕ → Type 0) → Type 0
Needs o P = ((o ≡ 0) × P 2) ⊎ ((o ≡ 1) × (P 1 × P 3))

base_needs : (s : ℕ) (p : Point) → is_base s p ≡ true → Needs (orientation s) (λ i. 1 ≤ weight i p)
base_needs s p h =
    ⊎_elim (λ e. inl (e, weight_up s p refl e h))
    (λ e. inr (omega (arith, e, orientation_low s), weights_down s p refl e h))
    (either_way (same (orientation s) 0))

needs_base : (s : ℕ) (p : Point) → Needs (orientation s) (λ i. 1 ≤ weight i p) → is_base s p ≡ true
needs_base s p (inl x) = sym (base_up s p refl x.0) ∙ le-leb 1 p.w2 x.1
needs_base s p (inr x) =
    let f : orientation s ≡ 0 → ⊥ = λ g. omega (arith, x.0, g) in
    let k = x.1.0 in
    sym (base_some s p refl f (λ g. omega (arith, k, g))) ∙ le-leb 1 p.w3 x.1.1

-- ---- no two sides

abbrev needs : (o : ℕ) → (ℕ → Test) → Test
needs o f = (same o 0 and f 2) or (same o 1 and f 1 and f 3)

abbrev Meets : (s t : ℕ) → Type 0
Meets s t = Needs (orientation s) (λ i. HasVertex t (corner_vertex s i))

abbrev meets : (s t : ℕ) → Test
meets s t = needs (orientation s) (λ i. has_vertex t (corner_vertex s i))

one_side : (s : ℕ) → IsSide s → (t : ℕ) → IsSide t → Meets s t → Meets t s → s ≡ t
unfolding corner_vertex
one_side = sound (sides λ s. sides λ t. meets s t then meets t s then same s t) refl

-- the vertices at which a base vertex of s has weight are vertices of t, where it lies on t
base_meets : (s t : ℕ) (p q : Point) → IsSide s → spread s p ≡ spread t q → is_base s p ≡ true → Meets s t
base_meets s t p q h e b =
    let has = weight_has s t p q h e in
    ⊎_elim (λ x. inl (x.0, has 2 (omega arith) x.1))
    (λ x. inr (x.0, (has 1 (omega arith) x.1.0, has 3 (omega arith) x.1.1)))
    (base_needs s p b)

-- two domains of orientation 0 with the same corner 2 are one
pub one_zeroth : (s t : ℕ) (ds es : List ℕ) → IsSide s → IsSide t → Digits ds → Digits es → length ds ≡ length es
    → side_turn 0 ds ≡ orientation s → side_turn 0 es ≡ orientation t → corner_of s ds 2 ≡ corner_of t es 2
    → (s ≡ t) × (ds ≡ es)
one_zeroth s t ds es hs ht hd he n f g e =
    let p = point_of 2 (state_of ds) in
    let q = point_of 2 (state_of es) in
    let z : spread s p ≡ spread t q = sym (corner_is s ds 2) ∙ e ∙ corner_is t es 2 in
    let a = state_base s (state_of ds) (sym (side_turn_way ds) ∙ f) in
    let b = state_base t (state_of es) (sym (side_turn_way es) ∙ g) in
    let k = one_side s hs t ht (base_meets s t p q hs z a.0) (base_meets t s q p ht (sym z) b.0) in
    let y : p ≡ q = spread_one s p q hs (z ∙ ap (λ (u : ℕ). spread u q) (sym k)) in
    let c : state_of ds ≡ state_of es = sym a.1 ∙ (λ i. base_state (k i) (y i)) ∙ b.1 in
    (k, one_list ds es n hd he c)

-- ---- and one, or a pole

-- the vertex v is that of a corner i of s with x, y or z, whichever i names, not 0
abbrev Loaded : (s x y z v : ℕ) → Type 0
Loaded s x y z v =
    ((x ≡ 1) × (v ≡ corner_vertex s 1)) ⊎ ((y ≡ 1) × (v ≡ corner_vertex s 2)) ⊎ ((z ≡ 1) × (v ≡ corner_vertex s 3))

abbrev loaded : (s x y z v : ℕ) → Test
loaded s x y z v =
    (same x 1 and same v (corner_vertex s 1)) or (same y 1 and same v (corner_vertex s 2))
    or (same z 1 and same v (corner_vertex s 3))

abbrev Serves : (s x y z t : ℕ) → Type 0
Serves s x y z t =
    (x ≡ 1 → HasVertex t (corner_vertex s 1)) × ((y ≡ 1 → HasVertex t (corner_vertex s 2))
    × ((z ≡ 1 → HasVertex t (corner_vertex s 3)) × Needs (orientation t) (λ i. Loaded s x y z (corner_vertex t i))))

abbrev serves : (s x y z t : ℕ) → Test
serves s x y z t =
    (same x 1 then has_vertex t (corner_vertex s 1)) and (same y 1 then has_vertex t (corner_vertex s 2))
    and (same z 1 then has_vertex t (corner_vertex s 3))
    and needs (orientation t) (λ i. loaded s x y z (corner_vertex t i))

-- whichever of a side's corners a point has weight at: at none, at a pole alone, or there is such a side
some_side : (s : ℕ) → IsSide s → (x : ℕ) → x < 2 → (y : ℕ) → y < 2 → (z : ℕ) → z < 2
    → ((x ≡ 0) × ((y ≡ 0) × (z ≡ 0))) ⊎ ((corner_vertex s 1 < 2) × ((y ≡ 0) × (z ≡ 0)))
    ⊎ ((j : ℕ) × (j < 20) × Serves s x y z (4 + j))
unfolding corner_vertex
some_side =
    sound
    (sides λ s. below 2 λ x. below 2 λ y. below 2 λ z.
    (same x 0 and same y 0 and same z 0) or (less (corner_vertex s 1) 2 and same y 0 and same z 0)
    or some 20 λ j. serves s x y z (4 + j)) refl

sign_some : (x : ℕ) → sign x ≡ 1 → 1 ≤ x
sign_some zero e = absurd (omega (arith, e))
sign_some (suc x) e = omega arith

sign_none : (x : ℕ) → sign x ≡ 0 → x ≡ 0
sign_none zero e = refl
sign_none (suc x) e = absurd (omega (arith, e))

-- the corner is a pole
pub record Polar (s : ℕ) (p : Point) : Type 0 where
  pub first : corner_vertex s 1 < 2
  pub second : p.w2 ≡ 0
  pub third : p.w3 ≡ 0

-- t is the side of its domain
pub record BaseIn (P : List ℕ) (t : ℕ) : Type 0 where
  pub a_side : IsSide t
  pub lies : on_side t 0 P ≡ true
  pub based : is_base t (point_in t P) ≡ true

module _ (s : ℕ) (p : Point) (h : IsSide s) where
  abbrev P : List ℕ
  P = spread s p

  load_there : (v : ℕ) → v < 12 → Loaded s (sign p.w1) (sign p.w2) (sign p.w3) v → 1 ≤ get_or P v 0
  load_there v l =
      ⊎_elim (λ x. at 1 (omega arith) (sign_some p.w1 x.0) x.1)
      (⊎_elim (λ x. at 2 (omega arith) (sign_some p.w2 x.0) x.1)
      (λ x. at 3 (omega arith) (sign_some p.w3 x.0) x.1))
    where
      at : (i : ℕ) → OneToThree i → 1 ≤ weight i p → v ≡ corner_vertex s i → 1 ≤ get_or P v 0
      at i m k e = omega (arith, k, at_vertex s p v l ∙ ap (weight_at s p) e ∙ weight_own s p h i m)

  serves_base : (t : ℕ) → IsSide t → Serves s (sign p.w1) (sign p.w2) (sign p.w3) t → BaseIn P t
  serves_base t ht x =
      record {
        a_side = ht;
        lies = on_too s t p h (three (λ i. 1 ≤ weight i p → HasVertex t (corner_vertex s i))
            (λ w. x.0 (sign_pos p.w1 w)) (λ w. x.1.0 (sign_pos p.w2 w))
            (λ w. x.1.1.0 (sign_pos p.w3 w)));
        based = needs_base t (point_in t P)
            (⊎_elim (λ y. inl (y.0, there 2 (omega arith) y.1))
            (λ y. inr (y.0, (there 1 (omega arith) y.1.0, there 3 (omega arith) y.1.1)))
            x.1.1.1);
      }
    where
      there : (i : ℕ) → OneToThree i → Loaded s (sign p.w1) (sign p.w2) (sign p.w3) (corner_vertex t i)
          → 1 ≤ get_or P (corner_vertex t i) 0
      there i l = load_there (corner_vertex t i) (vertex_small t ht i l)

  pub side_some : 1 ≤ p.w1 + p.w2 + p.w3 → Polar s p ⊎ ((t : ℕ) × BaseIn P t)
  side_some l =
      ⊎_elim
      (λ x. absurd
      (omega (arith, l, sign_none p.w1 x.0, sign_none p.w2 x.1.0, sign_none p.w3 x.1.1)))
      (⊎_elim
      (λ x. inl (record {
        first = x.0;
        second = sign_none p.w2 x.1.0;
        third = sign_none p.w3 x.1.1;
      }))
      (λ x. inr (4 + x.0, serves_base (4 + x.0) (omega arith, omega (arith, x.1)) x.2)))
      (some_side s h (sign p.w1) (sign_low p.w1) (sign p.w2) (sign_low p.w2) (sign p.w3)
      (sign_low p.w3))

-- ---- no pole is such a corner

ring_vertex : (s : ℕ) → IsSide s → Needs (orientation s) (λ i. corner_vertex s i < 2) → ⊥
unfolding corner_vertex
ring_vertex = sound (sides λ s. no (needs (orientation s) (λ i. less (corner_vertex s i) 2))) refl

-- a pole has weight at no other vertex
pub polar_weight : (s : ℕ) (p : Point) → IsSide s → Polar s p → (v : ℕ) → 1 ≤ weight_at s p v → v ≡ corner_vertex s 1
polar_weight s p h x v l =
    ⊎_elim
    (⊎_elim (λ e. e)
    (⊎_elim (λ e. absurd (omega (arith, l, ap (weight_at s p) e ∙ weight_own s p h 2 (omega arith), x.second)))
    (λ e. absurd (omega (arith, l, ap (weight_at s p) e ∙ weight_own s p h 3 (omega arith), x.third)))))
    (λ f. absurd (omega (arith, l, weight_other s v p f)))
    (has_or_not s v)

pub base_not_polar : (s t : ℕ) (p q : Point) → IsSide s → IsSide t → Polar s p → is_base t q ≡ true
    → spread t q ≡ spread s p → ⊥
base_not_polar s t p q hs ht x b e =
    ring_vertex t ht
    (⊎_elim (λ y. inl (y.0, low 2 (omega arith) y.1))
    (λ y. inr (y.0, (low 1 (omega arith) y.1.0, low 3 (omega arith) y.1.1)))
    (base_needs t q b))
  where
    low : (i : ℕ) → OneToThree i → 1 ≤ weight i q → corner_vertex t i < 2
    low i l k =
        let v = corner_vertex t i in
        let w : weight_at s p v ≡ weight i q =
        sym (same_weights t s q p e v (vertex_small t ht i l)) ∙ weight_own t q ht i l in
        omega (arith, polar_weight s p hs x v (omega (arith, w, k)), x.first)
