-- The paper's vertices are our corners: each vertex's code has a corner, each corner has a code, and no two codes of
-- one degree have the same corner ("an unique (absolute) denotation of vertices"). Assumes nothing.
use mathlib.Core.Path.{◌≡◌, ◌∙◌, refl, sym, ap, subst}
use mathlib.Core.Logic.{◌⊎◌, inl, inr, ⊎_elim}
use mathlib.Core.Bool.{true, ◌&&◌, true≢false}
use mathlib.Core.List.{List, [], ◌∷◌, reverse, reverse-reverse}
use Prim.Native.Nat.{ℕ, zero, suc, ◌+◌, ◌*◌, ◌-◌, ◌/◌, ◌%◌, ◌^◌, ◌≤◌, ◌<◌}
use native.Mathlib.Omega.{arith}
use lib.Dec.{eqb, leb}
use lib.ListN.{length}
use lib.Pow.{pow_pos}
use borrow.Author.Tests.{eqb-true, le-leb, leb-true}
use Rattle.words.specs.Words.{corner_number, degree_of, side_of}
use Rattle.words.specs.declared.CornerName.{CornerName}
use Rattle.words.specs.Refusals.{IsCode}
use Rattle.words.proofs.Codes.{code_side}
use Rattle.words.proofs.Digits.{AreDigits, none, more}
use Rattle.net.specs.Sides.{IsSide, OneToThree, corner_vertex}
use Rattle.net.specs.Division.{Weights, corner_of, kept, load, sum, triangle_at}
use Rattle.net.specs.Division as division
use Rattle.net.specs.Corners.{code_inside}
use Rattle.net.specs.Names.{IsName}
use Rattle.net.specs.Means.Spreads.{point_in, spread, weight_at}
use Rattle.net.specs.Means.States.{point, point_of, state_of, step}
use Rattle.net.specs.declared.Point.{Point}
use Rattle.net.specs.declared.State.TheVariants.{Up}
use Rattle.net.proofs.Canonical.{and_true, name_passes_all}
use Rattle.net.proofs.CodePlaces.{code_for, corner_at, digits_in, for_code, for_corner, in_length}
use Rattle.net.proofs.Demand3.{one_name_each}
use Rattle.net.proofs.Loads.{corner_is, sum_spread, weight_has}
use Rattle.net.proofs.Names.{one_name}
use Rattle.net.proofs.Paths.{are_digits_lem, are_length}
use Rattle.net.proofs.SharedVertices.{HasVertex, has_vertex}
use Rattle.net.proofs.Spread.{each_same, load_zero, same_point}
use Rattle.net.proofs.Reach.{reach}
use Rattle.net.proofs.StateCode.{spread_length, spread_of}
use Rattle.net.proofs.StateCorners.{up_same}
use Rattle.net.proofs.Table.{◌then◌, below, same, sides, sound}
use Rattle.net.proofs.Totals.{point_total, total, total_is}
use Rattle.notation.specs.Domains.{is_a, is_bit, are_digits, at}
use Rattle.notation.specs.Vertices.{are_zeros, is_vertex, kept_by}
use Rattle.notation.specs.Vertices as vertices
use Rattle.notation.specs.Same.{SameVertex}
use Rattle.notation.specs.Means.Directions.{parts, directions, side_turn, orientation, base_side, base_state, is_base}
use Rattle.notation.proofs.Domains.{are_reverse, reverse_digits, reverse_one}
use Rattle.notation.proofs.Directions.{directions_digits, directions_parts, parts_digits, parts_directions}
use Rattle.notation.proofs.Directions.{side_turn_low}
use Rattle.notation.proofs.Pairs.{point_is, side_by}
use Rattle.notation.proofs.Reading.{reverse_long}
use Rattle.notation.proofs.BaseSides.{BaseIn, Polar, base_not_polar, base_state_lem, one_zeroth, side_some}
use Rattle.notation.proofs.BaseSides.{side_turn_way, state_base, way}

-- ---- poles

-- the pole of p at degree n, as corner 1 of the side 1p0 with the digits 1, 1, ..
abbrev pub ones : ℕ → List ℕ
ones zero = []
ones (suc n) = 1 ∷ ones n

abbrev pub pole_side : ℕ → ℕ
pole_side p = 4 + 2 * p

pub ones_digits : (n : ℕ) → AreDigits n (ones n)
ones_digits zero = none
ones_digits (suc n) = more {d = 1} (omega arith) (ones_digits n)

ones_state : (n : ℕ) → state_of (ones n) ≡ Up (2 ^ n - 1) 0 0
unfolding state_of
ones_state zero = refl
ones_state (suc n) =
    ap (step 1) (ones_state n)
    ∙ up_same (omega (arith, pow_pos n)) (omega arith) (omega arith)

pub pole_spread : (p n : ℕ) → corner_of (pole_side p) (ones n) 1 ≡ spread (pole_side p) (point (2 ^ n) 0 0)
pole_spread p n =
    corner_is (pole_side p) (ones n) 1 ∙ ap (λ a. spread (pole_side p) (point_of 1 a)) (ones_state n)
    ∙ ap (λ (x : ℕ). spread (pole_side p) (point x 0 0)) (omega (arith, pow_pos n))

at_pole : (p : ℕ) → p ≤ 1 → at 0 p ≡ corner_of (pole_side p) [] 1
unfolding corner_of triangle_at corner_vertex
at_pole zero h = refl
at_pole (suc zero) h = refl
at_pole (suc (suc p)) h = absurd (omega arith)

kept_pole : (s n : ℕ) → kept (corner_of s (ones n) 1) ≡ corner_of s (ones (suc n)) 1
unfolding corner_of triangle_at
kept_pole s n = refl

kept_by_lem : (s m : ℕ) (ss : List ℕ) → kept_by ss (corner_of s (ones m) 1) ≡ corner_of s (ones (length ss + m)) 1
unfolding kept_by
kept_by_lem s m [] = let e : m ≡ 0 + m = omega arith in ap (λ (n : ℕ). corner_of s (ones n) 1) e
kept_by_lem s m (x ∷ ss) =
    let e : length ss + suc m ≡ suc (length ss) + m = omega arith in
    ap (kept_by ss) (kept_pole s m) ∙ kept_by_lem s (suc m) ss ∙ ap (λ (n : ℕ). corner_of s (ones n) 1) e

pole_point : (p : ℕ) (ss : List ℕ) → p ≤ 1 → vertices.point (0 ∷ p ∷ ss) ≡ corner_of (pole_side p) (ones (length ss)) 1
pole_point p ss h =
    let e : length ss + 0 ≡ length ss = omega arith in
    ap (kept_by ss) (at_pole p h) ∙ kept_by_lem (pole_side p) 0 ss ∙ ap (λ (n : ℕ). corner_of (pole_side p) (ones n) 1) e

pole_vertex : (p : ℕ) → p < 2 → corner_vertex (pole_side p) 1 ≡ p
unfolding corner_vertex
pole_vertex = sound (below 2 λ p. same (corner_vertex (pole_side p) 1) p) refl

pole_polar : (p x : ℕ) → p ≤ 1 → Polar (pole_side p) (point x 0 0)
pole_polar p x h = record { first = rw (pole_vertex p (omega arith)) (omega arith); second = refl; third = refl }

-- ---- a vertex's code, read

record Pole (xs : List ℕ) : Type 0 where
  p : ℕ
  ss : List ℕ
  is : xs ≡ 0 ∷ p ∷ ss
  p_ok : p ≤ 1
  ss_ok : are_zeros ss ≡ true

record Ring (xs : List ℕ) : Type 0 where
  a : ℕ
  p : ℕ
  ss : List ℕ
  is : xs ≡ suc a ∷ p ∷ ss
  a_ok : a ≤ 4
  p_ok : p ≤ 1
  ss_ok : are_digits ss ≡ true

read : (xs : List ℕ) → is_vertex xs ≡ true → Pole xs ⊎ Ring xs
read [] h = absurd (true≢false (sym h))
read (a ∷ []) h = absurd (true≢false (sym h))
read (zero ∷ p ∷ ss) h =
    let x = (and_true (is_bit p) (are_zeros ss)).0 h in
    inl (record { p = p; ss = ss; is = refl; p_ok = leb-true p 1 x.0; ss_ok = x.1 })
read (suc a ∷ p ∷ ss) h =
    let x = (and_true (is_a (suc a)) (is_bit p && are_digits ss)).0 h in
    let y = (and_true (is_bit p) (are_digits ss)).0 x.1 in
    let z = leb-true (suc a) 5 ((and_true (leb 1 (suc a)) (leb (suc a) 5)).0 x.0).1 in
    inr (record {
      a = a;
      p = p;
      ss = ss;
      is = refl;
      a_ok = omega (arith, z);
      p_ok = leb-true p 1 y.0;
      ss_ok = y.1;
    })

-- a code that is not polar: the domain σ(0, T)
base_orientation : (a p o : ℕ) → p ≤ 1 → o ≤ 1 → orientation (base_side a p o) ≡ o
base_orientation a zero zero h k = omega arith
base_orientation a zero (suc zero) h k = omega arith
base_orientation a zero (suc (suc o)) h k = absurd (omega arith)
base_orientation a (suc zero) zero h k = omega arith
base_orientation a (suc zero) (suc zero) h k = omega arith
base_orientation a (suc zero) (suc (suc o)) h k = absurd (omega arith)
base_orientation a (suc (suc p)) o h k = absurd (omega arith)

module _ (xs : List ℕ) (x : Ring xs) where
  abbrev ts : List ℕ
  ts = reverse x.ss

  abbrev ring_digits : List ℕ
  ring_digits = parts 0 ts

  abbrev ring_side : ℕ
  ring_side = side_by (suc x.a) x.p 0 ts

  low : side_turn 0 ring_digits ≤ 1
  low = side_turn_low ring_digits 0 (omega arith)

  ts_digits : AreDigits (length x.ss) ts
  ts_digits =
      let e : length x.ss + 0 ≡ length x.ss = omega arith in
      subst (λ (m : ℕ). AreDigits m ts) e (reverse_digits x.ss x.ss_ok none)

  ring_digits_lem : AreDigits (length x.ss) ring_digits
  ring_digits_lem = parts_digits 0 ts ts_digits

  ring_side_lem : IsSide ring_side
  ring_side_lem = (omega (arith, low, x.p_ok), omega (arith, low, x.p_ok, x.a_ok))

  ring_turn : side_turn 0 ring_digits ≡ orientation ring_side
  ring_turn = sym (base_orientation (suc x.a) x.p (side_turn 0 ring_digits) x.p_ok low)

  ring_point : vertices.point xs ≡ corner_of ring_side ring_digits 2
  ring_point = ap vertices.point x.is ∙ point_is x.a x.p x.ss x.p_ok

  ring_length : length xs ≡ 2 + length x.ss
  ring_length = ap length x.is ∙ omega arith

  ring_base : is_base ring_side (point_of 2 (state_of ring_digits)) ≡ true
  ring_base = (state_base ring_side (state_of ring_digits) (sym (side_turn_way ring_digits) ∙ ring_turn)).0

-- ---- to our words: there is a name, and no other

name_at : (n s : ℕ) (ds : List ℕ) (i : ℕ) → n ≤ 24 → IsSide s → AreDigits n ds → OneToThree i
    → (r : CornerName) × IsName n (corner_of s ds i) r
name_at n s ds i h a d l =
    let m : length ds ≡ n = are_length d in
    let k : length ds ≤ 24 = omega (arith, m, h) in
    let c = subst (λ (m : ℕ). IsCode m (code_for s ds)) m (for_code s ds a (are_digits_lem d) k) in
    let x = one_name_each n (code_for s ds) i c l in
    (x.0, subst (λ (w : Weights). IsName n w x.0) (for_corner s ds a (are_digits_lem d) k i) x.1)

pole_side_lem : (p : ℕ) → p ≤ 1 → IsSide (pole_side p)
pole_side_lem p h = (omega arith, omega arith)

point_name : (xs : List ℕ) → is_vertex xs ≡ true → length xs ≤ 26
    → (n : ℕ) × (length xs ≡ 2 + n) × ((r : CornerName) × IsName n (vertices.point xs) r)
point_name xs h l =
    ⊎_elim
    (λ x.
    let n = length x.ss in
    let e : length xs ≡ 2 + n = ap length x.is ∙ omega arith in
    let y = name_at n (pole_side x.p) (ones n) 1 (omega (arith, e)) (pole_side_lem x.p x.p_ok) (ones_digits n)
    (omega arith) in
    let f = ap vertices.point x.is ∙ pole_point x.p x.ss x.p_ok in
    (n, e, (y.0, subst (λ (w : Weights). IsName n w y.0) (sym f) y.1)))
    (λ x.
    let n = length x.ss in
    let e = ring_length xs x in
    let y = name_at n (ring_side xs x) (ring_digits xs x) 2 (omega (arith, e)) (ring_side_lem xs x) (ring_digits_lem xs x)
    (omega arith) in
    (n, e, (y.0, subst (λ (w : Weights). IsName n w y.0) (sym (ring_point xs x)) y.1)))
    (read xs h)

pub vertex_some : (xs : List ℕ) → is_vertex xs ≡ true → length xs ≤ 26
    → (r : CornerName) × SameVertex (degree_of r.0) xs r
vertex_some xs h l =
    let x = point_name xs h l in
    let r = x.2.0 in
    let d : degree_of r.0 ≡ x.0 = (name_passes_all x.2.1).1 in (
      r,
      record {
        allowed = h;
        degree = x.1 ∙ ap (λ (n : ℕ). 2 + n) (sym d);
        name = subst (λ (n : ℕ). IsName n (vertices.point xs) r) (sym d) x.2.1;
      },
    )

pub vertex_name : {m n : ℕ} {xs : List ℕ} {r q : CornerName} → SameVertex m xs r → SameVertex n xs q → r ≡ q
vertex_name {m} {n} {xs} {r} x y =
    let e : m ≡ n = omega (arith, x.degree, y.degree) in
    one_name (subst (λ (m : ℕ). IsName m (vertices.point xs) r) e x.name) y.name

-- ---- to the paper: no two lists

zeros_one : (ss ts : List ℕ) → are_zeros ss ≡ true → are_zeros ts ≡ true → length ss ≡ length ts → ss ≡ ts
zeros_one [] [] h k l = refl
zeros_one [] (t ∷ ts) h k l = absurd (omega arith)
zeros_one (s ∷ ss) [] h k l = absurd (omega arith)
zeros_one (s ∷ ss) (t ∷ ts) h k l =
    let x = (and_true (eqb s 0) (are_zeros ss)).0 h in
    let y = (and_true (eqb t 0) (are_zeros ts)).0 k in
    let e = eqb-true s 0 x.0 ∙ sym (eqb-true t 0 y.0) in
    λ i. e i ∷ zeros_one ss ts x.1 y.1 (omega arith) i

-- the two poles are apart
poles_apart : (p : ℕ) → p < 2 → (q : ℕ) → q < 2 → HasVertex (pole_side q) (corner_vertex (pole_side p) 1) → p ≡ q
unfolding corner_vertex
poles_apart =
    sound (below 2 λ p. below 2 λ q. has_vertex (pole_side q) (corner_vertex (pole_side p) 1) then same p q) refl

pole_one : (p q n : ℕ) → p ≤ 1 → q ≤ 1 → corner_of (pole_side p) (ones n) 1 ≡ corner_of (pole_side q) (ones n) 1 → p ≡ q
pole_one p q n h k e =
    let P = point (2 ^ n) 0 0 in
    let f : spread (pole_side p) P ≡ spread (pole_side q) P = sym (pole_spread p n) ∙ e ∙ pole_spread q n in
    let has = weight_has (pole_side p) (pole_side q) P P (pole_side_lem p h) f 1 (omega arith) (pow_pos n) in
    poles_apart p (omega arith) q (omega arith) has

pole_not_ring : {xs ys : List ℕ} (x : Pole xs) (y : Ring ys) → vertices.point xs ≡ vertices.point ys → ⊥
pole_not_ring {xs} {ys} x y e =
    let n = length x.ss in
    let s = ring_side ys y in
    let q = point_of 2 (state_of (ring_digits ys y)) in
    let f : spread s q ≡ spread (pole_side x.p) (point (2 ^ n) 0 0) =
    sym (ring_point ys y ∙ corner_is s (ring_digits ys y) 2) ∙ sym e ∙ ap vertices.point x.is
    ∙ pole_point x.p x.ss x.p_ok ∙ pole_spread x.p n in
    base_not_polar (pole_side x.p) s (point (2 ^ n) 0 0) q (pole_side_lem x.p x.p_ok) (ring_side_lem ys y)
    (pole_polar x.p (2 ^ n) x.p_ok) (ring_base ys y) f

two_poles : {xs ys : List ℕ} (x : Pole xs) (y : Pole ys) → length xs ≡ length ys
    → vertices.point xs ≡ vertices.point ys → xs ≡ ys
two_poles {xs} {ys} x y l e =
    let n : length x.ss ≡ length y.ss = omega (arith, ap length x.is, ap length y.is, l) in
    let s = zeros_one x.ss y.ss x.ss_ok y.ss_ok n in
    let f = sym (ap vertices.point x.is ∙ pole_point x.p x.ss x.p_ok) ∙ e ∙ ap vertices.point y.is
    ∙ pole_point y.p y.ss y.p_ok ∙ ap (λ (n : ℕ). corner_of (pole_side y.p) (ones n) 1) (sym n) in
    let p = pole_one x.p y.p (length x.ss) x.p_ok y.p_ok f in
    x.is ∙ (λ i. 0 ∷ p i ∷ s i) ∙ sym y.is

two_rings : {xs ys : List ℕ} (x : Ring xs) (y : Ring ys) → length xs ≡ length ys
    → vertices.point xs ≡ vertices.point ys → xs ≡ ys
two_rings {xs} {ys} x y l e =
    let n : length x.ss ≡ length y.ss = omega (arith, ring_length xs x, ring_length ys y, l) in
    let dx = ring_digits_lem xs x in
    let dy = ring_digits_lem ys y in
    let f = sym (ring_point xs x) ∙ e ∙ ring_point ys y in
    let z = one_zeroth (ring_side xs x) (ring_side ys y) (ring_digits xs x) (ring_digits ys y) (ring_side_lem xs x)
    (ring_side_lem ys y) (are_digits_lem dx) (are_digits_lem dy) (are_length dx ∙ n ∙ sym (are_length dy)) (ring_turn xs x)
    (ring_turn ys y) f in
    let t = sym (parts_directions 0 (ts xs x) (ts_digits xs x)) ∙ ap (directions 0) z.1
    ∙ parts_directions 0 (ts ys y) (ts_digits ys y) in
    let s = (reverse_one x.ss y.ss n t).0 in
    let a : x.a ≡ y.a = omega (arith, z.0, low xs x, low ys y, x.p_ok, y.p_ok) in
    let p : x.p ≡ y.p = omega (arith, z.0, low xs x, low ys y, x.p_ok, y.p_ok) in
    x.is ∙ (λ i. suc (a i) ∷ p i ∷ s i) ∙ sym y.is

pub vertex_list : {n : ℕ} {xs ys : List ℕ} {r : CornerName} → SameVertex n xs r → SameVertex n ys r → xs ≡ ys
vertex_list {n} {xs} {ys} x y =
    let e = sym x.name.there ∙ y.name.there in
    let l = x.degree ∙ sym y.degree in
    ⊎_elim
    (λ a. ⊎_elim (λ b. two_poles a b l e) (λ b. absurd (pole_not_ring a b e)) (read ys y.allowed))
    (λ a. ⊎_elim (λ b. absurd (pole_not_ring b a (sym e))) (λ b. two_rings a b l e) (read ys y.allowed))
    (read xs x.allowed)

-- ---- to the paper: there is a list

-- xs is a code of degree n with the weights P
pub record Spelt (n : ℕ) (xs : List ℕ) (P : Weights) : Type 0 where
  pub allowed : is_vertex xs ≡ true
  pub degree : length xs ≡ 2 + n
  pub there : vertices.point xs ≡ P

pub spelt_same : {n : ℕ} {xs : List ℕ} {P : Weights} {r : CornerName} → Spelt n xs P → IsName n P r → SameVertex n xs r
spelt_same {n} {r = r} x y = record {
  allowed = x.allowed;
  degree = x.degree;
  name = subst (λ (w : Weights). IsName n w r) (sym x.there) y;
}

-- of a pole, whose zeros ss are
pub spelt_pole : (p : ℕ) (ss : List ℕ) → p ≤ 1 → are_zeros ss ≡ true
    → Spelt (length ss) (0 ∷ p ∷ ss) (spread (pole_side p) (point (2 ^ length ss) 0 0))
spelt_pole p ss h z = record {
  allowed = (and_true _ _).1 (le-leb p 1 h, z);
  degree = omega arith;
  there = pole_point p ss h ∙ pole_spread p (length ss);
}

side_is : (t : ℕ) → IsSide t → base_side (t / 4) (t / 2 % 2) (orientation t) ≡ t
side_is = sound (sides λ t. same (base_side (t / 4) (t / 2 % 2) (orientation t)) t) refl

-- of corner 2 of a domain of orientation 0, by the directions ts, the last first
pub spelt_parts : (n a p : ℕ) (ts : List ℕ) → 1 ≤ a → a ≤ 5 → p ≤ 1 → AreDigits n ts
    → Spelt n (a ∷ p ∷ reverse ts) (corner_of (side_by a p 0 ts) (parts 0 ts) 2)
spelt_parts n zero p ts l h k d = absurd (omega arith)
spelt_parts n (suc a) p ts l h k d = record {
  allowed = (and_true _ _).1 (
    (and_true _ _).1 (le-leb 1 (suc a) l, le-leb (suc a) 5 h),
    (and_true _ _).1
        (le-leb p 1 k, are_reverse [] d refl),
  );
  degree = omega (arith, reverse_long ts, are_length d);
  there = point_is a p (reverse ts) k
      ∙ ap (λ (x : List ℕ). corner_of (side_by (suc a) p 0 x) (parts 0 x) 2) (reverse-reverse ts);
}

-- and by the domain's own digits
spelt_by : (n t : ℕ) (es : List ℕ) → IsSide t → AreDigits n es → side_turn 0 es ≡ orientation t
    → Spelt n (t / 4 ∷ t / 2 % 2 ∷ reverse (directions 0 es)) (corner_of t es 2)
spelt_by n t es h d e =
    let ts = directions 0 es in
    let back = directions_parts 0 es d in
    let s : side_by (t / 4) (t / 2 % 2) 0 ts ≡ t =
    ap (λ (ds : List ℕ). base_side (t / 4) (t / 2 % 2) (side_turn 0 ds)) back
    ∙ ap (base_side (t / 4) (t / 2 % 2)) e ∙ side_is t h in
    subst (Spelt n (t / 4 ∷ t / 2 % 2 ∷ reverse ts)) (λ i. corner_of (s i) (back i) 2)
    (spelt_parts n (t / 4) (t / 2 % 2) ts (omega (arith, h.0)) (omega (arith, h.1)) (omega arith)
    (directions_digits 0 es d))

-- of twelve weights, by the side of that domain: es are the digits of its state
pub spelt_base : (n t : ℕ) (P : Weights) (es : List ℕ) → length P ≡ 12 → BaseIn P t → AreDigits n es
    → state_of es ≡ base_state t (point_in t P) → Spelt n (t / 4 ∷ t / 2 % 2 ∷ reverse (directions 0 es)) P
spelt_base n t P es l x d e =
    let b = base_state_lem t (point_in t P) x.based in
    let w : corner_of t es 2 ≡ P =
    corner_is t es 2 ∙ ap (spread t) (ap (point_of 2) e ∙ b.corner) ∙ spread_of t P x.a_side l x.lies in
    subst (Spelt n (t / 4 ∷ t / 2 % 2 ∷ reverse (directions 0 es))) w
    (spelt_by n t es x.a_side d (side_turn_way es ∙ ap way e ∙ b.points))

-- the state's total
pub base_total : (n t : ℕ) (P : Weights) → length P ≡ 12 → sum P ≡ 2 ^ n → BaseIn P t
    → total (base_state t (point_in t P)) ≡ 2 ^ n
base_total n t P l e x =
    let q = point_in t P in
    let b = base_state_lem t q x.based in
    sym (point_total 2 (base_state t q)) ∙ ap (λ (q : Point). q.w1 + q.w2 + q.w3) b.corner
    ∙ sym (sum_spread t q x.a_side) ∙ ap sum (spread_of t P x.a_side l x.lies) ∙ e

-- a polar corner is at its pole
polar_spread : (s x : ℕ) (p : Point) → Polar s p → p.w1 ≡ x
    → spread s p ≡ spread (pole_side (corner_vertex s 1)) (point x 0 0)
unfolding spread weight_at
polar_spread s x p h e =
    let v = corner_vertex s 1 in
    let f : corner_vertex s 1 ≡ corner_vertex (pole_side v) 1 = sym (pole_vertex v h.first) in
    ap (spread s) (same_point p (point x 0 0) e h.second h.third)
    ∙ each_same (weight_at s (point x 0 0)) (weight_at (pole_side v) (point x 0 0))
    (λ u. simp load_zero (ap (λ (c : ℕ). load (eqb u c) x + 0 + 0) f)) division.vertices

some_zeros : (n : ℕ) → (ss : List ℕ) × (length ss ≡ n) × (are_zeros ss ≡ true)
some_zeros zero = ([], refl, refl)
some_zeros (suc n) = let x = some_zeros n in (0 ∷ x.0, ap suc x.1, x.2)

module _ (n s : ℕ) (p : Point) (hs : IsSide s) (k : p.w1 + p.w2 + p.w3 ≡ 2 ^ n) where
  abbrev P : Weights
  P = spread s p

  pub polar_spelt : (ss : List ℕ) → length ss ≡ n → are_zeros ss ≡ true → Polar s p
      → Spelt n (0 ∷ corner_vertex s 1 ∷ ss) P
  polar_spelt ss e z x =
      let v = corner_vertex s 1 in
      let w = polar_spread s (2 ^ n) p x (omega (arith, k, x.second, x.third)) in
      subst (Spelt n (0 ∷ v ∷ ss)) (sym w)
      (subst (λ (m : ℕ). Spelt m (0 ∷ v ∷ ss) (spread (pole_side v) (point (2 ^ m) 0 0))) e
      (spelt_pole v ss (omega (arith, x.first)) z))

  base_spelt : (t : ℕ) → BaseIn P t → (xs : List ℕ) × Spelt n xs P
  base_spelt t x =
      let l : length P ≡ 12 = spread_length s p in
      let z = reach n (base_state t (point_in t P)) (base_total n t P l (sum_spread s p hs ∙ k) x) in
      let d : AreDigits n z.0 = subst (λ (m : ℕ). AreDigits m z.0) z.2 z.1 in
      (t / 4 ∷ t / 2 % 2 ∷ reverse (directions 0 z.0), spelt_base n t P z.0 l x d z.3)

  some_spelt : (xs : List ℕ) × Spelt n xs P
  some_spelt =
      let z = some_zeros n in
      ⊎_elim (λ x. (0 ∷ corner_vertex s 1 ∷ z.0, polar_spelt z.0 z.1 z.2 x)) (λ x. base_spelt x.0 x.1)
      (side_some s p hs (omega (arith, k, pow_pos n)))

-- a corner that a name names: a point of the side of its triangle
pub record Lying (n : ℕ) (P : Weights) : Type 0 where
  pub s : ℕ
  pub p : Point
  pub a_side : IsSide s
  pub total : p.w1 + p.w2 + p.w3 ≡ 2 ^ n
  pub is : spread s p ≡ P

pub name_lies : {n : ℕ} {P : Weights} {r : CornerName} → IsName n P r → Lying n P
name_lies {n} {r = r} y =
    let t = code_inside r in
    let i = corner_number r.0 in
    let ds = digits_in t in
    record {
      s = side_of t.0;
      p = point_of i (state_of ds);
      a_side = code_side y.code;
      total = point_total i (state_of ds) ∙ total_is ds ∙ ap (λ (m : ℕ). 2 ^ m) (in_length y.code);
      is = sym (corner_at t i ∙ corner_is (side_of t.0) ds i) ∙ y.there;
    }

pub vertex_code : {n : ℕ} {P : Weights} {r : CornerName} → IsName n P r → (xs : List ℕ) × SameVertex n xs r
vertex_code {n} y =
    let l = name_lies y in
    let x = some_spelt n l.s l.p l.a_side l.total in
    (x.0, spelt_same (subst (Spelt n x.0) l.is x.1) y)
