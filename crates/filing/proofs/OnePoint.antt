-- Two corners are the same point exactly when all twelve weights agree. A vertex and the one opposite have directions
-- that cancel, so the six whole numbers of an exact coordinate tell six differences of weights, one for each pair of
-- opposite vertices. No side has two opposite vertices, and a corner's weights lie on one side: of each pair one weight
-- at least is 0, and the difference tells both. Assumes nothing.
use mathlib.Core.Path.{◌≡◌, ◌∙◌, refl, sym, ap, subst}
use mathlib.Core.Logic.{◌↔◌, ◌⊎◌, inl, inr, ⊎_elim}
use mathlib.Core.Bool.{true}
use mathlib.Core.List.{[], ◌∷◌}
use Prim.Native.Nat.{ℕ, zero, suc, ◌+◌, ◌<◌}
use native.Mathlib.Omega.{arith}
use lib.ListN.{length, get_or}
use lib.Seq.{ext_get_or}
use Rattle.golden.specs.Numbers.{negφ}
use Rattle.golden.proofs.IntegerOrder.{difs}
use Rattle.words.specs.Refusals.{IsCode}
use Rattle.words.specs.declared.TriangleCode.{TriangleCode}
use Rattle.words.proofs.Codes.{code_degree}
use Rattle.net.specs.Sides.{OneToThree, IsSide, corner_vertex}
use Rattle.net.specs.Division.{Weights}
use Rattle.net.specs.Corners.{corner}
use Rattle.net.specs.Refusals.{on_one_side}
use Rattle.net.specs.Means.Spreads.{point_in, spread}
use Rattle.net.specs.declared.Point.{Point}
use Rattle.net.proofs.Table.{sound, sides, below, less, no, ◌and◌}
use Rattle.net.proofs.SharedVertices.{HasVertex, has_vertex, has_or_not}
use Rattle.net.proofs.Loads.{at_vertex, weight_other}
use Rattle.net.proofs.StateCode.{one_on, spread_of}
use Rattle.net.proofs.WayBack.{weights_mean}
use Rattle.filing.specs.declared.Coordinates.{Coordinates}
use Rattle.filing.specs.Coordinates.{direction, exact, negated}
use Rattle.filing.specs.Means.Places.{balance_of}
use Rattle.filing.proofs.GoldenTests.{sameᵛ, ᵛ_same}
use Rattle.filing.proofs.Weighted.{balances, exact_is, corner_twelve}

-- ---- opposite vertices

-- the place of the vertex opposite, by place: 01, 00, 31, 41, 51, 11, 21, 40, 50, 10, 20, 30
abbrev pub opposite : ℕ → ℕ
opposite v = get_or (1 ∷ 0 ∷ 9 ∷ 10 ∷ 11 ∷ 7 ∷ 8 ∷ 5 ∷ 6 ∷ 2 ∷ 3 ∷ 4 ∷ []) v 0

-- its direction is the other way
pub opposite_direction : (v : ℕ) → v < 12 → direction (opposite v) ≡ negated (direction v)
unfolding negφ
opposite_direction v h =
    ᵛ_same (direction (opposite v)) (negated (direction v))
    (sound (below 12 λ v. sameᵛ (direction (opposite v)) (negated (direction v))) refl v h)

-- no side has both
pub not_both : (s : ℕ) → IsSide s → (v : ℕ) → v < 12 → HasVertex s v × HasVertex s (opposite v) → ⊥
unfolding corner_vertex
not_both = sound (sides λ s. below 12 λ v. no (has_vertex s v and has_vertex s (opposite v))) refl

-- it is one of the twelve
pub opposite_small : (v : ℕ) → v < 12 → opposite v < 12
opposite_small = sound (below 12 λ v. less (opposite v) 12) refl

-- ---- weights that lie on one side

-- of two opposite vertices one at least has no weight
abbrev Lone : Weights → Type 0
Lone p = (v : ℕ) → v < 12 → (get_or p v 0 ≡ 0) ⊎ (get_or p (opposite v) 0 ≡ 0)

-- so it is with a point of a side, and with any weights on one side
spread_lone : (s : ℕ) (q : Point) → IsSide s → Lone (spread s q)
spread_lone s q h v l = ⊎_elim
    (λ a.
    let other = weight_other s (opposite v) q (λ b. not_both s h v l (a, b)) in
    inr (at_vertex s q (opposite v) (opposite_small v l) ∙ other))
    (λ f. inl (at_vertex s q v l ∙ weight_other s v q f))
    (has_or_not s v)

side_lone : (p : Weights) → length p ≡ 12 → on_one_side p ≡ true → Lone p
side_lone p e o =
    let x = one_on p o in
    subst Lone (spread_of x.0 p x.1 e x.2) (spread_lone x.0 (point_in x.0 p) x.1)

-- ---- the weights, from the exact coordinates

-- a difference of two numbers of which one is 0 tells both
both_same : (a b c d : ℕ) → (a ≡ 0) ⊎ (b ≡ 0) → (c ≡ 0) ⊎ (d ≡ 0) → a + d ≡ c + b
    → (a ≡ c) × (b ≡ d)
both_same a b c d s t e = ⊎_elim
    (λ x. ⊎_elim (λ y. omega arith) (λ y. omega arith) t)
    (λ x. ⊎_elim (λ y. omega arith) (λ y. omega arith) t) s

-- the same difference of weights, the signs moved over
balance_same : (p q : Weights) (a b c d : ℕ) → balance_of p a b c d ≡ balance_of q a b c d
    → (get_or p a 0 + get_or p b 0) + (get_or q c 0 + get_or q d 0) ≡ (get_or q a 0 + get_or q b 0) + (get_or p c 0 + get_or p d 0)
unfolding balance_of
balance_same p q a b c d e = omega (arith, simp difs at e)

-- P at 0, 1, .., n of them, one by one
abbrev Each : (n : ℕ) → (ℕ → Type 0) → Type 0
Each zero P = Unit {0}
Each (suc n) P = P 0 × Each n (λ v. P (suc v))

each_below : (n : ℕ) (P : ℕ → Type 0) → Each n P → (v : ℕ) → v < n → P v
each_below zero P x v h = absurd (omega arith)
each_below (suc n) P x zero h = x.0
each_below (suc n) P x (suc v) h = each_below n (λ v. P (suc v)) x.1 v (omega arith)

-- the six differences, and with them each weight
module _ (p q : Weights) (e : balances p ≡ balances q) where
  -- the weight at v less the one opposite is the same, the signs moved over
  abbrev Alike : ℕ → Type 0
  Alike v = get_or p v 0 + get_or q (opposite v) 0 ≡ get_or q v 0 + get_or p (opposite v) 0

  alike : (v : ℕ) → v < 12 → Alike v
  alike =
      let xu = balance_same p q 4 7 5 11 (ap (λ (c : Coordinates). c.x.u) e) in
      let xv = balance_same p q 3 8 6 10 (ap (λ (c : Coordinates). c.x.v) e) in
      let yu = balance_same p q 0 9 1 2 (ap (λ (c : Coordinates). c.y.u) e) in
      let yv = balance_same p q 4 5 7 11 (ap (λ (c : Coordinates). c.y.v) e) in
      let zu = balance_same p q 3 6 8 10 (ap (λ (c : Coordinates). c.z.u) e) in
      let zv = balance_same p q 0 2 1 9 (ap (λ (c : Coordinates). c.z.v) e) in
      each_below 12 Alike (omega (arith, xu, xv, yu, yv, zu, zv))

-- Twelve weights on one side and twelve on another, or the same: the same point only if they agree.
pub one_point : (p q : Weights) → length p ≡ 12 → length q ≡ 12
    → on_one_side p ≡ true → on_one_side q ≡ true → exact p ≡ exact q → p ≡ q
one_point p q l k o n e =
    let f : balances p ≡ balances q = sym (exact_is p l) ∙ e ∙ exact_is q k in
    ext_get_or 0 p q (l ∙ sym k) (λ v h.
    let m : v < 12 = omega (arith, l) in
    (both_same (get_or p v 0) (get_or p (opposite v) 0) (get_or q v 0) (get_or q (opposite v) 0)
    (side_lone p l o v m) (side_lone q k n v m) (alike p q f v m)).0)

-- ---- corners

-- a corner's weights lie on one side
corner_one_side : {n : ℕ} {t : TriangleCode} → IsCode n t → (i : ℕ) → OneToThree i
    → on_one_side (corner t i) ≡ true
corner_one_side {n} {t} c i h =
    ((weights_mean n (corner t i) (code_degree c) (corner_twelve c i).places).1 (t, c, (i, h, refl))).1

-- Corners of any two degrees have the same exact coordinates exactly when all twelve weights agree.
pub same_place : {m n : ℕ} {t u : TriangleCode} → IsCode m t → IsCode n u
    → (i j : ℕ) → OneToThree i → OneToThree j
    → (exact (corner t i) ≡ exact (corner u j)) ↔ (corner t i ≡ corner u j)
same_place {t = t} {u = u} c d i j h k = (
  one_point (corner t i) (corner u j) (corner_twelve c i).places (corner_twelve d j).places
      (corner_one_side c i h) (corner_one_side d j k),
  λ e. ap exact e,
)

-- "Two corners of one degree are the same point exactly when all twelve weights agree."
pub same_point_lem : (n : ℕ) (t u : TriangleCode) (i j : ℕ) → IsCode n t → IsCode n u
    → OneToThree i → OneToThree j
    → (exact (corner t i) ≡ exact (corner u j)) ↔ (corner t i ≡ corner u j)
same_point_lem n t u i j c d h k = same_place c d i j h k
