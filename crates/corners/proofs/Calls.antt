-- What the public functions answer, return by return. Assumes nothing.
use mathlib.Core.Path.{◌≡◌, ◌∙◌, refl, sym, ap, subst}
use mathlib.Core.Bool.{true, false, not}
use mathlib.Core.List.{List, ◌++◌}
use Prim.Native.Nat.{ℕ, zero, suc, ◌+◌, ◌*◌, ◌≤◌, ◌<◌, ◌^◌}
use native.Mathlib.Omega.{arith}
use lib.Seq.{length-take-le}
use lib.Bits.{bit_xor}
use lib.Dec.{eqb}
use lib.ListN.{length, take}
use borrow.Author.Tests.{eqb-true, lt-ltb, le-ltb, eq-eqb}
use Rattle.frame.specs.Refusals.{Row, refusal, list_rows, order}
use Rattle.frame.proofs.Refusing.{so_unless, either_left, either_right, here, next, refuse_after, refuse_before}
use Rattle.frame.proofs.Refusing.{refuse_first}
use Rattle.frame.proofs.Answering.{answering}
use Rattle.words.proofs.Codes.{code_degree, is_code}
use Rattle.words.specs.Refusals.{check_code, check_name_fields, code_rows, degree_rows, name_rows}
use Rattle.words.specs.Words.{degree_of, word_of}
use Rattle.words.specs.declared.CornerName.{CornerName}
use Rattle.words.specs.declared.TriangleCode.{TriangleCode}
use Rattle.net.specs.Corners.{name_of, corner, named}
use Rattle.corners.specs.Answers.{BackAnswer, CrossAnswer, NamingAnswer, name_answer, step_answer}
use Rattle.corners.specs.Turns.{Turned}
use Rattle.net.specs.Division.{corner_of, sum}
use Rattle.net.specs.Means.Paths.{digits_of}
use Rattle.net.specs.Means.Spreads.{point_in, spread}
use Rattle.net.specs.Means.Walks.{Place, edge_there, least_name, place_at, step_from}
use Rattle.net.specs.Names.{IsName}
use Rattle.net.specs.Refusals.{lesser_has, check_name, not_canonical, on_one_side, on_side}
use Rattle.net.specs.Refusals.{one_to_three_rows, weight_rows}
use Rattle.corners.specs.Refusals.{refuse_back, refuse_numbered}
use Rattle.net.specs.Sides.{IsSide, OneToThree, nth, prev}
use Rattle.net.specs.Sides as sides
use Rattle.net.specs.Steps.{Across}
use Rattle.net.specs.declared.Corner.{Corner}
use Rattle.net.specs.declared.Point.{Point}
use Rattle.net.specs.declared.Edge.{Edge}
use Rattle.net.proofs.Canonical.{lesser_none, name_means}
use Rattle.net.proofs.Crossing.{across_is}
use Rattle.net.proofs.LeastName.{least_is_name, place_in_lem, place_in}
use Rattle.net.proofs.Loads.{sum_spread}
use Rattle.net.proofs.Names.{one_name}
use Rattle.net.proofs.Rings.{next_next}
use Rattle.corners.proofs.Refused.{back_passes, numbered, numbered_passes}
use Rattle.corners.proofs.TurnedCorners.{turned_is}
use Rattle.net.proofs.StateCode.{on_one, spread_of}
use Rattle.net.proofs.WordSteps.{at_made, at_place, low_degree, made, made_place, numbered_place, third}

-- ---- refusals in turn

module _ (t : TriangleCode) (i : ℕ) where
  pub numbered_code : {k : ℕ} → k ≡ check_code t → (k ≡ 0 → ⊥) → k ≡ refuse_numbered t i
  unfolding refuse_numbered check_code
  numbered_code e n = refuse_before order order (code_rows t) (one_to_three_rows i) tt tt e n

  pub numbered_low : check_code t ≡ 0 → i ≡ 0 → 5 ≡ refuse_numbered t i
  unfolding refuse_numbered check_code
  numbered_low z e = refuse_after order order (code_rows t) (one_to_three_rows i) tt tt z
      (here (either_left _ _ (eq-eqb i 0 e)))

  pub numbered_high : check_code t ≡ 0 → 3 < i → 5 ≡ refuse_numbered t i
  unfolding refuse_numbered check_code
  numbered_high z h = refuse_after order order (code_rows t) (one_to_three_rows i) tt tt z
      (here (either_right (eqb i 0) _ (lt-ltb 3 i h)))

-- ---- crossing

-- x follows the edge there, and y goes before it
pub cross_answers : (t : TriangleCode) (k : ℕ) (r : Edge) {x y i j : ℕ} → refuse_numbered t k ≡ 0
    → r ≡ edge_there (step_from (record { code = t; number = k }))
    → x ≡ sides.next r.number → y ≡ bit_xor r.number x → i ≡ nth k y x y → j ≡ nth k x y x
    → CrossAnswer t k (step_answer 0 r.code r.number i j)
cross_answers t k r {x} {y} {i} {j} z e ex ey ei ej =
    let c = numbered t k z in
    let a : Across (degree_of t.0) t k r.code r.number = rw e (across_is c.0 k c.1) in
    let f : y ≡ prev r.number =
    ey ∙ ap (bit_xor r.number) ex ∙ third r.number a.edge ∙ next_next r.number a.edge in
    let there : Turned t k r.code i j = rw ei (rw ej (rw f (rw ex (turned_is c.0 c.1 a)))) in
    answering z (record { number = refl; across = a; turned = there })

-- ---- names

pub naming_answers : (t : TriangleCode) (i : ℕ) {r : CornerName} → refuse_numbered t i ≡ 0
    → r ≡ name_of (least_name 5 (place_at (t.0 + i)))
    → NamingAnswer t i (name_answer 0 r)
naming_answers t i {r} z e =
    let p = (numbered_passes t i).0 z in
    let c = is_code t p.0 in
    let f : r ≡ name_of (least_name 5 (place_in t i)) = e ∙ ap (λ (q : Place). name_of (least_name 5 q))
    (numbered_place t p.0 i p.1) in
    answering z (record {
      number = refl;
      is = subst (IsName (degree_of t.0) (corner t i)) (sym f)
          (least_is_name _ (corner t i) (place_in t i) (place_in_lem c p.1) (code_degree c));
    })

-- the least name round the corner that a name names
module _ (r : CornerName) (z : check_name_fields r ≡ 0) where
  abbrev least : ℕ
  least = least_name 5 (place_at r.0)

  least_name_lem : IsName (degree_of r.0) (named r) (name_of least)
  least_name_lem = least_is_name _ (named r) (place_at r.0) (at_place r.0 z) (low_degree r.0 z)

  pub name_ten : (least ≡ r.0 → ⊥) → 10 ≡ check_name r
  unfolding check_name check_name_fields
  name_ten n = refuse_after order order (name_rows r) _ tt tt z (here (so (refusal (name_rows r)) z))
    where
      so : (f : ℕ) → f ≡ 0 → not_canonical f r ≡ true
      so zero e = so_unless (lesser_has r)
          (λ e. n (ap (λ (q : CornerName). q.0) (one_name least_name_lem ((lesser_none r z).0 e))))
      so (suc f) e = absurd (omega arith)

  pub name_passing : least ≡ r.0 → 0 ≡ check_name r
  name_passing e = sym ((name_means r).1 (
    z,
    subst (λ (w : ℕ). IsName (degree_of r.0) (named r) (name_of w)) e
        least_name_lem,
  ))

pub name_first : (r : CornerName) {k : ℕ} → k ≡ check_name_fields r → (k ≡ 0 → ⊥) → k ≡ check_name r
unfolding check_name check_name_fields
name_first r e n = refuse_before order order (name_rows r) _ tt tt e n

-- ---- the way back

module _ (n : ℕ) (weights : List ℕ) where
  abbrev rows : List Row
  rows = degree_rows n ++ list_rows 12 weights ++ weight_rows n weights

  pub back_one_refused : 24 < n → 1 ≡ refuse_back n weights
  unfolding refuse_back
  back_one_refused h = refuse_first order rows tt (here (lt-ltb 24 n h))

  pub back_nine : n ≤ 24 → length weights < 12 → 9 ≡ refuse_back n weights
  unfolding refuse_back
  back_nine h l = refuse_first order rows tt (next (le-ltb 24 n h) (here (lt-ltb (length weights) 12 l)))

  module _ (h : n ≤ 24) (l : 12 ≤ length weights) where
    pub back_sum : eqb (sum (take 12 weights)) (2 ^ n) ≡ false → 11 ≡ refuse_back n weights
    unfolding refuse_back
    back_sum e = refuse_first order rows tt (next (le-ltb 24 n h)
        (next (le-ltb (length weights) 12 l) (here (either_left _ _ (ap not e)))))

    pub back_side : on_one_side (take 12 weights) ≡ false → 11 ≡ refuse_back n weights
    unfolding refuse_back
    back_side e = refuse_first order rows tt (next (le-ltb 24 n h)
        (next (le-ltb (length weights) 12 l) (here (either_right (not (eqb (sum (take 12 weights)) (2 ^ n))) _
        (ap not e)))))

-- the least name round a corner of the triangle of a side and a path
pub made_named : (s n v i : ℕ) {P : List ℕ} {r : CornerName} → IsSide s → n ≤ 24 → v < 2 ^ (2 * n) → OneToThree i
    → corner_of s (digits_of n v) i ≡ P → r ≡ name_of (least_name 5 (place_at (word_of s n v + i))) → IsName n P r
made_named s n v i {P} hs h k l there e =
    let f = e ∙ ap (λ (q : Place). name_of (least_name 5 q)) (made_place s n v i hs h k l) in
    subst (IsName n P) (sym f) (least_is_name n P (made s n v i hs h k l) (at_made s n v i hs h k l there) h)

-- the name of the corner with twelve weights, from the side that they lie on and a triangle there that has the corner
pub back_answers : (n : ℕ) (weights : List ℕ) (s : ℕ) (k : Corner) (p : Point) {r : CornerName} → n ≤ 24
    → 12 ≤ length weights
    → eqb (sum (take 12 weights)) (2 ^ n) ≡ true → IsSide s → on_side s 0 (take 12 weights) ≡ true
    → p ≡ point_in s (take 12 weights)
    → (k.path < 2 ^ (2 * n)) × OneToThree k.number × (corner_of s (digits_of n k.path) k.number
    ≡ spread s p)
    → r ≡ name_of (least_name 5 (place_at (word_of s n k.path + k.number)))
    → BackAnswer n weights (name_answer 0 r)
back_answers n weights s k p {r} h l e hs on is found eq =
    let ws = take 12 weights in
    let twelve : length ws ≡ 12 = length-take-le 12 weights l in
    let there : spread s p ≡ ws = ap (spread s) is ∙ spread_of s ws hs twelve on in
    answering ((back_passes n weights).1 (h, l, eqb-true _ _ e, on_one ws s hs on))
    (record {
      number = refl;
      is = made_named s n k.path k.number hs h found.0 found.1 (found.2 ∙ there) eq;
    })

-- the three weights of a side on which all twelve lie add to their sum
pub back_total : (n : ℕ) (weights : List ℕ) (s : ℕ) (p : Point) → 12 ≤ length weights
    → eqb (sum (take 12 weights)) (2 ^ n) ≡ true → IsSide s
    → on_side s 0 (take 12 weights) ≡ true → p ≡ point_in s (take 12 weights) → p.w1 + p.w2 + p.w3 ≡ 2 ^ n
back_total n weights s p l e hs on is =
    let ws = take 12 weights in
    sym (sum_spread s p hs) ∙ ap sum (ap (spread s) is ∙ spread_of s ws hs (length-take-le 12 weights l) on)
    ∙ eqb-true _ _ e
