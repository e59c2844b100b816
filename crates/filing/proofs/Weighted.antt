-- The exact coordinates of twelve weights are six differences of weights, and small; a corner's weights are twelve and light. Assumes nothing.
use mathlib.Core.Path.{◌≡◌, ◌∙◌, refl, sym, ap, subst}
use mathlib.Core.List.{List, [], ◌∷◌}
use Prim.Native.Nat.{ℕ, zero, suc, ◌+◌, ◌≤◌, ◌<◌, ◌^◌}
use native.Mathlib.Omega.{arith}
use lib.Pow.{pow_mono}
use lib.ListN.{length, get_or}
use lib.IntN.{pos, neg_ℤ, nat_abs}
use Rattle.golden.specs.Numbers.{Below, golden, ◌+φ◌, ◌*φ◌}
use Rattle.golden.proofs.IntegerOrder.{difs}
use Rattle.golden.proofs.Magnitudes.{abs_add, abs_neg}
use Rattle.golden.proofs.GoldenRing.{φ_path}
use Rattle.words.specs.Refusals.{IsCode}
use Rattle.words.specs.Words.{side_of}
use Rattle.words.specs.declared.TriangleCode.{TriangleCode}
use Rattle.words.proofs.Codes.{code_degree, code_side}
use Rattle.net.specs.Division.{Weights, each, vertices, sum}
use Rattle.net.specs.Corners.{corner}
use Rattle.net.proofs.CodePlaces.{corner_at, digits_in, in_length}
use Rattle.net.proofs.Loads.{corner_is, weights_add}
use Rattle.net.proofs.StateCode.{spread_length}
use Rattle.filing.specs.declared.Coordinates.{Coordinates}
use Rattle.filing.specs.Coordinates.{coordinates, origin, exact}
use Rattle.filing.specs.Means.Places.{Twelve, Small, balance_of}
use Rattle.filing.proofs.Parts.{coordinates_path}

-- ---- six differences

-- the numbers a, a + 1, .., n of them
abbrev count : ℕ → ℕ → List ℕ
count a zero = []
count a (suc n) = a ∷ count (suc a) n

-- a list, place by place
by_places : (f : ℕ → ℕ) (p : List ℕ) (a n : ℕ) → length p ≡ n → ((v : ℕ) → f (a + v) ≡ get_or p v 0) → p ≡ each f (count a n)
by_places f [] a zero h k = refl
by_places f [] a (suc n) h k = absurd (omega arith)
by_places f (x ∷ xs) a zero h k = absurd (omega arith)
by_places f (x ∷ xs) a (suc n) h k =
    let z : a ≡ a + 0 = omega arith in
    let e : x ≡ f a = sym (k 0) ∙ ap f (sym z) in
    let later : (v : ℕ) → f (suc a + v) ≡ get_or xs v 0 = λ v. let s : suc a + v ≡ a + suc v = omega arith in ap f s ∙ k (suc v) in
    λ i. e i ∷ by_places f xs (suc a) n (omega arith) later i

twelve_are : (p : Weights) → length p ≡ 12 → p ≡ each (λ v. get_or p v 0) vertices
twelve_are p h = by_places (λ v. get_or p v 0) p 0 12 h (λ v. let e : 0 + v ≡ v = omega arith in ap (λ (u : ℕ). get_or p u 0) e)

-- what `weighing::exact_of` computes
abbrev pub balances : Weights → Coordinates
balances p = coordinates
    (golden (balance_of p 4 7 5 11) (balance_of p 3 8 6 10))
    (golden (balance_of p 0 9 1 2) (balance_of p 4 5 7 11))
    (golden (balance_of p 3 6 8 10) (balance_of p 0 2 1 9))

differences : (f : ℕ → ℕ) → exact (each f vertices) ≡ balances (each f vertices)
unfolding exact balance_of ◌+φ◌ ◌*φ◌
differences f = coordinates_path
    (φ_path (simp difs (omega arith)) (simp difs (omega arith)))
    (φ_path (simp difs (omega arith)) (simp difs (omega arith)))
    (φ_path (simp difs (omega arith)) (simp difs (omega arith)))

pub exact_is : (p : Weights) → length p ≡ 12 → exact p ≡ balances p
exact_is p h =
    let e = twelve_are p h in
    ap exact e ∙ differences (λ v. get_or p v 0) ∙ ap balances (sym e)

-- ---- their size

-- a weight is at most the sum
pub at_most_sum : (p : Weights) (v : ℕ) → get_or p v 0 ≤ sum p
unfolding sum
at_most_sum [] v = omega arith
at_most_sum (x ∷ xs) zero = omega arith
at_most_sum (x ∷ xs) (suc v) = omega (arith, at_most_sum xs v)

pub two_small : {p : Weights} → Twelve p → (a b : ℕ) → get_or p a 0 + get_or p b 0 ≤ 2 ^ 25
two_small {p} t a b = omega (arith, t.light, at_most_sum p a, at_most_sum p b)

pub balance_small : {p : Weights} → Twelve p → (a b c d : ℕ) → nat_abs (balance_of p a b c d) < 2 ^ 26 + 1
unfolding balance_of
balance_small {p} t a b c d =
    let m = get_or p a 0 + get_or p b 0 in
    let n = get_or p c 0 + get_or p d 0 in
    omega (arith, two_small t a b, two_small t c d, abs_add (pos m) (neg_ℤ (pos n)), abs_neg (pos n))

pub balances_small : {p : Weights} → Twelve p → Small (balances p)
balances_small t = record {
  x = record { u_below = balance_small t 4 7 5 11; v_below = balance_small t 3 8 6 10 };
  y = record { u_below = balance_small t 0 9 1 2; v_below = balance_small t 4 5 7 11 };
  z = record { u_below = balance_small t 3 6 8 10; v_below = balance_small t 0 2 1 9 };
}

pub exact_small : {p : Weights} → Twelve p → Small (exact p)
exact_small {p} t = subst Small (sym (exact_is p t.places)) (balances_small t)

pub origin_small : Small origin
origin_small =
    let zero_small : Below (2 ^ 26 + 1) (golden (pos 0) (pos 0)) = record { u_below = omega arith; v_below = omega arith } in
    record { x = zero_small; y = zero_small; z = zero_small }

-- ---- a corner's weights

pub corner_twelve : {n : ℕ} {t : TriangleCode} → IsCode n t → (i : ℕ) → Twelve (corner t i)
corner_twelve {n} {t} c i =
    let s = side_of t.0 in
    let total : sum (corner t i) ≡ 2 ^ n = ap sum (corner_at t i) ∙ weights_add s (digits_in t) i (code_side c) ∙ ap (λ (m : ℕ). 2 ^ m) (in_length c) in
    let most : 2 ^ n ≤ 2 ^ 24 = pow_mono (code_degree c) in
    record {
      places = ap length (corner_at t i ∙ corner_is s (digits_in t) i) ∙ spread_length s _;
      light = omega (arith, total, most);
    }
