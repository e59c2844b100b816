-- From a domain's digits to the directions of its base vertex and back: each undoes the other. Assumes nothing.
use mathlib.Core.Path.{◌≡◌, ◌∙◌, refl, ap}
use mathlib.Core.List.{List, [], ◌∷◌}
use Prim.Native.Nat.{ℕ, zero, suc, ◌≤◌}
use native.Mathlib.Omega.{arith}
use Rattle.words.proofs.Digits.{AreDigits, none, more}
use Rattle.notation.specs.Means.Directions.{other, turned, directions, parts, side_turn}

pub other_low : (o d : ℕ) → other o d ≤ 3
other_low zero zero = omega arith
other_low zero (suc zero) = omega arith
other_low zero (suc (suc zero)) = omega arith
other_low zero (suc (suc (suc d))) = omega arith
other_low (suc o) zero = omega arith
other_low (suc o) (suc zero) = omega arith
other_low (suc o) (suc (suc zero)) = omega arith
other_low (suc o) (suc (suc (suc d))) = omega arith

other_twice : (o d : ℕ) → d ≤ 3 → other o (other o d) ≡ d
other_twice zero zero l = refl
other_twice zero (suc zero) l = refl
other_twice zero (suc (suc zero)) l = refl
other_twice zero (suc (suc (suc d))) l = omega arith
other_twice (suc o) zero l = refl
other_twice (suc o) (suc zero) l = refl
other_twice (suc o) (suc (suc zero)) l = refl
other_twice (suc o) (suc (suc (suc d))) l = omega arith

pub turned_low : (r o : ℕ) → o ≤ 1 → turned r o ≤ 1
turned_low zero o l = omega arith
turned_low (suc r) o l = l

pub side_turn_low : (ds : List ℕ) (o : ℕ) → o ≤ 1 → side_turn o ds ≤ 1
unfolding side_turn
side_turn_low [] o l = l
side_turn_low (r ∷ ds) o l = side_turn_low ds (turned r o) (turned_low r o l)

pub parts_digits : (o : ℕ) (ss : List ℕ) {n : ℕ} → AreDigits n ss → AreDigits n (parts o ss)
unfolding parts
parts_digits o [] none = none
parts_digits o (s ∷ ss) (more l a) = more (other_low o s) (parts_digits (turned (other o s) o) ss a)

pub directions_digits : (o : ℕ) (ds : List ℕ) {n : ℕ} → AreDigits n ds → AreDigits n (directions o ds)
unfolding directions
directions_digits o [] none = none
directions_digits o (r ∷ ds) (more l a) = more (other_low o r) (directions_digits (turned r o) ds a)

-- "it is always T = τ2(σ(o,T))"
pub parts_directions : (o : ℕ) (ss : List ℕ) {n : ℕ} → AreDigits n ss → directions o (parts o ss) ≡ ss
unfolding directions parts
parts_directions o [] none = refl
parts_directions o (s ∷ ss) (more l a) =
    λ i. other_twice o s l i ∷ parts_directions (turned (other o s) o) ss a i

pub directions_parts : (o : ℕ) (ds : List ℕ) {n : ℕ} → AreDigits n ds → parts o (directions o ds) ≡ ds
unfolding directions parts
directions_parts o [] none = refl
directions_parts o (r ∷ ds) (more l a) =
    let e = other_twice o r l in
    (λ i. e i ∷ parts (turned (e i) o) (directions (turned r o) ds))
    ∙ ap (λ (x : List ℕ). r ∷ x) (directions_parts (turned r o) ds a)
