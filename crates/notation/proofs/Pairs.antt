-- S(σ(0, T)) and S(σ(1, T)) by T's directions, the last first: (38) to (43) are one rule for both. Assumes nothing.
use mathlib.Core.Path.{◌≡◌, ◌∙◌, refl, ap}
use mathlib.Core.List.{List, [], ◌∷◌, reverse, reverse_aux}
use Prim.Native.Nat.{ℕ, zero, suc, ◌≤◌}
use native.Mathlib.Omega.{arith}
use Rattle.net.specs.Division.{Triangle, corner_of, triangle_at}
use Rattle.notation.specs.Vertices.{Pair, pair, base_pair, next_pair, pair_by, point}
use Rattle.notation.specs.Means.Directions.{parts, side_turn, base_side}
use Rattle.notation.proofs.Domains.{first_is}

-- the side of σ(o, T), and S(σ(o, T))
abbrev pub side_by : (a p o : ℕ) → List ℕ → ℕ
side_by a p o ss = base_side a p (side_turn o (parts o ss))

abbrev sigma : (a p o : ℕ) → List ℕ → Triangle
sigma a p o ss = triangle_at (side_by a p o ss) (parts o ss)

abbrev both : (a p : ℕ) → List ℕ → Pair
both a p ss = pair (sigma a p 0 ss) (sigma a p 1 ss)

base_both : (a p : ℕ) → p ≤ 1 → base_pair a p ≡ both a p []
unfolding parts side_turn
base_both a zero h =
    λ i. pair (first_is a 0 0 (omega arith) (omega arith) i) (first_is a 0 1 (omega arith) (omega arith) i)
base_both a (suc zero) h =
    λ i. pair (first_is a 1 1 (omega arith) (omega arith) i) (first_is a 1 0 (omega arith) (omega arith) i)
base_both a (suc (suc p)) h = absurd (omega arith)

next_both : (a p s : ℕ) (ss : List ℕ) → next_pair s (both a p ss) ≡ both a p (s ∷ ss)
unfolding triangle_at parts side_turn
next_both a p zero ss = refl
next_both a p (suc zero) ss = refl
next_both a p (suc (suc zero)) ss = refl
next_both a p (suc (suc (suc s))) ss = refl

both_by : (a p : ℕ) (ss ts : List ℕ) → pair_by ss (both a p ts) ≡ both a p (reverse_aux ss ts)
unfolding pair_by
both_by a p [] ts = refl
both_by a p (s ∷ ss) ts = ap (pair_by ss) (next_both a p s ts) ∙ both_by a p ss (s ∷ ts)

-- V(T) is corner 2 of σ(0, T)
pub point_is : (a p : ℕ) (ss : List ℕ) → p ≤ 1
    → point (suc a ∷ p ∷ ss) ≡ corner_of (side_by (suc a) p 0 (reverse ss)) (parts 0 (reverse ss)) 2
unfolding corner_of
point_is a p ss h =
    ap (λ (x : Pair). (pair_by ss x).zeroth.a2) (base_both (suc a) p h)
    ∙ ap (λ (x : Pair). x.zeroth.a2) (both_by (suc a) p ss [])
