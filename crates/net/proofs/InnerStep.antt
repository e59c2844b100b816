-- The step across an edge inside a side, in digits and on the state, is one. Assumes nothing.
use mathlib.Core.Path.{◌≡◌, ◌∙◌, refl, sym, ap}
use mathlib.Core.List.{List, [], ◌∷◌}
use Prim.Native.Nat.{ℕ, zero, suc, ◌-◌, ◌*◌, ◌≤◌}
use native.Mathlib.Omega.{arith}
use Rattle.words.proofs.Digits.{first_digit, other_digits}
use Rattle.net.specs.Means.States.{Move, across, cross, inside, map, outside, state_of, step}
use Rattle.net.specs.declared.State.{State}
use Rattle.net.specs.declared.State.TheVariants.{Down, Up}
use Rattle.net.proofs.Paths.{Digits}

dbl : (x : ℕ) → 2 * suc x ≡ suc (suc (2 * x))
dbl x = omega arith

-- the middle child's neighbour is child k of the same triangle, and the other way round
pub from_middle : (k : ℕ) (s : State) → 1 ≤ k → across k (step 0 s) ≡ inside (step k s)
from_middle zero s h = absurd (omega arith)
from_middle (suc zero) (Up x y z) h = refl
from_middle (suc zero) (Down x y z) h = refl
from_middle (suc (suc zero)) (Up x y z) h = refl
from_middle (suc (suc zero)) (Down x y z) h = refl
from_middle (suc (suc (suc j))) (Up x y z) h = refl
from_middle (suc (suc (suc j))) (Down x y z) h = refl

pub to_middle : (k : ℕ) (s : State) → 1 ≤ k → across k (step k s) ≡ inside (step 0 s)
to_middle zero s h = absurd (omega arith)
to_middle (suc zero) (Up x y z) h = refl
to_middle (suc zero) (Down x y z) h = refl
to_middle (suc (suc zero)) (Up x y z) h = refl
to_middle (suc (suc zero)) (Down x y z) h = refl
to_middle (suc (suc (suc j))) (Up x y z) h = refl
to_middle (suc (suc (suc j))) (Down x y z) h = refl

-- child i's neighbour across another edge k is child j of the triangle's own neighbour there
via_1_2 : (s : State) → across 1 (step 2 s) ≡ map (step 3) (across 1 s)
via_1_2 (Up zero y z) = refl
via_1_2 (Up (suc x) y z) = simp dbl
via_1_2 (Down x y z) = simp dbl

via_1_3 : (s : State) → across 1 (step 3 s) ≡ map (step 2) (across 1 s)
via_1_3 (Up zero y z) = refl
via_1_3 (Up (suc x) y z) = simp dbl
via_1_3 (Down x y z) = simp dbl

via_2_1 : (s : State) → across 2 (step 1 s) ≡ map (step 3) (across 2 s)
via_2_1 (Up x zero z) = refl
via_2_1 (Up x (suc y) z) = simp dbl
via_2_1 (Down x y z) = simp dbl

via_2_3 : (s : State) → across 2 (step 3 s) ≡ map (step 1) (across 2 s)
via_2_3 (Up x zero z) = refl
via_2_3 (Up x (suc y) z) = simp dbl
via_2_3 (Down x y z) = simp dbl

via_3_1 : (s : State) → across 3 (step 1 s) ≡ map (step 2) (across 3 s)
via_3_1 (Up x y zero) = refl
via_3_1 (Up x y (suc z)) = simp dbl
via_3_1 (Down x y z) = simp dbl

via_3_2 : (s : State) → across 3 (step 2 s) ≡ map (step 1) (across 3 s)
via_3_2 (Up x y zero) = refl
via_3_2 (Up x y (suc z)) = simp dbl
via_3_2 (Down x y z) = simp dbl

-- the same for any edge and any other digit
pub via : (k d : ℕ) (s : State) → 1 ≤ k → k ≤ 3 → 1 ≤ d → d ≤ 3 → (d ≡ k → ⊥) → across k (step d s) ≡ map (step (6 - k - d)) (across k s)
via zero d s l u m w f = absurd (omega arith)
via (suc zero) zero s l u m w f = absurd (omega arith)
via (suc (suc zero)) zero s l u m w f = absurd (omega arith)
via (suc (suc (suc zero))) zero s l u m w f = absurd (omega arith)
via (suc (suc (suc (suc k)))) d s l u m w f = absurd (omega arith)
via (suc zero) (suc zero) s l u m w f = absurd (f refl)
via (suc zero) (suc (suc zero)) s l u m w f = via_1_2 s
via (suc zero) (suc (suc (suc zero))) s l u m w f = via_1_3 s
via (suc zero) (suc (suc (suc (suc d)))) s l u m w f = absurd (omega arith)
via (suc (suc zero)) (suc zero) s l u m w f = via_2_1 s
via (suc (suc zero)) (suc (suc zero)) s l u m w f = absurd (f refl)
via (suc (suc zero)) (suc (suc (suc zero))) s l u m w f = via_2_3 s
via (suc (suc zero)) (suc (suc (suc (suc d)))) s l u m w f = absurd (omega arith)
via (suc (suc (suc zero))) (suc zero) s l u m w f = via_3_1 s
via (suc (suc (suc zero))) (suc (suc zero)) s l u m w f = via_3_2 s
via (suc (suc (suc zero))) (suc (suc (suc zero))) s l u m w f = absurd (f refl)
via (suc (suc (suc zero))) (suc (suc (suc (suc d)))) s l u m w f = absurd (omega arith)

-- a map after a map
along : (d : ℕ) (m : Move (List ℕ)) (c : Move State) → map state_of m ≡ c → map state_of (map (λ es. d ∷ es) m) ≡ map (step d) c
unfolding state_of
along d (inside es) c e = ap (map (step d)) e
along d outside c e = ap (map (step d)) e

crossing_1 : (ds : List ℕ) → Digits ds → map state_of (cross 1 ds) ≡ across 1 (state_of ds)
unfolding cross state_of
crossing_1 [] h = refl
crossing_1 (zero ∷ ds) h = sym (from_middle 1 (state_of ds) (omega arith))
crossing_1 (suc zero ∷ ds) h = sym (to_middle 1 (state_of ds) (omega arith))
crossing_1 (suc (suc zero) ∷ ds) h = along 3 (cross 1 ds) _ (crossing_1 ds (other_digits h)) ∙ sym (via_1_2 (state_of ds))
crossing_1 (suc (suc (suc zero)) ∷ ds) h = along 2 (cross 1 ds) _ (crossing_1 ds (other_digits h)) ∙ sym (via_1_3 (state_of ds))
crossing_1 (suc (suc (suc (suc d))) ∷ ds) h = absurd (omega (arith, first_digit h))

crossing_2 : (ds : List ℕ) → Digits ds → map state_of (cross 2 ds) ≡ across 2 (state_of ds)
unfolding cross state_of
crossing_2 [] h = refl
crossing_2 (zero ∷ ds) h = sym (from_middle 2 (state_of ds) (omega arith))
crossing_2 (suc zero ∷ ds) h = along 3 (cross 2 ds) _ (crossing_2 ds (other_digits h)) ∙ sym (via_2_1 (state_of ds))
crossing_2 (suc (suc zero) ∷ ds) h = sym (to_middle 2 (state_of ds) (omega arith))
crossing_2 (suc (suc (suc zero)) ∷ ds) h = along 1 (cross 2 ds) _ (crossing_2 ds (other_digits h)) ∙ sym (via_2_3 (state_of ds))
crossing_2 (suc (suc (suc (suc d))) ∷ ds) h = absurd (omega (arith, first_digit h))

crossing_3 : (ds : List ℕ) → Digits ds → map state_of (cross 3 ds) ≡ across 3 (state_of ds)
unfolding cross state_of
crossing_3 [] h = refl
crossing_3 (zero ∷ ds) h = sym (from_middle 3 (state_of ds) (omega arith))
crossing_3 (suc zero ∷ ds) h = along 2 (cross 3 ds) _ (crossing_3 ds (other_digits h)) ∙ sym (via_3_1 (state_of ds))
crossing_3 (suc (suc zero) ∷ ds) h = along 1 (cross 3 ds) _ (crossing_3 ds (other_digits h)) ∙ sym (via_3_2 (state_of ds))
crossing_3 (suc (suc (suc zero)) ∷ ds) h = sym (to_middle 3 (state_of ds) (omega arith))
crossing_3 (suc (suc (suc (suc d))) ∷ ds) h = absurd (omega (arith, first_digit h))

-- for each edge, the digits' step gives the triangle that the step on the state gives
pub crossing : (k : ℕ) (ds : List ℕ) → 1 ≤ k → k ≤ 3 → Digits ds → map state_of (cross k ds) ≡ across k (state_of ds)
crossing zero ds l u h = absurd (omega arith)
crossing (suc zero) ds l u h = crossing_1 ds h
crossing (suc (suc zero)) ds l u h = crossing_2 ds h
crossing (suc (suc (suc zero))) ds l u h = crossing_3 ds h
crossing (suc (suc (suc (suc k)))) ds l u h = absurd (omega arith)
