-- Renumbering: one of 1, 2, 3 is kept and the other two are exchanged. The division does not care, and neither does a
-- step. Assumes nothing.
use mathlib.Core.Path.{◌≡◌, ◌∙◌, refl, sym, ap}
use mathlib.Core.List.{List, [], ◌∷◌}
use mathlib.Core.Logic.{⊎_elim}
use Prim.Native.Nat.{ℕ, zero, suc, ◌≤◌}
use native.Mathlib.Omega.{arith}
use lib.Dec.{eqb}
use lib.ListN.{length}
use Rattle.words.proofs.Digits.{AreDigits, first_digit, more, none, other_digits}
use Rattle.net.specs.Division.{each, load, vertices}
use Rattle.net.specs.Means.Seams.{flip}
use Rattle.net.specs.Means.Spreads.{spread, weight_at}
use Rattle.net.specs.Means.States.{across, map, point, point_of, state_of, step}
use Rattle.net.specs.Sides.{OneToThree, corner_vertex, next, nth, prev}
use Rattle.net.specs.declared.Point.{Point}
use Rattle.net.specs.declared.State.{State}
use Rattle.net.specs.declared.State.TheVariants.{Down, Up}
use Rattle.net.proofs.Loads.{weight}
use Rattle.net.proofs.Paths.{Digits}
use Rattle.net.proofs.Spread.{each_same, load_zero}
use Rattle.net.proofs.Table.{either_way, same, three}

abbrev pub turn : ℕ → State → State
turn c (Up x y z) = nth c (Up x z y) (Up z y x) (Up y x z)
turn c (Down x y z) = nth c (Down x z y) (Down z y x) (Down y x z)

abbrev pub turn_point : ℕ → Point → Point
turn_point c p = nth c (point p.w1 p.w3 p.w2) (point p.w3 p.w2 p.w1) (point p.w2 p.w1 p.w3)

pub flip_three : (c : ℕ) → OneToThree c → (i : ℕ) → OneToThree i → OneToThree (flip c i)
flip_three =
    three (λ c. (i : ℕ) → OneToThree i → OneToThree (flip c i))
    (three (λ i. OneToThree (flip 1 i)) (omega arith) (omega arith) (omega arith))
    (three (λ i. OneToThree (flip 2 i)) (omega arith) (omega arith) (omega arith))
    (three (λ i. OneToThree (flip 3 i)) (omega arith) (omega arith) (omega arith))

-- the ends of an edge change over
pub flip_next : (c : ℕ) → OneToThree c → (i : ℕ) → OneToThree i → flip c (next i) ≡ prev (flip c i)
flip_next =
    three (λ c. (i : ℕ) → OneToThree i → flip c (next i) ≡ prev (flip c i))
    (three (λ i. flip 1 (next i) ≡ prev (flip 1 i)) refl refl refl)
    (three (λ i. flip 2 (next i) ≡ prev (flip 2 i)) refl refl refl)
    (three (λ i. flip 3 (next i) ≡ prev (flip 3 i)) refl refl refl)

pub flip_prev : (c : ℕ) → OneToThree c → (i : ℕ) → OneToThree i → flip c (prev i) ≡ next (flip c i)
flip_prev =
    three (λ c. (i : ℕ) → OneToThree i → flip c (prev i) ≡ next (flip c i))
    (three (λ i. flip 1 (prev i) ≡ next (flip 1 i)) refl refl refl)
    (three (λ i. flip 2 (prev i) ≡ next (flip 2 i)) refl refl refl)
    (three (λ i. flip 3 (prev i) ≡ next (flip 3 i)) refl refl refl)

-- the division
abbrev Turns : ℕ → State → ℕ → Type 0
Turns d s c = step (flip c d) (turn c s) ≡ turn c (step d s)

turn_step : (d : ℕ) (s : State) → d ≤ 3 → (c : ℕ) → OneToThree c → Turns d s c
turn_step zero (Up x y z) h = three (Turns 0 (Up x y z)) refl refl refl
turn_step zero (Down x y z) h = three (Turns 0 (Down x y z)) refl refl refl
turn_step (suc zero) (Up x y z) h = three (Turns 1 (Up x y z)) refl refl refl
turn_step (suc zero) (Down x y z) h = three (Turns 1 (Down x y z)) refl refl refl
turn_step (suc (suc zero)) (Up x y z) h = three (Turns 2 (Up x y z)) refl refl refl
turn_step (suc (suc zero)) (Down x y z) h = three (Turns 2 (Down x y z)) refl refl refl
turn_step (suc (suc (suc zero))) (Up x y z) h = three (Turns 3 (Up x y z)) refl refl refl
turn_step (suc (suc (suc zero))) (Down x y z) h = three (Turns 3 (Down x y z)) refl refl refl
turn_step (suc (suc (suc (suc d)))) s h = absurd (omega arith)

turn_start : (c : ℕ) → OneToThree c → Up 0 0 0 ≡ turn c (Up 0 0 0)
turn_start = three (λ c. Up 0 0 0 ≡ turn c (Up 0 0 0)) refl refl refl

pub turn_all : (c : ℕ) → OneToThree c → (ds : List ℕ) → Digits ds
    → state_of (each (flip c) ds) ≡ turn c (state_of ds)
unfolding state_of
turn_all c l [] h = turn_start c l
turn_all c l (d ∷ ds) h = ap (step (flip c d)) (turn_all c l ds (other_digits h))
    ∙ turn_step d (state_of ds) (first_digit h) c l

pub flip_digit : (c d : ℕ) → OneToThree c → d ≤ 3 → flip c d ≤ 3
flip_digit c zero l h = omega arith
flip_digit c (suc d) l h = let f = flip_three c l (suc d) (omega arith) in omega arith

pub each_digits : (f : ℕ → ℕ) → ((d : ℕ) → d ≤ 3 → f d ≤ 3) → {n : ℕ} {ds : List ℕ}
    → AreDigits n ds
    → AreDigits n (each f ds)
each_digits f h none = none
each_digits f h (more {d = d} l a) = more (h d l) (each_digits f h a)

pub flip_digits : {n : ℕ} (c : ℕ) → OneToThree c → {ds : List ℕ} → AreDigits n ds
    → AreDigits n (each (flip c) ds)
flip_digits c l = each_digits (flip c) (λ d. flip_digit c d l)

pub each_length : (f : ℕ → ℕ) (ds : List ℕ) → length (each f ds) ≡ length ds
each_length f [] = refl
each_length f (d ∷ ds) = ap suc (each_length f ds)

-- the corners
abbrev Corner : State → ℕ → ℕ → Type 0
Corner s c i = point_of (flip c i) (turn c s) ≡ turn_point c (point_of i s)

turn_corner_of : (s : State) → (c : ℕ) → OneToThree c → (i : ℕ) → OneToThree i → Corner s c i
turn_corner_of (Up x y z) =
    three (λ c. (i : ℕ) → OneToThree i → Corner (Up x y z) c i)
    (three (Corner (Up x y z) 1) refl refl refl) (three (Corner (Up x y z) 2) refl refl refl)
    (three (Corner (Up x y z) 3) refl refl refl)
turn_corner_of (Down x y z) =
    three (λ c. (i : ℕ) → OneToThree i → Corner (Down x y z) c i)
    (three (Corner (Down x y z) 1) refl refl refl) (three (Corner (Down x y z) 2) refl refl refl)
    (three (Corner (Down x y z) 3) refl refl refl)

pub turn_corner : (c : ℕ) → OneToThree c → (i : ℕ) → OneToThree i → (s : State)
    → point_of (flip c i) (turn c s) ≡ turn_point c (point_of i s)
turn_corner c l i m s = turn_corner_of s c l i m

-- the step
abbrev Crosses : ℕ → State → ℕ → Type 0
Crosses k s c = across (flip c k) (turn c s) ≡ map (turn c) (across k s)

turn_1 : (s : State) → (c : ℕ) → OneToThree c → Crosses 1 s c
turn_1 (Up zero y z) = three (Crosses 1 (Up zero y z)) refl refl refl
turn_1 (Up (suc x) y z) = three (Crosses 1 (Up (suc x) y z)) refl refl refl
turn_1 (Down x y z) = three (Crosses 1 (Down x y z)) refl refl refl

turn_2 : (s : State) → (c : ℕ) → OneToThree c → Crosses 2 s c
turn_2 (Up x zero z) = three (Crosses 2 (Up x zero z)) refl refl refl
turn_2 (Up x (suc y) z) = three (Crosses 2 (Up x (suc y) z)) refl refl refl
turn_2 (Down x y z) = three (Crosses 2 (Down x y z)) refl refl refl

turn_3 : (s : State) → (c : ℕ) → OneToThree c → Crosses 3 s c
turn_3 (Up x y zero) = three (Crosses 3 (Up x y zero)) refl refl refl
turn_3 (Up x y (suc z)) = three (Crosses 3 (Up x y (suc z))) refl refl refl
turn_3 (Down x y z) = three (Crosses 3 (Down x y z)) refl refl refl

pub turn_across : (c : ℕ) → OneToThree c → (k : ℕ) → OneToThree k → (s : State)
    → across (flip c k) (turn c s) ≡ map (turn c) (across k s)
turn_across c l k m s = three (λ k. (s : State) → (c : ℕ) → OneToThree c → Crosses k s c) turn_1 turn_2 turn_3
    k m s c l

-- Where two sides share the vertices of all axes but k, with these numbers, a point with no weight on axis k has the
-- same twelve weights.
abbrev SameLoad : ℕ → ℕ → Point → ℕ → ℕ → ℕ → Type 0
SameLoad s t p v c i = load (eqb v (corner_vertex t (flip c i))) (weight i p)
    ≡ load (eqb v (corner_vertex s i)) (weight i p)

sum_turn : (s t : ℕ) (p : Point) (v c : ℕ) → OneToThree c → SameLoad s t p v c 1 → SameLoad s t p v c 2
    → SameLoad s t p v c 3
    → weight_at t (turn_point c p) v ≡ weight_at s p v
unfolding weight_at
sum_turn s t p v =
    three (λ c. SameLoad s t p v c 1 → SameLoad s t p v c 2 → SameLoad s t p v c 3
    → weight_at t (turn_point c p) v ≡ weight_at s p v)
    (λ e f g. omega arith) (λ e f g. omega arith) (λ e f g. omega arith)

module _ (s t c k : ℕ) (l : OneToThree c) (joins : (i : ℕ) → OneToThree i → (i ≡ k → ⊥)
    → corner_vertex t (flip c i) ≡ corner_vertex s i) where
  term : (v : ℕ) (p : Point) → weight k p ≡ 0 → (i : ℕ) → OneToThree i → SameLoad s t p v c i
  term v p z i m =
      ⊎_elim
      (λ e. let w : weight i p ≡ 0 = rw e z in rw w (load_zero (eqb v (corner_vertex t (flip c i)))
      ∙ sym (load_zero (eqb v (corner_vertex s i)))))
      (λ f. ap (λ (u : ℕ). load (eqb v u) (weight i p)) (joins i m f)) (either_way (same i k))

  at_each : (p : Point) → weight k p ≡ 0 → (v : ℕ) → weight_at t (turn_point c p) v ≡ weight_at s p v
  at_each p z v = sum_turn s t p v c l (term v p z 1 (omega arith)) (term v p z 2 (omega arith))
      (term v p z 3 (omega arith))

  pub over_seam : (p : Point) → weight k p ≡ 0 → spread t (turn_point c p) ≡ spread s p
  unfolding spread
  over_seam p z = each_same (weight_at t (turn_point c p)) (weight_at s p) (at_each p z) vertices
