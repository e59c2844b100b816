-- The last digit is known from the parities of the floor, so a state has one list of digits of each length. Assumes nothing.
use mathlib.Core.Path.{◌≡◌, refl, sym, ap, ◌∙◌}
use mathlib.Core.List.{List, [], ◌∷◌}
use Prim.Native.Nat.{ℕ, zero, suc, ◌*◌, ◌/◌, ◌%◌, ◌≤◌}
use native.Mathlib.Omega.{arith}
use lib.ListN.{length}
use Rattle.words.proofs.Digits.{first_digit, other_digits}
use Rattle.net.specs.Means.States.{halves, last_of, state_of, step}
use Rattle.net.specs.declared.State.{State}
use Rattle.net.specs.declared.State.TheVariants.{Down, Up}
use Rattle.net.proofs.Paths.{Digits}

even : (x : ℕ) → (2 * x) % 2 ≡ 0
even x = omega arith

odd : (x : ℕ) → suc (2 * x) % 2 ≡ 1
odd x = omega arith

even' : (x : ℕ) → suc (suc (2 * x)) % 2 ≡ 0
even' x = omega arith

ruleset parities = (even, odd, even')

pub last_step : (d : ℕ) (s : State) → d ≤ 3 → last_of (step d s) ≡ d
last_step zero (Up x y z) h = simp parities
last_step zero (Down x y z) h = simp parities
last_step (suc zero) (Up x y z) h = simp parities
last_step (suc zero) (Down x y z) h = simp parities
last_step (suc (suc zero)) (Up x y z) h = simp parities
last_step (suc (suc zero)) (Down x y z) h = simp parities
last_step (suc (suc (suc k))) (Up x y z) h = simp parities (omega arith)
last_step (suc (suc (suc k))) (Down x y z) h = simp parities (omega arith)

half : (x : ℕ) → 2 * x / 2 ≡ x
half x = omega arith

half' : (x : ℕ) → suc (2 * x) / 2 ≡ x
half' x = omega arith

ruleset half_of_lem = (half, half')

pub back : (d : ℕ) (s : State) → halves d (step d s) ≡ s
back zero (Up x y z) = simp half_of_lem
back zero (Down x y z) = simp half_of_lem
back (suc zero) (Up x y z) = simp half_of_lem
back (suc zero) (Down x y z) = simp half_of_lem
back (suc (suc zero)) (Up x y z) = simp half_of_lem
back (suc (suc zero)) (Down x y z) = simp half_of_lem
back (suc (suc (suc k))) (Up x y z) = simp half_of_lem
back (suc (suc (suc k))) (Down x y z) = simp half_of_lem

pub one_list : (ds es : List ℕ) → length ds ≡ length es → Digits ds → Digits es → state_of ds ≡ state_of es → ds ≡ es
unfolding state_of
one_list [] [] l p q e = refl
one_list [] (d ∷ es) l p q e = absurd (omega arith)
one_list (d ∷ ds) [] l p q e = absurd (omega arith)
one_list (d ∷ ds) (c ∷ es) l p q e =
    let same : d ≡ c = sym (last_step d (state_of ds) (first_digit p)) ∙ ap last_of e ∙ last_step c (state_of es) (first_digit q) in
    let rest : state_of ds ≡ state_of es =
    sym (back d (state_of ds)) ∙ ap (halves d) e ∙ ap (λ (k : ℕ). halves k (step c (state_of es))) same ∙ back c (state_of es) in
    cc (one_list ds es (omega arith) (other_digits p) (other_digits q) rest)
