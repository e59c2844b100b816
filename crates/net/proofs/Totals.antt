-- The weights of each corner of a state add to one number, which a division doubles. Assumes nothing.
use mathlib.Core.Path.{◌≡◌, refl}
use mathlib.Core.List.{List, [], ◌∷◌}
use Prim.Native.Nat.{ℕ, zero, suc, ◌+◌, ◌*◌, ◌^◌}
use native.Mathlib.Nat.{pow-suc}
use native.Mathlib.Omega.{arith}
use lib.ListN.{length}
use Rattle.net.specs.Means.States.{point_of, state_of, step}
use Rattle.net.specs.declared.State.{State}
use Rattle.net.specs.declared.State.TheVariants.{Down, Up}

abbrev pub total : State → ℕ
total (Up x y z) = x + y + z + 1
total (Down x y z) = x + y + z + 2

pub twice : (d : ℕ) (s : State) → total (step d s) ≡ 2 * total s
twice zero (Up x y z) = omega arith
twice zero (Down x y z) = omega arith
twice (suc zero) (Up x y z) = omega arith
twice (suc zero) (Down x y z) = omega arith
twice (suc (suc zero)) (Up x y z) = omega arith
twice (suc (suc zero)) (Down x y z) = omega arith
twice (suc (suc (suc k))) (Up x y z) = omega arith
twice (suc (suc (suc k))) (Down x y z) = omega arith

pub total_is : (ds : List ℕ) → total (state_of ds) ≡ 2 ^ length ds
unfolding state_of
total_is [] = refl
total_is (d ∷ ds) = omega (arith, twice d (state_of ds), total_is ds, pow-suc 2 (length ds))

pub point_total : (i : ℕ) (s : State) → (point_of i s).w1 + (point_of i s).w2 + (point_of i s).w3 ≡ total s
point_total zero (Up x y z) = omega arith
point_total zero (Down x y z) = omega arith
point_total (suc zero) (Up x y z) = omega arith
point_total (suc zero) (Down x y z) = omega arith
point_total (suc (suc zero)) (Up x y z) = omega arith
point_total (suc (suc zero)) (Down x y z) = omega arith
point_total (suc (suc (suc i))) (Up x y z) = omega arith
point_total (suc (suc (suc i))) (Down x y z) = omega arith
