-- `net::State::corner` meets its contract, case by case; the sums fit, as the floor is below 2^24. Assumes nothing.
-- the floor that the arm binds
use mathlib.Core.Path.{◌≡◌}
use Prim.Native.Nat.{◌^◌, ◌<◌}
use native.Mathlib.Numerals.{add-one}
use native.Mathlib.Omega.{arith}
use Rattle.net.proofs.State.corner.Goals as goal
use Rattle.net.proofs.State.corner.Lts as lts
use Rattle.net.proofs.State.corner.Reads as reads

abbrev In-Down : Type 0
In-Down = lts.Past-After-known_told2 reads.Pre reads.Post

abbrev In-Up : Type 0
In-Up = lts.Past-After-known_told reads.Pre reads.Post

up : (c : In-Up) → (c.in-Up.x < 2 ^ 24) × (c.in-Up.y < 2 ^ 24) × (c.in-Up.z < 2 ^ 24)
up c = rw c.in-Up.is at c.requires.1

down : (c : In-Down) → (c.in-Down.x < 2 ^ 24) × (c.in-Down.y < 2 ^ 24) × (c.in-Down.z < 2 ^ 24)
down c = rw c.in-Down.is at c.requires.1

pub overflow_add-result : goal.overflow_add-result
overflow_add-result c = omega (arith, up c.before)

pub overflow_add-result-in-2 : goal.overflow_add-result-in-2
overflow_add-result-in-2 c = omega (arith, up c.before)

pub overflow_add-result-in_default : goal.overflow_add-result-in_default
overflow_add-result-in_default c = omega (arith, up c.before)

pub overflow_add-result-in-1-i : goal.overflow_add-result-in-1-i
overflow_add-result-in-1-i c = omega (arith, down c.before)

pub overflow_add-result-in-1-i-2 : goal.overflow_add-result-in-1-i-2
overflow_add-result-in-1-i-2 c = omega (arith, down c.before)

pub overflow_add-result-in-2-i : goal.overflow_add-result-in-2-i
overflow_add-result-in-2-i c = omega (arith, down c.before)

pub overflow_add-result-in-2-i-2 : goal.overflow_add-result-in-2-i-2
overflow_add-result-in-2-i-2 c = omega (arith, down c.before)

pub overflow_add-result-in_default-i : goal.overflow_add-result-in_default-i
overflow_add-result-in_default-i c = omega (arith, down c.before)

pub overflow_add-result-in_default-i-2 : goal.overflow_add-result-in_default-i-2
overflow_add-result-in_default-i-2 c = omega (arith, down c.before)

pub returns-in-1 : goal.returns-in-1
returns-in-1 c = simp (c.in-1.is, c.in-Up.is, add-one)

pub returns-in-2 : goal.returns-in-2
returns-in-2 c = simp (c.in-2.is, c.in-Up.is, add-one)

pub returns-in_default : goal.returns-in_default
returns-in_default c = let e : c.args.i ≡ 3 = omega (arith, c.in_default.in_default-own.rest.1, c.in_default.in_default-own.rest.0.1) in simp (e, c.in-Up.is, add-one)

pub returns-in-1-i : goal.returns-in-1-i
returns-in-1-i c = simp (c.in-1-i.is, c.in-Down.is, add-one)

pub returns-in-2-i : goal.returns-in-2-i
returns-in-2-i c = simp (c.in-2-i.is, c.in-Down.is, add-one)

pub returns-in_default-i : goal.returns-in_default-i
returns-in_default-i c = let e : c.args.i ≡ 3 = omega (arith, c.in_default-i.in_default-i-own.rest.1, c.in_default-i.in_default-i-own.rest.0.1) in simp (e, c.in-Down.is, add-one)
