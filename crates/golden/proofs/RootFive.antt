-- Naturals against √5: `5 * (b * b) ≤ a * a` says that a is at least b√5. Assumes nothing.
use mathlib.Core.Path.{◌≡◌, refl, sym}
use mathlib.Core.Logic.{⊎_elim}
use Prim.Native.Nat.{ℕ, zero, suc, ◌+◌, ◌*◌, ◌-◌, ◌≤◌, ◌<◌}
use native.Mathlib.Nat.{mul-le-mul}
use native.Mathlib.Omega.{arith}
use mathlib.Core.Bool.{Bool, true, false, not, false≢true}
use Rattle.golden.proofs.IntegerOrder.{le_or_lt}
use Rattle.golden.specs.Decisions.{Decides}

-- ---- squares and the order

pub sq_lt : {a b : ℕ} → a < b → a * a < b * b
sq_lt {a} {b} h = omega (arith, mul-le-mul h h)

pub sq_le : {a b : ℕ} → a ≤ b → a * a ≤ b * b
sq_le h = mul-le-mul h h

pub le_of_sq : {a b : ℕ} (_ : a * a ≤ b * b) → a ≤ b
le_of_sq {a} {b} h = ⊎_elim (λ l. l) (λ l. let z : ⊥ = omega (arith, sq_lt l) in absurd z) (le_or_lt a b)

-- ---- a ≥ b√5 and c ≥ d√5 give ac ≥ 5bd, and so (a + c) ≥ (b + d)√5; and the same the other way round

pub cross_ge : (a b c d : ℕ) → 5 * (b * b) ≤ a * a → 5 * (d * d) ≤ c * c → 5 * (b * d) ≤ a * c
cross_ge a b c d h k = le_of_sq (omega (arith, mul-le-mul h k))

pub cross_le : (a b c d : ℕ) → a * a ≤ 5 * (b * b) → c * c ≤ 5 * (d * d) → a * c ≤ 5 * (b * d)
cross_le a b c d h k = le_of_sq (omega (arith, mul-le-mul h k))

pub sum_ge : (a b c d : ℕ) → 5 * (b * b) ≤ a * a → 5 * (d * d) ≤ c * c → 5 * ((b + d) * (b + d)) ≤ (a + c) * (a + c)
sum_ge a b c d h k = omega (arith, cross_ge a b c d h k)

pub sum_gt : (a b c d : ℕ) → 5 * (b * b) < a * a → 5 * (d * d) ≤ c * c → 5 * ((b + d) * (b + d)) < (a + c) * (a + c)
sum_gt a b c d h k = omega (arith, cross_ge a b c d (omega arith) k)

pub sum_le : (a b c d : ℕ) → a * a ≤ 5 * (b * b) → c * c ≤ 5 * (d * d) → (a + c) * (a + c) ≤ 5 * ((b + d) * (b + d))
sum_le a b c d h k = omega (arith, cross_le a b c d h k)

pub sum_lt : (a b c d : ℕ) → a * a < 5 * (b * b) → c * c ≤ 5 * (d * d) → (a + c) * (a + c) < 5 * ((b + d) * (b + d))
sum_lt a b c d h k = omega (arith, cross_le a b c d (omega arith) k)

-- ---- √5 is irrational, by descent: with k = a − 2b and j = b − 2k, a² − 5b² = 5k² − j²

pub descend : (a b k j : ℕ) → a ≡ k + 2 * b → b ≡ 2 * k + j → a * a + j * j ≡ 5 * (b * b) + 5 * (k * k)
descend a b k j e f = rw (e, f) (omega arith)

irr_step : (fuel a b : ℕ) → ((x y : ℕ) → y ≤ fuel → x * x ≡ 5 * (y * y) → y ≡ 0) → b ≤ suc fuel → a * a ≡ 5 * (b * b) → 0 < b → b ≡ 0
irr_step fuel a b ih h e l =
    let p : 1 * 1 ≤ b * b = mul-le-mul l l in
    let lo : 2 * b ≤ a = le_of_sq (omega arith) in
    let hi : 2 * a ≤ 5 * b = le_of_sq (omega arith) in
    let d : a * a + (5 * b - 2 * a) * (5 * b - 2 * a) ≡ 5 * (b * b) + 5 * ((a - 2 * b) * (a - 2 * b)) = descend a b (a - 2 * b) (5 * b - 2 * a) (omega arith) (omega arith) in
    let up : a < 3 * b = ⊎_elim (λ l. let z : ⊥ = omega (arith, sq_le l) in absurd z) (λ l. l) (le_or_lt (3 * b) a) in
    let z : a - 2 * b ≡ 0 = ih (5 * b - 2 * a) (a - 2 * b) (omega arith) (omega arith) in
    let q : a ≡ 2 * b = omega arith in
    omega (arith, rw q at e)

irr : (fuel a b : ℕ) → b ≤ fuel → a * a ≡ 5 * (b * b) → b ≡ 0
irr zero a b h e = omega arith
irr (suc fuel) a b h e = ⊎_elim (λ l. omega arith) (irr_step fuel a b (irr fuel) h e) (le_or_lt b 0)

pub irrational : (a b : ℕ) → a * a ≡ 5 * (b * b) → (a ≡ 0) × (b ≡ 0)
irrational a b e =
    let z : b ≡ 0 = irr b a b (omega arith) e in
    let y : a * a ≤ 0 * 0 = omega (arith, rw z at e) in
    let x : a ≤ 0 = le_of_sq y in
    (omega arith, z)

-- ---- the decision, by its cases

true≢false : true ≡ false → ⊥
true≢false e = false≢true (sym e)

pub is_true : {P : Type 0} → P → Decides true P
is_true p = record { holds = λ e. p; fails = λ e q. true≢false e }

pub is_false : {P : Type 0} → (P → ⊥) → Decides false P
is_false f = record { holds = λ e. absurd (false≢true e); fails = λ e q. f q }

pub ge_thrice : (a b : ℕ) → 2 * b + b ≤ a → Decides true (5 * (b * b) ≤ a * a)
ge_thrice a b h = is_true (omega (arith, sq_le h))

pub le_twice : (a b : ℕ) → a < 2 * b + b → a ≤ 2 * b → Decides false (5 * (b * b) ≤ a * a)
le_twice a b h k = let l : 0 < b = omega arith in is_false (λ q. omega (arith, sq_le k, mul-le-mul l l))

pub ge_half_five : (a b : ℕ) → 5 * b ≤ 2 * a → Decides true (5 * (b * b) ≤ a * a)
ge_half_five a b h = is_true (omega (arith, sq_le h))

pub turn : (r : Bool) (a b : ℕ) → 2 * b < a → 2 * a < 5 * b → Decides r (5 * ((a - 2 * b) * (a - 2 * b)) ≤ (5 * b - 2 * a) * (5 * b - 2 * a)) → Decides (not r) (5 * (b * b) ≤ a * a)
turn true a b h k d =
    let e : a * a + (5 * b - 2 * a) * (5 * b - 2 * a) ≡ 5 * (b * b) + 5 * ((a - 2 * b) * (a - 2 * b)) = descend a b (a - 2 * b) (5 * b - 2 * a) (omega arith) (omega arith) in
    let l : 5 * ((a - 2 * b) * (a - 2 * b)) ≤ (5 * b - 2 * a) * (5 * b - 2 * a) = d.holds refl in
    is_false (λ q. omega (arith, irrational a b (omega arith)))
turn false a b h k d =
    let e : a * a + (5 * b - 2 * a) * (5 * b - 2 * a) ≡ 5 * (b * b) + 5 * ((a - 2 * b) * (a - 2 * b)) = descend a b (a - 2 * b) (5 * b - 2 * a) (omega arith) (omega arith) in
    ⊎_elim (λ l. absurd (d.fails refl l)) (λ l. is_true (omega arith)) (le_or_lt (5 * ((a - 2 * b) * (a - 2 * b))) ((5 * b - 2 * a) * (5 * b - 2 * a)))
