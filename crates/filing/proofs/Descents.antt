-- The choice of a child by the first that holds, and how long a path is one digit further down. Assumes nothing.
use mathlib.Core.Path.{◌≡◌}
use mathlib.Core.Bool.{Bool, true, false}
use Prim.Native.Nat.{ℕ, suc, ◌+◌, ◌-◌, ◌*◌, ◌^◌, ◌<◌, ◌≤◌}
use native.Mathlib.Nat.{lt_of_lt_of_le}
use native.Mathlib.Omega.{arith}
use lib.Pow.{pow_mono}
use Rattle.net.proofs.Paths.{four}
use Rattle.filing.specs.Means.Descent.{child_dets, holds, first, least_child}
use Rattle.filing.specs.declared.Determinants.{Determinants}

-- ---- the choice, by the first child that holds

module _ (D : Determinants) where
  abbrev test : ℕ → Bool
  test k = holds (child_dets k D)

  pub least_0 : (a : Bool) → a ≡ test 0 → a ≡ true → 0 ≡ least_child D
  unfolding least_child first
  least_0 a p e = simp (← p, e)

  pub least_1 : (a b : Bool) → a ≡ test 0 → a ≡ false → b ≡ test 1 → b ≡ true → 1 ≡ least_child D
  unfolding least_child first
  least_1 a b p e q f = simp (← p, e, ← q, f)

  pub least_2 : (a b c : Bool) → a ≡ test 0 → a ≡ false → b ≡ test 1 → b ≡ false → c ≡ test 2
      → c ≡ true → 2 ≡ least_child D
  unfolding least_child first
  least_2 a b c p e q f r g = simp (← p, e, ← q, f, ← r, g)

  pub least_3 : (a b c : Bool) → a ≡ test 0 → a ≡ false → b ≡ test 1 → b ≡ false → c ≡ test 2
      → c ≡ false → 3 ≡ least_child D
  unfolding least_child first
  least_3 a b c p e q f r g = simp (← p, e, ← q, f, ← r, g)

-- ---- the path, one digit further

pub path_down : (n v d : ℕ) → (n ≡ 0 → ⊥) → n ≤ 24 → d < 4 → v < 2 ^ (2 * (24 - n))
    → 4 * v + d < 2 ^ (2 * (24 - (n - 1)))
path_down n v d f l h k =
    let e : 24 - (n - 1) ≡ suc (24 - n) = omega arith in
    rw e (omega (arith, four (24 - n)))

pub path_fits : (n v : ℕ) → (n ≡ 0 → ⊥) → v < 2 ^ (2 * (24 - n)) → v < 2 ^ 46
path_fits n v f k = lt_of_lt_of_le k (pow_mono {i = 2 * (24 - n)} {j = 46} (omega arith))
