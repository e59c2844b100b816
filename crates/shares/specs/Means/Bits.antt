-- The digits of a path as two words of bits. What the code is proved by, and no promise. Assumes nothing.
use Rattle.std.specs.Prelude.{ℕ, zero, suc, ◌+◌, ◌*◌, ◌/◌, ◌%◌, ◌^◌, ◌≤◌, ◌<◌}
use Rattle.shares.specs.declared.Floors.{Floors}
use Rattle.shares.specs.Means.Shares.{strict}
use Rattle.shares.specs.Means.Paths.{in_child, least_digit}

-- n bits of x, each at an even place
unfoldable pub spread : (n x : ℕ) → ℕ
spread zero x = 0
spread (suc n) x = 4 * spread n (x / 2) + x % 2

-- the lower bits of r digits, and the higher, of a direction strictly inside
unfoldable pub low_word : (r : ℕ) → Floors → ℕ
low_word zero F = 0
low_word (suc r) F = (least_digit (2 ^ r) F strict % 2) * 2 ^ r + low_word r (in_child (2 ^ r) (least_digit (2 ^ r) F
    strict) F strict)

unfoldable pub high_word : (r : ℕ) → Floors → ℕ
high_word zero F = 0
high_word (suc r) F = (least_digit (2 ^ r) F strict / 2) * 2 ^ r + high_word r (in_child (2 ^ r) (least_digit (2 ^ r) F
    strict) F strict)

-- the floors of a triangle of p parts, pointing up or down
pub record Whole (p : ℕ) (F : Floors) : Type 0 where
  pub least : p ≤ F.f1 + F.f2 + F.f3 + 2
  pub most : F.f1 + F.f2 + F.f3 < p
