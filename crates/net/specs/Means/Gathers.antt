-- One bit of each digit of a path, gathered into one number. Assumes nothing.
use Rattle.std.specs.Prelude.{ℕ, zero, suc, ◌+◌, ◌*◌, ◌/◌, ◌%◌}

-- the lower bit of a digit
abbrev pub low_bit : ℕ → ℕ
low_bit d = d % 2

-- the bit g of each of the last n digits of v, the last lowest
unfoldable pub gather : (ℕ → ℕ) → (n v : ℕ) → ℕ
gather g zero v = 0
gather g (suc n) v = gather g n (v / 4) * 2 + g (v % 4)
