-- The state of a path from the bits of all its digits: a floor's bit is whether the digit is that corner's, turned over
-- where the triangle above points down; and a triangle points down where the number of zeros so far is odd. Assumes
-- nothing.
use mathlib.Core.Path.{◌≡◌, refl, sym, ◌∙◌, ap}
use Prim.Native.Nat.{ℕ, zero, suc, ◌+◌, ◌-◌, ◌*◌, ◌/◌, ◌%◌, ◌^◌, ◌≤◌, ◌<◌}
use native.Mathlib.Nat.{pow-suc}
use native.Mathlib.Omega.{arith}
use lib.Pow.{pow_mono}
use lib.Bits.{bit_xor, bit_and, bit_or, xor_block, and_block, or_block, xor_shr, xor_mod, xor_lt, and_lt}
use Rattle.net.specs.Means.States.{state_of, step}
use Rattle.net.specs.Means.Paths.{digits_of}
use Rattle.net.specs.Means.Gathers.{gather, low_bit}
use Rattle.net.specs.declared.State.{State}
use Rattle.net.specs.declared.State.TheVariants.{Up, Down}
use Rattle.net.proofs.Gathering.{gather_high, gather_short, high_bit}
use Rattle.net.proofs.StateCorners.{down_same, up_same}
use Rattle.net.proofs.Summing.{xor_zero_same}
use Rattle.net.proofs.Table.{sound, below, same, less, ◌then◌}

-- 1 for the digit 0
abbrev zero_bit : ℕ → ℕ
zero_bit zero = 1
zero_bit (suc d) = 0

-- a floor, pointing down where o is not 0
abbrev placed : (o x y z : ℕ) → State
placed zero x y z = Up x y z
placed (suc o) x y z = Down x y z

-- the state of the lower and the higher bits of all digits; the bits of a tell which of the triangles above point down
abbrev pub from_bits : (o l h a : ℕ) → State
from_bits o l h a =
    placed o (bit_xor (bit_xor l (bit_and l h)) a) (bit_xor (bit_xor h (bit_and l h)) a) (bit_xor (bit_and l h) a)

-- ---- one digit more

-- 1 for the digit 3
abbrev three : ℕ → ℕ
three d = bit_and (d % 2) (d / 2)

-- the child with digit d, by the digit's bits
step_is : (d o x y z : ℕ) → d < 4 → o < 2
    → step d (placed o x y z)
    ≡ placed (bit_xor o (zero_bit d))
    (x * 2 + bit_xor (bit_xor (d % 2) (three d)) o)
    (y * 2 + bit_xor (bit_xor (d / 2) (three d)) o)
    (z * 2 + bit_xor (three d) o)
step_is zero zero x y z l h = down_same (omega arith) (omega arith) (omega arith)
step_is zero (suc zero) x y z l h = up_same (omega arith) (omega arith) (omega arith)
step_is (suc zero) zero x y z l h = up_same (omega arith) (omega arith) (omega arith)
step_is (suc zero) (suc zero) x y z l h = down_same (omega arith) (omega arith) (omega arith)
step_is (suc (suc zero)) zero x y z l h = up_same (omega arith) (omega arith) (omega arith)
step_is (suc (suc zero)) (suc zero) x y z l h = down_same (omega arith) (omega arith) (omega arith)
step_is (suc (suc (suc zero))) zero x y z l h = up_same (omega arith) (omega arith) (omega arith)
step_is (suc (suc (suc zero))) (suc zero) x y z l h = down_same (omega arith) (omega arith) (omega arith)
step_is (suc (suc (suc (suc d)))) o x y z l h = absurd (omega arith)
step_is zero (suc (suc o)) x y z l h = absurd (omega arith)
step_is (suc zero) (suc (suc o)) x y z l h = absurd (omega arith)
step_is (suc (suc zero)) (suc (suc o)) x y z l h = absurd (omega arith)
step_is (suc (suc (suc zero))) (suc (suc o)) x y z l h = absurd (omega arith)

-- the same with the bits of all digits, d the last
module _ (d o l h a : ℕ) (ld : d < 4) (lo : o < 2) where
  both : bit_and (l * 2 + d % 2) (h * 2 + d / 2) ≡ bit_and l h * 2 + three d
  both = and_block 1 l h (d % 2) (d / 2) (omega arith) (omega arith)

  three_small : three d < 2
  three_small = and_lt 1 (d % 2) (d / 2) (omega arith) (omega arith)

  floor : (x b : ℕ) → b < 2
      → bit_xor (bit_xor (x * 2 + b) (bit_and (l * 2 + d % 2) (h * 2 + d / 2))) (a * 2 + o)
      ≡ bit_xor (bit_xor x (bit_and l h)) a * 2 + bit_xor (bit_xor b (three d)) o
  floor x b lb =
      ap (λ (y : ℕ). bit_xor (bit_xor (x * 2 + b) y) (a * 2 + o)) both
      ∙ ap (λ (y : ℕ). bit_xor y (a * 2 + o)) (xor_block 1 x (bit_and l h) b (three d) lb three_small)
      ∙ xor_block 1 (bit_xor x (bit_and l h)) a (bit_xor b (three d)) o (xor_lt 1 b (three d) lb three_small) lo

  third : bit_xor (bit_and (l * 2 + d % 2) (h * 2 + d / 2)) (a * 2 + o) ≡ bit_xor (bit_and l h) a * 2 + bit_xor (three d) o
  third = ap (λ (y : ℕ). bit_xor y (a * 2 + o)) both ∙ xor_block 1 (bit_and l h) a (three d) o three_small lo

  step_bits : step d (from_bits o l h a) ≡ from_bits (bit_xor o (zero_bit d)) (l * 2 + d % 2) (h * 2 + d / 2) (a * 2 + o)
  step_bits =
      let x = floor l (d % 2) (omega arith) in
      let y = floor h (d / 2) (omega arith) in
      step_is d o _ _ _ ld lo ∙ sym (λ i. placed (bit_xor o (zero_bit d)) (x i) (y i) (third i))

-- ---- all digits

zero_small : (d : ℕ) → d < 4 → zero_bit d < 2
zero_small = sound (below 4 λ d. less (zero_bit d) 2) refl

-- a bit from the one above it and what they differ by
back : (z : ℕ) → z < 2 → (q : ℕ) → q < 2 → (p : ℕ) → p < 2 → bit_xor p q ≡ z → p ≡ bit_xor q z
back = sound (below 2 λ z. below 2 λ q. below 2 λ p. same (bit_xor p q) z then same p (bit_xor q z)) refl

-- w is whether the triangle of each degree points down: it changes where a digit is 0
state_is : (n v w : ℕ) → bit_xor w (w / 2) ≡ gather zero_bit n v
    → state_of (digits_of n v) ≡ from_bits (w % 2) (gather low_bit n v) (gather high_bit n v) (w / 2)
unfolding state_of digits_of gather
state_is zero v w e =
    let f = xor_zero_same w (w / 2) e in
    let z : w ≡ 0 = omega arith in
    rw z refl
state_is (suc n) v w e =
    let d = v % 4 in
    let o = w / 2 % 2 in
    let s = zero_small d (omega arith) in
    let above : bit_xor (w / 2) (w / 2 / 2) ≡ gather zero_bit n (v / 4) =
    sym (xor_shr w (w / 2) 1) ∙ ap (λ (x : ℕ). x / 2) e ∙ omega arith in
    let last : bit_xor (w % 2) o ≡ zero_bit d = sym (xor_mod w (w / 2) 1) ∙ ap (λ (x : ℕ). x % 2) e
    ∙ omega arith in
    let down : bit_xor o (zero_bit d) ≡ w % 2 = sym (back (zero_bit d) s o (omega arith) (w % 2) (omega arith) last) in
    let whole : w / 2 / 2 * 2 + o ≡ w / 2 = omega arith in
    ap (step d) (state_is n (v / 4) (w / 2) above)
    ∙ step_bits d o _ _ (w / 2 / 2) (omega arith) (omega arith)
    ∙ λ i. from_bits (down i) (gather low_bit (suc n) v) (gather high_bit (suc n) v) (whole i)

-- a digit is 0, or has a bit
bit_or_lem : (d : ℕ) → d < 4 → bit_or (d % 2) (d / 2) + zero_bit d ≡ 1
bit_or_lem = sound (below 4 λ d. same (bit_or (d % 2) (d / 2) + zero_bit d) 1) refl

-- so the zeros are where no word has a bit
zeros_are : (n v : ℕ) → bit_or (gather low_bit n v) (gather high_bit n v) + gather zero_bit n v + 1 ≡ 2 ^ n
unfolding gather
zeros_are zero v = refl
zeros_are (suc n) v =
    let d = v % 4 in
    let l = gather low_bit n (v / 4) in
    let h = gather high_bit n (v / 4) in
    let e = or_block 1 l h (d % 2) (d / 2) (omega arith) (omega arith) in
    omega (arith, e, bit_or_lem d (omega arith), zeros_are n (v / 4), pow-suc 2 n)

-- ---- for the code

-- l and h are the lower and the higher bits of the n digits of v
pub record AreBits (n v l h : ℕ) : Type 0 where
  pub low : l ≡ gather low_bit n v
  pub high : h ≡ gather high_bit n v

-- the code gathers 32 digits, of which those above the n are 0
pub are_bits : {n v l h : ℕ} → n ≤ 24 → v < 2 ^ (2 * n) → l ≡ gather low_bit 32 v
    → h ≡ gather low_bit 32 (v / 2)
    → AreBits n v l h
are_bits {n} {v} hn hv e f = record {
  low = e ∙ gather_short n 32 v (omega arith) hv;
  high = f ∙ gather_short n 32 (v / 2) (omega arith) (omega arith) ∙ gather_high n v;
}

module _ {n v l h : ℕ} (b : AreBits n v l h) where
  zeros : bit_or l h + gather zero_bit n v + 1 ≡ 2 ^ n
  zeros = (λ i. bit_or (b.low i) (b.high i) + gather zero_bit n v + 1) ∙ zeros_are n v

  pub some_small : bit_or l h ≤ 2 ^ n - 1
  some_small = omega (arith, zeros)

  pub zeros_small : n ≤ 24 → 2 ^ n - 1 - bit_or l h < 2 ^ 32
  zeros_small hn = omega (arith, pow_mono {i = n} {j = 24} hn)

  pub state_by : (w o : ℕ) → bit_xor w (w / 2) ≡ 2 ^ n - 1 - bit_or l h → w % 2 ≡ o
      → from_bits o l h (w / 2) ≡ state_of (digits_of n v)
  state_by w o e f =
      let z : 2 ^ n - 1 - bit_or l h ≡ gather zero_bit n v = omega (arith, zeros) in
      sym (state_is n v w (e ∙ z) ∙ λ i. from_bits (f i) (sym b.low i) (sym b.high i) (w / 2))
