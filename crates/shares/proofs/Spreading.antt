-- The path by the least child each time, of a direction strictly inside, from two words of bits. Assumes nothing.
use mathlib.Core.Path.{◌≡◌, refl, sym, ◌∙◌, ap, subst}
use Prim.Native.Nat.{ℕ, zero, suc, ◌+◌, ◌-◌, ◌*◌, ◌/◌, ◌%◌, ◌^◌, ◌≤◌, ◌<◌}
use native.Mathlib.Nat.{pow-suc, suc-add, add-suc, add-zero, mul_assoc, mul_comm, mod-lt, mul-add-div_right}
use native.Mathlib.Omega.{arith}
use lib.Bits.{block_half, block_odd, bit_and, bit_or, and_le_r}
use lib.Pow.{pow-add, pow_mono, pow_pos, shl_lt, split, shr_lt}
use Rattle.net.proofs.Table.{sound, below, same}
use Rattle.net.proofs.Paths.{four}
use Rattle.shares.specs.declared.Floors.{Floors}
use Rattle.shares.specs.Means.Shares.{strict}
use Rattle.shares.specs.Means.Paths.{least_digit, in_child, least_path}
use Rattle.shares.specs.Means.Bits.{spread, low_word, high_word}
use Rattle.shares.proofs.LeastSteps.{digit_small}
use Rattle.shares.proofs.LeastPath.{half_power}

-- the digit of the least child, and the floors in it
abbrev pub digit : (h : ℕ) → Floors → ℕ
digit h F = least_digit h F strict

abbrev pub child : (h : ℕ) → Floors → Floors
child h F = in_child h (least_digit h F strict) F strict

pub spread_block :
    (n k a g : ℕ) → g < 2 ^ k → spread (n + k) (a * 2 ^ k + g) ≡ spread n a * 2 ^ (2 * k) + spread k g
unfolding spread
spread_block n zero a g h =
    let e : a * 1 + g ≡ a = omega arith in
    rw (add-zero n, e) (omega arith)
spread_block n (suc k) a g h =
    let l : g / 2 < 2 ^ k = omega (arith, pow-suc 2 k) in
    let m : spread n a * 2 ^ (2 * suc k) ≡ 4 * (spread n a * 2 ^ (2 * k)) = rw four (omega arith) in
    rw (add-suc n k, block_half a k g, block_odd a k g, spread_block n k a (g / 2) l) (omega arith)

-- ---- the two words have one bit for each digit

bit_le : (b p : ℕ) → b < 2 → b * p ≤ p
bit_le zero p h = omega arith
bit_le (suc zero) p h = omega arith
bit_le (suc (suc b)) p h = absurd (omega arith)

pub bit_more : (r b x : ℕ) → b < 2 → x < 2 ^ r → b * 2 ^ r + x < 2 ^ suc r
bit_more r b x l h = omega (arith, pow-suc 2 r, bit_le b (2 ^ r) l)

pub low_small : (r : ℕ) (F : Floors) → low_word r F < 2 ^ r
unfolding low_word
low_small zero F = omega arith
low_small (suc r) F = bit_more r _ _ (omega arith) (low_small r (child (2 ^ r) F))

pub high_small : (r : ℕ) (F : Floors) → high_word r F < 2 ^ r
unfolding high_word
high_small zero F = omega arith
high_small (suc r) F =
    bit_more r _ _ (omega (arith, digit_small (2 ^ r) F strict)) (high_small r (child (2 ^ r) F))

-- ---- the path from them

-- the first n bits of n + k
module _ (n k : ℕ) where
  first_more : (b x : ℕ) → (b * 2 ^ (n + k) + x) / 2 ^ k ≡ b * 2 ^ n + x / 2 ^ k
  first_more b x =
      ap (λ (y : ℕ). (b * y + x) / 2 ^ k) (pow-add 2 n k)
      ∙ ap (λ (y : ℕ). (y + x) / 2 ^ k) (sym (mul_assoc b (2 ^ n) (2 ^ k)))
      ∙ mul-add-div_right (pow_pos k) (b * 2 ^ n) x

  -- one more bit above
  spread_more :
      (b x : ℕ)
      → b < 2
      → x < 2 ^ (n + k)
      → spread (suc n) ((b * 2 ^ (n + k) + x) / 2 ^ k) ≡ b * 2 ^ (2 * n) + spread n (x / 2 ^ k)
  unfolding spread
  spread_more b x l h =
      let one : 4 * 0 + b % 2 ≡ b = omega arith in
      let p : suc n ≡ 1 + n = omega arith in
      ap (spread (suc n)) (first_more b x)
      ∙ ap (λ (m : ℕ). spread m (b * 2 ^ n + x / 2 ^ k)) p
      ∙ spread_block 1 n b (x / 2 ^ k) (shr_lt n k h)
      ∙ ap (λ (c : ℕ). c * 2 ^ (2 * n) + spread n (x / 2 ^ k)) one

four_more :
    (p v d l h : ℕ) → p * (4 * v + d) + (l + 2 * h) ≡ 4 * p * v + ((d % 2 * p + l) + 2 * (d / 2 * p + h))
four_more p v d l h =
    let e : d ≡ d % 2 + 2 * (d / 2) = omega arith in
    let f : p * d ≡ p * (d % 2) + 2 * (p * (d / 2)) = ap (λ (x : ℕ). p * x) e ∙ omega arith in
    omega arith

spread_path :
    (n k : ℕ) (F : Floors) (v : ℕ)
    → least_path n (2 ^ (n + k)) F strict v
    ≡ 2 ^ (2 * n) * v + (spread n (low_word (n + k) F / 2 ^ k) + 2 * spread n (high_word (n + k) F / 2 ^ k))
unfolding least_path low_word high_word spread
spread_path zero k F v = omega arith
spread_path (suc n) k F v =
    let h = 2 ^ (n + k) in
    let d = digit h F in
    let lw = low_word (n + k) (child h F) in
    let hw = high_word (n + k) (child h F) in
    let a = spread_more n k (d % 2) lw (omega arith) (low_small (n + k) (child h F)) in
    let b = spread_more n k (d / 2) hw (omega (arith, digit_small h F strict)) (high_small (n + k) (child h F)) in
    let c : low_word (suc n + k) F ≡ d % 2 * h + lw = rw (suc-add n k) refl in
    let e : high_word (suc n + k) F ≡ d / 2 * h + hw = rw (suc-add n k) refl in
    let f : (x y : ℕ) → x ≡ y → spread (suc n) (x / 2 ^ k) ≡ spread (suc n) (y / 2 ^ k) =
    λ x y. ap (λ (z : ℕ). spread (suc n) (z / 2 ^ k)) in
    ap (λ (g : ℕ). least_path n g (child g F) strict (4 * v + digit g F)) (half_power n k)
    ∙ spread_path n k (child h F) (4 * v + d)
    ∙ four_more (2 ^ (2 * n)) v d _ _
    ∙ λ i. sym (four n) i * v + (sym (f _ _ c ∙ a) i + 2 * sym (f _ _ e ∙ b) i)

-- ---- sizes, for the code

pub spread_small : (n x : ℕ) → 3 * spread n x < 2 ^ (2 * n)
unfolding spread
spread_small zero x = omega arith
spread_small (suc n) x = omega (arith, spread_small n (x / 2), four n)

spread_zero : (m : ℕ) → spread m 0 ≡ 0
unfolding spread
spread_zero zero = refl
spread_zero (suc m) = omega (arith, spread_zero m)

-- bits above, all 0
spread_short : (n m x : ℕ) → x < 2 ^ n → spread (m + n) x ≡ spread n x
spread_short n m x h =
    let e : x ≡ 0 * 2 ^ n + x = omega arith in
    ap (spread (m + n)) e
    ∙ spread_block m n 0 x h
    ∙ ap (λ (z : ℕ). z * 2 ^ (2 * n) + spread n x) (spread_zero m)
    ∙ omega arith

pub spread_8 : (n x : ℕ) → n ≤ 8 → x < 2 ^ n → spread 8 x ≡ spread n x
spread_8 n x l h =
    let e : 8 ≡ (8 - n) + n = omega arith in ap (λ (m : ℕ). spread m x) e ∙ spread_short n (8 - n) x h

pub shift_small : (n v : ℕ) → n ≤ 24 → v < 2 ^ (2 * (24 - n)) → 2 ^ (2 * n) * v < 2 ^ 48
shift_small n v l h =
    let e : 2 * (24 - n) + 2 * n ≡ 48 = omega arith in
    let s : v * 2 ^ (2 * n) < 2 ^ 48 =
    subst (λ (m : ℕ). v * 2 ^ (2 * n) < 2 ^ m) e (shl_lt (2 * (24 - n)) (2 * n) h) in
    subst (λ (x : ℕ). x < 2 ^ 48) (mul_comm v (2 ^ (2 * n))) s

pub byte_small : (n x : ℕ) → n ≤ 8 → x < 2 ^ n → x < 256
byte_small n x l h = omega (arith, pow_mono {i = n} {j = 8} l)

-- eight bits above, and the rest
module _ (n : ℕ) (l : 8 < n) where
  abbrev k : ℕ
  k = n - 8

  eight_more : n ≡ 8 + k
  eight_more = omega arith

  pub top_small : (x : ℕ) → x < 2 ^ n → x / 2 ^ k < 256
  top_small x h = shr_lt 8 k (subst (λ (m : ℕ). x < 2 ^ m) eight_more h)

  pub rest_small : (x : ℕ) → x % 2 ^ k < 2 ^ k
  rest_small x = mod-lt x (pow_pos k)

  spread_parts : (x : ℕ) → spread n x ≡ 2 ^ (2 * k) * spread 8 (x / 2 ^ k) + spread k (x % 2 ^ k)
  spread_parts x =
      ap (λ (m : ℕ). spread m x) eight_more
      ∙ ap (spread (8 + k)) (sym (split x k))
      ∙ spread_block 8 k (x / 2 ^ k) (x % 2 ^ k) (rest_small x)
      ∙ omega arith

  pub path_less : (v : ℕ) → n ≤ 24 → v < 2 ^ (2 * (24 - n)) → v < 2 ^ 32
  path_less v m h = omega (arith, pow_mono {i = 2 * (24 - n)} {j = 32} (omega arith))

  pub path_next :
      (v a b : ℕ)
      → n ≤ 24
      → v < 2 ^ (2 * (24 - n))
      → a < 256
      → b < 256
      → 65536 * v + (spread 8 a + 2 * spread 8 b) < 2 ^ (2 * (24 - k))
  path_next v a b m h ha hb =
      let e : 2 * (24 - k) ≡ 2 * (24 - n) + 16 = omega arith in
      rw e (omega (arith, pow-add 2 (2 * (24 - n)) 16, spread_small 8 a, spread_small 8 b))

  -- eight digits more, and the others below them
  pub parts_path :
      (v x y : ℕ)
      → 2 ^ (2 * k) * (65536 * v + (spread 8 (x / 2 ^ k) + 2 * spread 8 (y / 2 ^ k)))
      + (spread k (x % 2 ^ k) + 2 * spread k (y % 2 ^ k))
      ≡ 2 ^ (2 * n) * v + (spread n x + 2 * spread n y)
  parts_path v x y =
      let e : 2 * n ≡ 2 * k + 16 = omega arith in
      let p : 2 ^ (2 * n) ≡ 2 ^ (2 * k) * 65536 = ap (λ (m : ℕ). 2 ^ m) e ∙ pow-add 2 (2 * k) 16 in
      rw (p, spread_parts x, spread_parts y) (omega arith)

-- the first n of 24 bits
module _ (n : ℕ) (l : n ≤ 24) where
  abbrev rest : ℕ
  rest = 24 - n

  all_24 : n + rest ≡ 24
  all_24 = omega arith

  pub first_24 : (x : ℕ) → x < 2 ^ 24 → x / 2 ^ rest < 2 ^ n
  first_24 x h = shr_lt n rest (subst (λ (m : ℕ). x < 2 ^ m) (sym all_24) h)

  abbrev of_bits : (m : ℕ) → Floors → ℕ
  of_bits m F = 2 ^ (2 * n) * 0 + (spread n (low_word m F / 2 ^ rest) + 2 * spread n (high_word m F / 2 ^ rest))

  pub path_24 :
      (F : Floors)
      → 2 ^ (2 * n) * 0 + (spread n (low_word 24 F / 2 ^ rest) + 2 * spread n (high_word 24 F / 2 ^ rest))
      ≡ least_path n 16777216 F strict 0
  path_24 F =
      sym (
      ap (λ (m : ℕ). least_path n (2 ^ m) F strict 0) (sym all_24)
      ∙ spread_path n rest F 0
      ∙ λ i. of_bits (all_24 i) F
      )

-- ---- a byte by masks, at each of its 256 values

abbrev pub fours : ℕ → ℕ
fours b = bit_and (bit_or b (16 * b)) 3855

abbrev pub twos : ℕ → ℕ
twos b = bit_and (bit_or (fours b) (4 * fours b)) 13107

pub fours_small : (b : ℕ) → fours b ≤ 3855
fours_small b = and_le_r (bit_or b (16 * b)) 3855

pub twos_small : (b : ℕ) → twos b ≤ 13107
twos_small b = and_le_r (bit_or (fours b) (4 * fours b)) 13107

pub spread_masks : (b : ℕ) → b < 256 → bit_and (bit_or (twos b) (2 * twos b)) 21845 ≡ spread 8 b
unfolding spread
spread_masks = sound (below 256 λ b. same (bit_and (bit_or (twos b) (2 * twos b)) 21845) (spread 8 b)) refl
