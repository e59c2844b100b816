-- The lower bits of all digits of a path, gathered into one number: fields of bits are moved together two by two, by
-- one law for any width. Assumes nothing.
use mathlib.Core.Path.{◌≡◌, refl, sym, ◌∙◌, ap}
use Prim.Native.Nat.{ℕ, zero, suc, ◌+◌, ◌-◌, ◌*◌, ◌/◌, ◌%◌, ◌^◌, ◌≤◌, ◌<◌}
use native.Mathlib.Nat.{pow-suc, add-zero, add-suc, add-mul, mul_assoc, mod-lt, mod-eq_of_lt}
use native.Mathlib.Omega.{arith}
use lib.Pow.{high, ones_lt, ones_split, pow-add, pow_pos, shr-shr, split}
use lib.Bits.{bit_and, bit_or, or_block, and_block, and_mask, and_zero_r, or_lt, or_zero_l, or_zero_r}
use Rattle.net.specs.Means.Gathers.{gather, low_bit}
use Rattle.net.proofs.Paths.{four}

-- ---- the bits of some digits

-- n bits
gather_small : (n v : ℕ) → gather low_bit n v < 2 ^ n
unfolding gather
gather_small zero v = omega arith
gather_small (suc n) v = omega (arith, gather_small n (v / 4), pow-suc 2 n)

gather_zero : (n : ℕ) → gather low_bit n 0 ≡ 0
unfolding gather
gather_zero zero = refl
gather_zero (suc n) = omega (arith, gather_zero n)

-- digits above, all 0
pub gather_short : (n m v : ℕ) → n ≤ m → v < 2 ^ (2 * n) → gather low_bit m v ≡ gather low_bit n v
unfolding gather
gather_short zero m v l h = let e : v ≡ 0 = omega arith in rw e (gather_zero m)
gather_short (suc n) zero v l h = absurd (omega arith)
gather_short (suc n) (suc m) v l h =
    ap (λ (x : ℕ). x * 2 + v % 4 % 2) (gather_short n m (v / 4) (omega arith) (omega (arith, four n)))

-- the higher bits are the lower ones of half the path
abbrev pub high_bit : ℕ → ℕ
high_bit d = d / 2

pub gather_high : (n v : ℕ) → gather low_bit n (v / 2) ≡ gather high_bit n v
unfolding gather
gather_high zero v = refl
gather_high (suc n) v =
    let e : v / 2 / 4 ≡ v / 4 / 2 = omega arith in
    let f : v / 2 % 4 % 2 ≡ v % 4 / 2 = omega arith in
    (λ i. gather low_bit n (e i) * 2 + f i) ∙ ap (λ (x : ℕ). x * 2 + v % 4 / 2) (gather_high n (v / 4))

-- w digits, and k above them
gather_add : (k w v : ℕ) → gather low_bit k (v / 2 ^ (2 * w)) * 2 ^ w + gather low_bit w v ≡ gather low_bit (k + w) v
unfolding gather
gather_add k zero v = rw (add-zero k) (let e : v / 1 ≡ v = omega arith in omega (arith, ap (gather low_bit k) e))
gather_add k (suc w) v =
    let n : 2 * suc w ≡ 2 + 2 * w = omega arith in
    let f : v / 2 ^ (2 * suc w) ≡ v / 4 / 2 ^ (2 * w) = ap (λ (m : ℕ). v / 2 ^ m) n
    ∙ sym (shr-shr v 2 (2 * w)) in
    let g = gather low_bit k (v / 4 / 2 ^ (2 * w)) in
    let q : g * 2 ^ suc w ≡ g * 2 ^ w * 2 = ap (λ (x : ℕ). g * x) (pow-suc 2 w) ∙ omega arith in
    rw (add-suc k w, f) (omega (arith, gather_add k w (v / 4), q))

-- ---- fields of bits

-- m fields, each of w zeros and then the lower bits of w digits
unfoldable fields : (w m v : ℕ) → ℕ
fields w zero v = 0
fields w (suc m) v = (fields w m (v / 2 ^ (2 * w)) * 2 ^ w + 0) * 2 ^ w + gather low_bit w v

-- m fields, each of w zeros and then w ones
unfoldable masks : (w m : ℕ) → ℕ
masks w zero = 0
masks w (suc m) = (masks w m * 2 ^ w + 0) * 2 ^ w + (2 ^ w - 1)

abbrev double : ℕ → ℕ
double zero = zero
double (suc m) = suc (suc (double m))

-- what the code does to fields: x and x moved down, under a mask
abbrev pub together : (k mask x : ℕ) → ℕ
together k mask x = bit_and (bit_or x (x / k)) mask

-- numbers in places of w bits
module _ (w : ℕ) where
  abbrev p : ℕ
  p = 2 ^ w

  abbrev q : ℕ
  q = 2 ^ (w + w)

  -- two places are one of 2w bits
  two_places : (x a b : ℕ) → (x * p + a) * p + b ≡ x * q + (a * p + b)
  two_places x a b = rw (pow-add 2 w w) (omega (arith, add-mul (x * p) a p, mul_assoc x p p))

  four_places : (x a b : ℕ) → (((x * p + 0) * p + 0) * p + a) * p + b ≡ (x * q + 0) * q + (a * p + b)
  four_places x a b =
      two_places ((x * p + 0) * p + 0) a b ∙ ap (λ (y : ℕ). y * q + (a * p + b)) (two_places x 0 0 ∙ omega arith)

  -- the last place of two numbers and a mask, and what stands above it
  place : (x y m a b c : ℕ) {r : ℕ} → a < p → b < p → c < p → bit_and (bit_or a b) c ≡ r
      → bit_and (bit_or (x * p + a) (y * p + b)) (m * p + c) ≡ bit_and (bit_or x y) m * p + r
  place x y m a b c la lb lc e =
      ap (λ (z : ℕ). bit_and z (m * p + c)) (or_block w x y a b la lb)
      ∙ and_block w (bit_or x y) m (bit_or a b) c (or_lt w a b la lb) lc
      ∙ ap (λ (z : ℕ). bit_and (bit_or x y) m * p + z) e

  -- what one of two numbers has in a place, and the other not
  kept : (a b c : ℕ) → a < p → bit_or b c ≡ a → bit_and (bit_or b c) (p - 1) ≡ a
  kept a b c h e = ap (λ (x : ℕ). bit_and x (p - 1)) e ∙ and_mask a w ∙ mod-eq_of_lt h

  -- four places 0, a, 0, b, and d, 0, a, 0, under a mask of the last two: 0, 0, a, b
  beside : (u y m a b d : ℕ) → a < p → b < p → d < p
      → bit_and
      (bit_or ((((u * p + 0) * p + a) * p + 0) * p + b) ((((y * p + d) * p + 0) * p + a) * p + 0))
      ((((m * p + 0) * p + 0) * p + (p - 1)) * p + (p - 1))
      ≡ (((bit_and (bit_or u y) m * p + 0) * p + 0) * p + a) * p + b
  beside u y m a b d la lb ld =
      let z : 0 < p = pow_pos w in
      let o : p - 1 < p = ones_lt w in
      place _ _ _ b 0 (p - 1) lb z o (kept b b 0 lb (or_zero_r b))
      ∙ ap (λ (x : ℕ). x * p + b) (
      place _ _ _ 0 a (p - 1) z la o (kept a 0 a la (or_zero_l a))
      ∙ ap (λ (x : ℕ). x * p + a) (
      place _ _ _ a 0 0 la z z (and_zero_r (bit_or a 0))
      ∙ ap (λ (x : ℕ). x * p + 0) (place u y m 0 d 0 z ld z (and_zero_r (bit_or 0 d)))))

  -- fields of w bits become half as many of 2w bits
  paired : (m v : ℕ) → together p (masks (w + w) m) (fields w (double m) v) ≡ fields (w + w) m v
  unfolding fields masks
  paired zero v = and_zero_r (bit_or 0 (0 / p))
  paired (suc m) v =
      let v' = v / 2 ^ (2 * w) in
      let u = fields w (double m) (v' / 2 ^ (2 * w)) in
      let a = gather low_bit w v' in
      let b = gather low_bit w v in
      let down : fields w (double (suc m)) v / p ≡ (((u / p * p + u % p) * p + 0) * p + a) * p + 0 =
      high _ w (gather_small w v) ∙ ap (λ (x : ℕ). ((x * p + 0) * p + a) * p + 0) (sym (split u w)) in
      let ms = masks (w + w) m in
      let mask : masks (w + w) (suc m) ≡ (((ms * p + 0) * p + 0) * p + (p - 1)) * p + (p - 1) =
      ap (λ (x : ℕ). (ms * q + 0) * q + x) (ones_split w w) ∙ sym (four_places ms (p - 1) (p - 1)) in
      let n : 2 * w + 2 * w ≡ 2 * (w + w) = omega arith in
      (λ i. bit_and (bit_or (fields w (double (suc m)) v) (down i)) (mask i))
      ∙ beside u (u / p) ms a b (u % p) (gather_small w v') (gather_small w v) (mod-lt u (pow_pos w))
      ∙ four_places (together p ms u) a b
      ∙ (λ i. (paired m (v' / 2 ^ (2 * w)) i * q + 0) * q + gather_add w w v i)
      ∙ ap (λ (x : ℕ). (fields (w + w) m x * q + 0) * q + gather low_bit (w + w) v)
      (shr-shr v (2 * w) (2 * w) ∙ ap (λ (k : ℕ). v / 2 ^ k) n)

  -- so the next of the code's numbers, from the one before
  pair : (m v : ℕ) {x : ℕ} → x ≡ fields w (double m) v → together p (masks (w + w) m) x ≡ fields (w + w) m v
  pair m v e = ap (together p (masks (w + w) m)) e ∙ paired m v

-- ---- all of them

-- the lower bits as they stand
first : (m v : ℕ) → bit_and v (masks 1 m) ≡ fields 1 m v
unfolding fields masks gather
first zero v = and_zero_r v
first (suc m) v =
    let e : v ≡ v / 4 * 4 + v % 4 = omega arith in
    let f : masks 1 (suc m) ≡ masks 1 m * 4 + 1 = omega arith in
    (λ i. bit_and (e i) (f i))
    ∙ and_block 2 (v / 4) (masks 1 m) (v % 4) 1 (omega arith) (omega arith)
    ∙ omega (arith, first m (v / 4), and_mask (v % 4) 1)

-- as the code has it
abbrev pub gathered : ℕ → ℕ
gathered v =
    together 65536 4294967295 (together 256 281470681808895 (together 16 71777214294589695
    (together 4 1085102592571150095 (together 2 3689348814741910323 (bit_and v 6148914691236517205)))))

pub gathered_is : (v : ℕ) → gathered v ≡ gather low_bit 32 v
unfolding masks fields
gathered_is v = pair 16 1 v (pair 8 2 v (pair 4 4 v (pair 2 8 v (pair 1 16 v (first 32 v))))) ∙ omega arith
