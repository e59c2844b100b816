-- Exact fractions in binary64: a whole number over a power of two, by two casts and a division; and a fraction is
-- written in one way. Assumes nothing.
use mathlib.Core.Path.{◌≡◌, refl, sym, ap, ◌∙◌, subst}
use mathlib.Core.Bool.{Bool, true, false, cond}
use Prim.Native.Nat.{ℕ, zero, suc, ◌+◌, ◌-◌, ◌*◌, ◌/◌, ◌^◌, ◌≤◌, ◌<◌}
use native.Mathlib.Nat.{mul-one, mul_comm, mul_assoc, mul_left_comm, mul_right_comm, mul-pos, zero-mul, zero-lt-suc}
use native.Mathlib.Nat.{lt_irrefl, lt_of_lt_of_le, le_of_lt, le_trans}
use native.Mathlib.Omega.{arith}
use lib.IntN.{ℤ, pos, negsuc, nat_abs}
use lib.Dec.{T, eqb, eqb-suc-zero, lit≤, lit<, le→leb, lt→ltb}
use lib.Pow.{pow_pos, pow-add, pow_mono, shl_lt}
use lib.Ieee.{Float, nan, inf, fin, Format, binary64, prec, low, unlike, up, down, size, round, div, of_int, in_float}
use lib.Ieee.{fits, to_bits, of_bits, top, hid}
use lib.Ieee.Fits.{down_pos, div-fits}
use lib.Ieee.Bits.{of_bits-to_bits}
use lib.Ieee.Back.{round_whole}
use lib.Ieee.Exact.{HasValue, round_exact}
use lib.Ieee.Nearest.{div_same}
use lib.Ieee.Scale.{round_same}
use Rattle.filing.specs.Fractions.{is_neg, IsFraction}

-- ---- a value is written in one way, bit for bit

-- the bit pattern of a / c with the sign s, from n, which is a / c in units of the least value
pattern : Format → Bool → ℕ → ℕ
pattern f s n = cond s (top f) 0 + (size n - prec f) * hid f + n / 2 ^ (size n - prec f)

bits_of : (f : Format) (x : Float) (s : Bool) (a c : ℕ) → 0 < c → HasValue x s a c
    → to_bits f x ≡ pattern f s (a * 2 ^ low f / c)
unfolding to_bits pattern
bits_of f nan s a c C v = absurd v
bits_of f (inf t) s a c C v = absurd v
bits_of f (fin t m e) s a c C v =
    let l = 2 ^ low f in
    let x : m * up e * l * c ≡ a * l * down e = mul_right_comm (m * up e) l c ∙ ap (λ (z : ℕ). z * l) v.1
    ∙ mul_right_comm a (down e) l in
    ap (λ (z : Bool). pattern f z (m * up e * l / down e)) v.0
    ∙ ap (pattern f s) (div_same (m * up e * l) (down e) (a * l) c (down_pos e) C x)

same_value : (f : Format) (x y : Float) (s : Bool) (a c : ℕ) → 0 < c → T (fits f x) → T (fits f y) → HasValue x s a c
    → HasValue y s a c → x ≡ y
same_value f x y s a c C p q v w =
    sym (of_bits-to_bits f x p) ∙ ap (of_bits f) (bits_of f x s a c C v ∙ sym (bits_of f y s a c C w))
    ∙ of_bits-to_bits f y q

-- any two floats that are the fraction are equal
pub one_fraction : {x y : Float} {t : ℤ} {den : ℕ} → 0 < den → IsFraction x t den → IsFraction y t den → x ≡ y
one_fraction {x} {y} {t} {den} C p q = same_value binary64 x y (is_neg t) (nat_abs t) den C p.held q.held p.value
    q.value

-- ---- the quotient of two whole values is their fraction, rounded once

unlike_plus : (s : Bool) → unlike s false ≡ s
unlike_plus true = refl
unlike_plus false = refl

pos_of : (n u : ℕ) → 0 < n * u → 0 < n
pos_of zero u h = absurd (lt_irrefl 0 (subst (λ (z : ℕ). 0 < z) (zero-mul u) h))
pos_of (suc n) u h = zero-lt-suc n

cond_nonzero : (n : ℕ) (a b : Float) → 0 < n → cond (eqb n 0) a b ≡ b
cond_nonzero zero a b h = absurd (lt_irrefl 0 h)
cond_nonzero (suc n) a b h = ap (λ (z : Bool). cond z a b) (eqb-suc-zero n)

div_whole : (f : Format) (x y : Float) (s : Bool) (a b : ℕ) → 0 < b → HasValue x s a 1 → HasValue y false b 1
    → div f x y ≡ round f s a b
unfolding div
div_whole f nan y s a b B v w = absurd v
div_whole f (inf t) y s a b B v w = absurd v
div_whole f (fin t m e) nan s a b B v w = absurd w
div_whole f (fin t m e) (inf u) s a b B v w = absurd w
div_whole f (fin t m e) (fin u n d) s a b B v w =
    let v1 : m * up e ≡ a * down e = sym (mul-one (m * up e)) ∙ v.1 in
    let w1 : n * up d ≡ b * down d = sym (mul-one (n * up d)) ∙ w.1 in
    let P : 0 < n * up d = subst (λ (z : ℕ). 0 < z) (sym w1) (mul-pos B (down_pos d)) in
    let e1 : m * up e * down d * b ≡ a * (n * up d * down e) =
    ap (λ (z : ℕ). z * down d * b) v1 ∙ (simp (mul_assoc, mul_comm, mul_left_comm))
    ∙ ap (λ (z : ℕ). a * (z * down e)) (sym w1) in
    cond_nonzero n (cond (eqb m 0) nan (inf (unlike t u))) (round f (unlike t u) (m * up e * down d)
    (n * up d * down e)) (pos_of n (up d) P)
    ∙ ap (λ (z : Bool). round f z (m * up e * down d) (n * up d * down e)) (ap (λ (z : Bool). unlike z u) v.0
    ∙ ap (unlike s) w.0 ∙ unlike_plus s)
    ∙ round_same f s (m * up e * down d) (n * up d * down e) a b (mul-pos P (down_pos e)) B e1

-- ---- a whole number below 2 ^ 53 over 2 ^ k, for k up to 1074, is a value of binary64

back : (k : ℕ) → k ≤ 1074 → 1074 - k + k ≡ 1074
back k h = omega arith

rest : (k : ℕ) → k ≤ 1074 → 53 + (1074 - k) ≤ 2098
rest k h = omega arith

round_power : (s : Bool) (a k : ℕ) → a < 2 ^ 53 → k ≤ 1074 → HasValue (round binary64 s a (2 ^ k)) s a (2 ^ k)
round_power s a k h l =
    round_exact binary64 s a (2 ^ k) a (1074 - k) (pow_pos k) h
    (lt_of_lt_of_le (shl_lt 53 (1074 - k) h) (pow_mono (rest k l)))
    (ap (λ (z : ℕ). a * 2 ^ z) (sym (back k l)) ∙ ap (λ (z : ℕ). a * z) (pow-add 2 (1074 - k) k)
    ∙ sym (mul_assoc a (2 ^ (1074 - k)) (2 ^ k)))

-- ---- a whole number as a float

pub of_int_lem : (t : ℤ) → nat_abs t ≤ 2 ^ 53 → HasValue (of_int binary64 t) (is_neg t) (nat_abs t) 1
unfolding of_int
of_int_lem (pos n) h = round_whole binary64 false n h
of_int_lem (negsuc n) h = round_whole binary64 true (suc n) h

pub in_float_lem : (t : ℤ) → nat_abs t ≤ 2 ^ 53 → T (in_float binary64 t)
unfolding in_float
in_float_lem (pos n) h = le→leb n (2 ^ 53) h
in_float_lem (negsuc n) h = lt→ltb n (2 ^ 53) h

quotient : (t : ℤ) (k : ℕ) → nat_abs t < 2 ^ 53 → k ≤ 53
    → IsFraction (div binary64 (of_int binary64 t) (of_int binary64 (pos (2 ^ k)))) t (2 ^ k)
quotient t k h l =
    let x = of_int binary64 t in
    let y = of_int binary64 (pos (2 ^ k)) in
    let q : div binary64 x y ≡ round binary64 (is_neg t) (nat_abs t) (2 ^ k) =
    div_whole binary64 x y (is_neg t) (nat_abs t) (2 ^ k) (pow_pos k) (of_int_lem t (le_of_lt h))
    (of_int_lem (pos (2 ^ k)) (pow_mono l)) in
    record {
      value = subst (λ (z : Float). HasValue z (is_neg t) (nat_abs t) (2 ^ k)) (sym q)
          (round_power (is_neg t) (nat_abs t) k h (le_trans l (lit≤ tt)));
      held = div-fits binary64 x y;
    }

-- ---- the divisor 65,536·2^n

up_to : (n : ℕ) → n ≤ 24 → 16 + n ≤ 53
up_to n h = omega arith

pub divisor_pos : (n : ℕ) → 0 < 65536 * 2 ^ n
divisor_pos n = mul-pos (lit< tt) (pow_pos n)

pub divisor_small : (n : ℕ) → n ≤ 24 → 65536 * 2 ^ n ≤ 2 ^ 53
divisor_small n h = rw (← pow-add 2 16 n) (pow_mono (up_to n h))

-- what `drawn::fraction` computes
pub divided : (t : ℤ) (n : ℕ) → nat_abs t < 2 ^ 53 → n ≤ 24
    → IsFraction (div binary64 (of_int binary64 t) (of_int binary64 (pos (65536 * 2 ^ n)))) t (65536 * 2 ^ n)
divided t n h l = rw (← pow-add 2 16 n) (quotient t (16 + n) h (up_to n l))
