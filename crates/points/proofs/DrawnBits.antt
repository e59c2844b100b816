-- The bits of a drawn point, for every input: the float that is exactly t / (65,536·2^n) has the fields of
-- specs/Bits.antt. Assumes nothing.
use mathlib.Core.Path.{◌≡◌, refl, sym, ap, ◌∙◌, subst}
use mathlib.Core.Bool.{Bool, cond}
use mathlib.Core.Logic.{⊎_elim}
use Prim.Native.Nat.{ℕ, zero, suc, ◌+◌, ◌-◌, ◌*◌, ◌/◌, ◌^◌, ◌≤◌, ◌<◌}
use native.Mathlib.Nat.{add_assoc, zero-mul, mul_assoc, mul_right_comm, mul-div_cancel, mul-le-mul_right}
use native.Mathlib.Nat.{lt_of_lt_of_le, lt_irrefl}
use native.Mathlib.Omega.{arith}
use lib.IntN.{ℤ, pos, negsuc, nat_abs}
use lib.Pow.{pow-add, pow_mono, shl_lt, shl-shr}
use lib.Ieee.{Float, nan, inf, fin, binary64, up, down, size, to_bits, of_bits}
use lib.Ieee.Digits.{size-lt, size-le, size_reaches}
use lib.Ieee.Fits.{down_pos}
use lib.Ieee.Exact.{HasValue}
use Rattle.frame.specs.Answers.{Answer}
use Rattle.frame.proofs.Answering.{answers_or_not}
use Rattle.golden.specs.declared.Golden.{Golden}
use Rattle.golden.specs.Numbers.{Below}
use Rattle.golden.specs.Drawing.{IsT}
use Rattle.golden.proofs.IntegerOrder.{le_or_lt}
use Rattle.golden.proofs.Nearest.{t_one, t_small}
use Rattle.words.specs.Words.{degree_of}
use Rattle.words.specs.declared.TriangleCode.{TriangleCode}
use Rattle.words.specs.declared.CornerName.{CornerName}
use Rattle.filing.specs.Fractions.{is_neg, IsFraction}
use Rattle.filing.specs.Drawing.{AreTicks, IsDrawn, IsPoint}
use Rattle.points.specs.Answers.{Ticked, Pointed, no_ticks, no_point, TickAnswer, NameTickAnswer, DrawAnswer}
use Rattle.points.specs.Answers.{NameDrawAnswer}
use Rattle.filing.specs.Means.Places.{Small}
use Rattle.filing.specs.declared.Coordinates.{Coordinates}
use Rattle.filing.specs.declared.Ticks.{Ticks}
use Rattle.points.specs.Answers.{TicksAnswer}
use Rattle.filing.specs.declared.Point.{Point}
use Rattle.points.specs.Answers.{PointAnswer}
use Rattle.points.specs.Bits.{exponent, fraction, magnitude, bits_of, HasBits}

-- ---- how many binary digits

-- suc s of them from 2^s up to 2^(s + 1)
size_is : (a s : ℕ) → 2 ^ s ≤ a → a < 2 ^ suc s → size a ≡ suc s
size_is a s lo hi = ⊎_elim
    (λ l. omega (arith, size-le a (suc s) hi, l))
    (λ l.
    let more = pow_mono {i = size a} {j = s} (omega arith) in
    absurd (lt_irrefl a (lt_of_lt_of_le (size-lt a) (omega (arith, more, lo)))))
    (le_or_lt (suc s) (size a))

-- and j more of a·2^j
size_shifted : (a s j : ℕ) → 2 ^ s ≤ a → a < 2 ^ suc s → size (a * 2 ^ j) ≡ suc (s + j)
size_shifted a s j lo hi =
    let e : suc s + j ≡ suc (s + j) = omega arith in
    size_is (a * 2 ^ j) (s + j)
    (subst (λ (z : ℕ). z ≤ a * 2 ^ j) (sym (pow-add 2 s j)) (mul-le-mul_right (2 ^ j) lo))
    (subst (λ (z : ℕ). a * 2 ^ j < 2 ^ z) e (shl_lt (suc s) j hi))

-- 2^s is the greatest power of two not above a
leading : (a : ℕ) → 0 < a → (s : ℕ) × (2 ^ s ≤ a) × (a < 2 ^ suc s)
leading a h = go (size a) refl
  where
    go : (n : ℕ) → size a ≡ n → (s : ℕ) × (2 ^ s ≤ a) × (a < 2 ^ suc s)
    go zero e = let l : a < 2 ^ 0 = subst (λ (n : ℕ). a < 2 ^ n) e (size-lt a) in absurd (omega arith)
    go (suc s) e = (s, size_reaches a s (omega (arith, e)), subst (λ (n : ℕ). a < 2 ^ n) e (size-lt a))

-- ---- the bits of a fraction whose divisor is a power of two

-- exponent and digits of a float, from its size n in units of the least value, 2^-1074: what `to_bits` computes
abbrev encoded : ℕ → ℕ
encoded n = (size n - 53) * 2 ^ 52 + n / 2 ^ (size n - 53)

module _ (k : ℕ) (l : k ≤ 1074) where
  abbrev rest : ℕ
  rest = 1074 - k

  -- the size of a / 2^k in those units
  whole_units : (x a d : ℕ) → x * 2 ^ k ≡ a * d → x * 2 ^ 1074 ≡ a * 2 ^ rest * d
  whole_units x a d e =
      let b : 1074 ≡ k + rest = omega arith in
      ap (λ (z : ℕ). x * 2 ^ z) b
      ∙ ap (λ (z : ℕ). x * z) (pow-add 2 k rest)
      ∙ sym (mul_assoc x (2 ^ k) (2 ^ rest))
      ∙ ap (λ (z : ℕ). z * 2 ^ rest) e
      ∙ mul_right_comm a d (2 ^ rest)

  bits_at : (x : Float) (s : Bool) (a : ℕ) → HasValue x s a (2 ^ k)
      → to_bits binary64 x ≡ cond s (2 ^ 63) 0 + encoded (a * 2 ^ rest)
  unfolding to_bits
  bits_at nan s a v = absurd v
  bits_at (inf t) s a v = absurd v
  bits_at (fin t m e) s a v =
      let n : m * up e * 2 ^ 1074 / down e ≡ a * 2 ^ rest =
      ap (λ (z : ℕ). z / down e) (whole_units (m * up e) a (down e) v.1)
      ∙ mul-div_cancel (a * 2 ^ rest) (down_pos e) in
      add_assoc (cond t (2 ^ 63) 0) _ _ ∙ (λ i. cond (v.0 i) (2 ^ 63) 0 + encoded (n i))

-- the fields: a, of suc s binary digits, over 2^(16 + n)
module _ (n a s : ℕ) (hn : n ≤ 24) (lo : 2 ^ s ≤ a) (hi : a < 2 ^ suc s) (hs : s ≤ 52) where
  abbrev shift : ℕ
  shift = 1074 - (16 + n)

  -- the digits that are dropped, all of them 0
  abbrev drop : ℕ
  drop = s + shift - 52

  -- `encoded` drops as many, keeps the rest, and that has 53 digits
  dropped : size (a * 2 ^ shift) - 53 ≡ drop
  dropped = omega (arith, size_shifted a s shift lo hi)

  kept : a * 2 ^ shift / 2 ^ drop ≡ a * 2 ^ (52 - s)
  kept =
      let e : shift ≡ 52 - s + drop = omega arith in
      ap (λ (z : ℕ). a * 2 ^ z / 2 ^ drop) e
      ∙ ap (λ (z : ℕ). a * z / 2 ^ drop) (pow-add 2 (52 - s) drop)
      ∙ ap (λ (z : ℕ). z / 2 ^ drop) (sym (mul_assoc a (2 ^ (52 - s)) (2 ^ drop)))
      ∙ shl-shr (a * 2 ^ (52 - s)) drop

  leads : 2 ^ 52 ≤ a * 2 ^ (52 - s)
  leads =
      let e : s + (52 - s) ≡ 52 = omega arith in
      subst (λ (z : ℕ). z ≤ a * 2 ^ (52 - s)) (sym (pow-add 2 s (52 - s)) ∙ ap (λ (z : ℕ). 2 ^ z) e)
      (mul-le-mul_right (2 ^ (52 - s)) lo)

  fields : encoded (a * 2 ^ shift) ≡ exponent n (suc s) * 2 ^ 52 + fraction (suc s) a
  fields =
      let e : 52 - s ≡ 53 - suc s = omega arith in
      ap (λ (k : ℕ). k * 2 ^ 52 + a * 2 ^ shift / 2 ^ k) dropped
      ∙ ap (λ (f : ℕ). drop * 2 ^ 52 + f) kept
      ∙ carry drop (exponent n (suc s)) (a * 2 ^ (52 - s)) (omega arith) leads
      ∙ ap (λ (z : ℕ). exponent n (suc s) * 2 ^ 52 + (a * 2 ^ z - 2 ^ 52)) e
    where
      carry : (k e f : ℕ) → e ≡ suc k → 2 ^ 52 ≤ f → k * 2 ^ 52 + f ≡ e * 2 ^ 52 + (f - 2 ^ 52)
      carry k e f h l = omega arith

encoded_zero : encoded 0 ≡ 0
unfolding size
encoded_zero = refl

-- exponent and digits of a / 2^(16 + n)
magnitude_is : (n a : ℕ) → n ≤ 24 → a < 2 ^ 53 → encoded (a * 2 ^ (1074 - (16 + n))) ≡ magnitude n a
magnitude_is n zero hn ha = ap encoded (zero-mul (2 ^ (1074 - (16 + n)))) ∙ encoded_zero
magnitude_is n (suc a) hn ha =
    let l = leading (suc a) (omega arith) in
    let s = l.0 in
    let h : s ≤ 52 =
    ⊎_elim (λ h. h) (λ h. absurd (omega (arith, pow_mono {i = 53} {j = s} (omega arith), l.1, ha)))
    (le_or_lt s 52) in
    fields n (suc a) s hn l.1 l.2 h
    ∙ ap (λ (z : ℕ). exponent n z * 2 ^ 52 + fraction z (suc a)) (sym (size_is (suc a) s l.1 l.2))

-- all but the sign's are 63 bits, and tell a number other than 0
pub magnitude_small : (n a : ℕ) → n ≤ 24 → suc a < 2 ^ 53
    → (0 < magnitude n (suc a)) × (magnitude n (suc a) < 2 ^ 63)
magnitude_small n a l h =
    let s = size (suc a) in
    let most : s ≤ 53 = size-le (suc a) 53 h in
    let e : s + (53 - s) ≡ 53 = omega arith in
    let digits : suc a * 2 ^ (53 - s) < 2 ^ 53 =
    subst (λ (k : ℕ). suc a * 2 ^ (53 - s) < 2 ^ k) e (shl_lt s (53 - s) (size-lt (suc a))) in
    (omega arith, omega arith)

-- the float that is exactly t / (65,536·2^n) has these bits
pub bits_are : (n : ℕ) (t : ℤ) (r : Float) → n ≤ 24 → nat_abs t < 2 ^ 53 → IsFraction r t (65536 * 2 ^ n)
    → to_bits binary64 r ≡ bits_of n t
unfolding bits_of
bits_are n t r hn ht f =
    let v : HasValue r (is_neg t) (nat_abs t) (2 ^ (16 + n)) =
    subst (λ (d : ℕ). HasValue r (is_neg t) (nat_abs t) d) (sym (pow-add 2 16 n)) f.value in
    bits_at (16 + n) (omega arith) r (is_neg t) (nat_abs t) v
    ∙ ap (λ (z : ℕ). cond (is_neg t) (2 ^ 63) 0 + z) (magnitude_is n (nat_abs t) hn ht)

-- ---- drawn points

-- a point of degree n, and t on each axis
pub points_bits : {n : ℕ} {c : Coordinates} {q : Ticks} {r : Point}
    → n ≤ 24 → Small c → AreTicks c q → IsPoint n c r → HasBits n q r
points_bits {n} hn s a b = record {
  x = axis s.x a.x b.x;
  y = axis s.y a.y b.y;
  z = axis s.z a.z b.z;
}
  where
    axis : {g : Golden} {t : ℤ} {r : Float} → Below (2 ^ 26 + 1) g → IsT g t → IsDrawn n g r
        → to_bits binary64 r ≡ bits_of n t
    axis {g} {t} {r} l h d =
        bits_are n t r hn (omega (arith, t_small l h))
        (subst (λ (u : ℤ). IsFraction r u (65536 * 2 ^ n)) (t_one g d.1 h) d.2)

-- what is promised of a drawn point, of which the bits follow
pub pointed : {n : ℕ} {c : Coordinates} (r : PointAnswer) → n ≤ 24 → Small c → r.refusal ≡ 0
    → IsPoint n c r.at → Pointed n c r
pointed r hn s e is = record { number = e; is = is; bits = λ t a. points_bits hn s a is }

-- a refusal's zeros
zeros_bits : (n f : ℕ) → HasBits n (no_ticks f).at (no_point f).at
unfolding bits_of to_bits of_bits
zeros_bits n f = record { x = refl; y = refl; z = refl }

-- the same for answers: f is the refusal of both
answers_bits : {f n : ℕ} {c : Coordinates} {r : PointAnswer} {q : TicksAnswer}
    → Answer f (Pointed n c) no_point r → Answer f (Ticked c) no_ticks q → HasBits n q.at r.at
answers_bits {f} {n} a b = ⊎_elim (λ z. (a.answered z).bits _ (b.answered z).are)
    (λ g. rw (a.refused g, b.refused g) (zeros_bits n f)) (answers_or_not f)

-- Whatever is handed in, the drawn point has the bits that t on each axis says, and a refusal's point those of zeros.
pub drawn_bits_lem : (t : TriangleCode) (i : ℕ) (r : PointAnswer) (q : TicksAnswer)
    → DrawAnswer t i r → TickAnswer t i q → HasBits (degree_of t.0) q.at r.at
drawn_bits_lem t i r q = answers_bits

pub name_drawn_bits_lem : (c : CornerName) (r : PointAnswer) (q : TicksAnswer)
    → NameDrawAnswer c r → NameTickAnswer c q → HasBits (degree_of c.0) q.at r.at
name_drawn_bits_lem c r q = answers_bits

-- E12 as bits: t of V(41) at degree 0 is -106039, 0, -65536, drawn as -1.6180267333984375, 0, -1
pub e12_bits : (bits_of 0 (negsuc 106038) ≡ 0xBFF9E37000000000) × (bits_of 0 (pos 0) ≡ 0)
    × (bits_of 0 (negsuc 65535) ≡ 0xBFF0000000000000)
unfolding bits_of size
e12_bits = (refl, refl, refl)
