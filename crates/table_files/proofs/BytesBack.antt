-- Bytes as the numbers that they are, written again: the same bytes. Assumes nothing.
use mathlib.Core.Path.{◌≡◌, ◌∙◌, refl, sym, ap}
use mathlib.Core.List.{List, [], ◌∷◌, ◌++◌}
use Prim.Native.Nat.{ℕ, zero, suc, ◌+◌, ◌*◌, ◌/◌, ◌%◌, ◌^◌, ◌<◌}
use native.Mathlib.Omega.{arith}
use native.Mathlib.Nat.{one-le-pow, pow-succ', add-mul, mul_assoc, mul_comm, mul-add-div_right}
use lib.Arith.{digits_lt, digits_div}
use lib.ListN.{length, get_or, take, drop, length-drop, take-append-drop}
use lib.Seq.{length-take-le, get_or-take, get_or-drop}
use Rattle.octets.specs.Bytes.{bytes_of, bytes, read_on, number_of, read_each, numbers}

-- each number is a byte; what stands past the end, 0, is one too
abbrev pub AreBytes : List ℕ → Type 0
AreBytes bs = (i : ℕ) → get_or bs i 0 < 256

pub all_bytes : (bs : List ℕ) → ((i : ℕ) → i < length bs → get_or bs i 0 < 256) → AreBytes bs
all_bytes [] h i = omega arith
all_bytes (b ∷ bs) h zero = h 0 (omega arith)
all_bytes (b ∷ bs) h (suc i) = all_bytes bs (λ j l. h (suc j) (omega (arith, l))) i

-- ---- one number

more : (k : ℕ) → 256 ^ suc k ≡ 256 * 256 ^ k
more k = pow-succ' 256 k

-- the bytes taken up after others, whose number is a
read_from : (a : ℕ) (bs : List ℕ) → read_on a bs ≡ a * 256 ^ length bs + number_of bs
read_from a [] = omega arith
read_from a (b ∷ bs) =
    let p = 256 ^ length bs in
    let d : (256 * a + b) * p ≡ a * (256 * p) + b * p =
    add-mul (256 * a) b p
    ∙ ap (λ (x : ℕ). x + b * p) (ap (λ (x : ℕ). x * p) (mul_comm 256 a) ∙ mul_assoc a 256 p) in
    let n = number_of bs in
    let first : read_on (256 * 0 + b) bs ≡ b * p + n = read_from (256 * 0 + b) bs ∙ omega arith in
    read_from (256 * a + b) bs ∙ omega (arith, d, first)
    ∙ ap (λ (x : ℕ). a * x + read_on (256 * 0 + b) bs) (sym (more (length bs)))

read_below : (bs : List ℕ) → AreBytes bs → number_of bs < 256 ^ length bs
read_below [] h = omega arith
read_below (b ∷ bs) h =
    let q : 256 * 0 + b < 256 = omega (arith, h 0) in
    let l = digits_lt q (read_below bs (λ i. h (suc i))) in
    omega (arith, l, read_from (256 * 0 + b) bs, more (length bs))

-- what stands above k bytes is not in them
bytes_low : (k a v : ℕ) → bytes_of k (a * 256 ^ k + v) ≡ bytes_of k v
bytes_low zero a v = refl
bytes_low (suc k) a v =
    let p = 256 ^ k in
    let e : a * 256 ^ suc k + v ≡ (a * 256) * p + v =
    ap (λ (x : ℕ). x + v) (ap (λ (x : ℕ). a * x) (more k) ∙ sym (mul_assoc a 256 p)) in
    let d : ((a * 256) * p + v) / p ≡ a * 256 + v / p =
    mul-add-div_right (one-le-pow k 256 (omega arith)) (a * 256) v in
    let byte : ((a * 256) * p + v) / p % 256 ≡ v / p % 256 = omega (arith, d) in
    ap (bytes_of (suc k)) e ∙ (λ i. byte i ∷ bytes_low k (a * 256) v i)

pub number_bytes : (bs : List ℕ) → AreBytes bs → bytes_of (length bs) (number_of bs) ≡ bs
number_bytes [] h = refl
number_bytes (b ∷ bs) h =
    let k = length bs in
    let n = number_of bs in
    let c = 256 * 0 + b in
    let d : (c * 256 ^ k + n) / 256 ^ k ≡ c = digits_div c (read_below bs (λ i. h (suc i))) in
    let byte : (c * 256 ^ k + n) / 256 ^ k % 256 ≡ b = omega (arith, d, h 0) in
    ap (bytes_of (suc k)) (read_from c bs)
    ∙ (λ i. byte i ∷ (bytes_low k c n ∙ number_bytes bs (λ j. h (suc j))) i)

-- ---- many

pub bytes_back : (m : ℕ) (bs : List ℕ) → AreBytes bs → length bs ≡ 8 * m → bytes 8 (numbers 8 m bs) ≡ bs
unfolding bytes read_each
bytes_back zero [] h e = refl
bytes_back zero (b ∷ bs) h e = absurd (omega (arith, e))
bytes_back (suc m) bs h e =
    let long : length (take 8 bs) ≡ 8 = length-take-le 8 bs (omega (arith, e)) in
    let first = all_bytes (take 8 bs) (λ i l. rw (get_or-take 8 bs i 0 (omega (arith, l, long))) (h i)) in
    let others : AreBytes (drop 8 bs) = λ i. rw (get_or-drop 8 bs i 0) (h (8 + i)) in
    let one : bytes_of 8 (number_of (take 8 bs)) ≡ take 8 bs =
    ap (λ (k : ℕ). bytes_of k (number_of (take 8 bs))) (sym long) ∙ number_bytes (take 8 bs) first in
    (λ i. one i ++ bytes_back m (drop 8 bs) others (omega (arith, e, length-drop 8 bs)) i) ∙ take-append-drop 8 bs
