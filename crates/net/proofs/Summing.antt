-- Each bit of a number summed with all bits above it, by five shifts. Assumes nothing.
use mathlib.Core.Path.{◌≡◌, refl, sym, ◌∙◌, ap}
use Prim.Native.Nat.{ℕ, zero, suc, ◌+◌, ◌/◌, ◌%◌, ◌^◌, ◌<◌}
use native.Mathlib.Nat.{add_comm, pow-suc}
use native.Mathlib.Omega.{arith}
use lib.Arith.{bin_ind}
use lib.Pow.{shr-shr}
use lib.Bits.{bit_xor, xor_zero_l, xor_zero_r, xor_self, xor_comm, xor_shr, xor_mod, xor_add_and, and_le_l, and_le_r}
use Rattle.net.proofs.Table.{sound, below, same}

-- ---- exclusive or

bits_assoc : (a : ℕ) → a < 2 → (b : ℕ) → b < 2 → (c : ℕ) → c < 2
    → bit_xor (bit_xor a b) c ≡ bit_xor a (bit_xor b c)
bits_assoc =
    sound (below 2 λ a. below 2 λ b. below 2 λ c. same (bit_xor (bit_xor a b) c) (bit_xor a (bit_xor b c))) refl

by_halves : (x y : ℕ) → x / 2 ≡ y / 2 → x % 2 ≡ y % 2 → x ≡ y
by_halves x y e f = omega arith

xor_assoc : (a b c : ℕ) → bit_xor (bit_xor a b) c ≡ bit_xor a (bit_xor b c)
xor_assoc = bin_ind (λ (a : ℕ). (b c : ℕ) → bit_xor (bit_xor a b) c ≡ bit_xor a (bit_xor b c))
    (λ b c. ap (λ (x : ℕ). bit_xor x c) (xor_zero_l b) ∙ sym (xor_zero_l (bit_xor b c)))
    (λ a ih b c.
    by_halves (bit_xor (bit_xor a b) c) (bit_xor a (bit_xor b c))
    (xor_shr (bit_xor a b) c 1
    ∙ ap (λ (x : ℕ). bit_xor x (c / 2)) (xor_shr a b 1)
    ∙ ih (b / 2) (c / 2)
    ∙ sym (xor_shr a (bit_xor b c) 1 ∙ ap (bit_xor (a / 2)) (xor_shr b c 1)))
    (xor_mod (bit_xor a b) c 1
    ∙ ap (λ (x : ℕ). bit_xor x (c % 2)) (xor_mod a b 1)
    ∙ bits_assoc (a % 2) (omega arith) (b % 2) (omega arith) (c % 2) (omega arith)
    ∙ sym (xor_mod a (bit_xor b c) 1 ∙ ap (bit_xor (a % 2)) (xor_mod b c 1))))

pub xor_zero_same : (a b : ℕ) → bit_xor a b ≡ 0 → a ≡ b
xor_zero_same a b e = omega (arith, xor_add_and a b, and_le_l a b, and_le_r a b)

cancel : (a b c : ℕ) → bit_xor (bit_xor a b) (bit_xor b c) ≡ bit_xor a c
cancel a b c =
    xor_assoc a b (bit_xor b c)
    ∙ ap (bit_xor a) (sym (xor_assoc b b c) ∙ ap (λ (x : ℕ). bit_xor x c) (xor_self b) ∙ xor_zero_l c)

exchange : (a b c d : ℕ) → bit_xor (bit_xor a b) (bit_xor c d) ≡ bit_xor (bit_xor a c) (bit_xor b d)
exchange a b c d =
    xor_assoc a b (bit_xor c d)
    ∙ ap (bit_xor a) (sym (xor_assoc b c d) ∙ ap (λ (x : ℕ). bit_xor x d) (xor_comm b c) ∙ xor_assoc c b d)
    ∙ sym (xor_assoc a c (bit_xor b d))

-- ---- shifts

-- each bit summed with the one k places above it
abbrev pub summed : (k x : ℕ) → ℕ
summed k x = bit_xor x (x / 2 ^ k)

again : (k x : ℕ) → summed k (summed k x) ≡ summed (k + k) x
again k x =
    ap (bit_xor (summed k x)) (xor_shr x (x / 2 ^ k) k)
    ∙ cancel x (x / 2 ^ k) (x / 2 ^ k / 2 ^ k)
    ∙ ap (bit_xor x) (shr-shr x k k)

swap : (j k x : ℕ) → summed j (summed k x) ≡ summed k (summed j x)
swap j k x =
    let e : x / 2 ^ k / 2 ^ j ≡ x / 2 ^ j / 2 ^ k =
    shr-shr x k j ∙ ap (λ (m : ℕ). x / 2 ^ m) (add_comm k j) ∙ sym (shr-shr x j k) in
    ap (bit_xor (summed k x)) (xor_shr x (x / 2 ^ k) j)
    ∙ exchange x (x / 2 ^ k) (x / 2 ^ j) (x / 2 ^ k / 2 ^ j)
    ∙ ap (λ (y : ℕ). bit_xor (summed j x) (bit_xor (x / 2 ^ k) y)) e
    ∙ sym (ap (bit_xor (summed j x)) (xor_shr x (x / 2 ^ j) k))

-- and so with those 1, 2, 4, .. places above, i times: each bit with the 2^i - 1 next above it
abbrev pub sums : (i x : ℕ) → ℕ
sums zero x = x
sums (suc i) x = summed (2 ^ i) (sums i x)

sums_undone : (i x : ℕ) → summed 1 (sums i x) ≡ summed (2 ^ i) x
sums_undone zero x = refl
sums_undone (suc i) x =
    let e : 2 ^ i + 2 ^ i ≡ 2 ^ suc i = omega (arith, pow-suc 2 i) in
    swap 1 (2 ^ i) (sums i x) ∙ ap (summed (2 ^ i)) (sums_undone i x) ∙ again (2 ^ i) x
    ∙ ap (λ (k : ℕ). summed k x) e

-- of a number of 32 bits, all
pub sums_32 : (z : ℕ) → z < 2 ^ 32 → bit_xor (sums 5 z) (sums 5 z / 2) ≡ z
sums_32 z h = let none : z / 2 ^ 32 ≡ 0 = omega arith in sums_undone 5 z ∙ ap (bit_xor z) none ∙ xor_zero_r z
