-- All digits of a word at once: where they are marked, renumbered over a seam, and changed by a step inside a side.
-- Assumes nothing.
use mathlib.Core.Path.{◌≡◌, refl, ◌∙◌, ap, subst}
use mathlib.Core.List.{List, [], ◌∷◌}
use Prim.Native.Nat.{ℕ, zero, suc, ◌+◌, ◌-◌, ◌*◌, ◌/◌, ◌%◌, ◌^◌, ◌≤◌, ◌<◌}
use native.Mathlib.Nat.{mul_comm}
use native.Mathlib.Omega.{arith}
use lib.Bits.{bit_xor, bit_and, bit_or, xor_block, or_block, and_block, and_zero_l, and_zero_r, xor_self, xor_zero_r}
use lib.Pow.{pow_pos}
use Rattle.words.proofs.Digits.{AreDigits, more, none}
use Rattle.words.specs.Words.{path}
use Rattle.net.specs.Sides.{OneToThree}
use Rattle.net.specs.Division.{each}
use Rattle.net.specs.Means.Paths.{digits_of}
use Rattle.net.specs.Means.Seams.{flip}
use Rattle.net.specs.Means.States.{Move, cross, inside, outside, map}
use Rattle.net.specs.Means.Spreads.{sign}
use Rattle.net.specs.Means.Flags.{ones, other}
use Rattle.net.proofs.Paths.{four, picked}
use Rattle.net.proofs.Table.{sound, below, threes, same, less, most, no, ◌and◌, ◌then◌}

-- ---- a digit and what stands above it

module _ (a b x y : ℕ) (hx : x < 4) (hy : y < 4) where
  xor_digit : bit_xor (4 * a + x) (4 * b + y) ≡ 4 * bit_xor a b + bit_xor x y
  xor_digit = (λ i. bit_xor (mul_comm 4 a i + x) (mul_comm 4 b i + y)) ∙ xor_block 2 a b x y hx hy ∙ omega arith

  or_digit : bit_or (4 * a + x) (4 * b + y) ≡ 4 * bit_or a b + bit_or x y
  or_digit = (λ i. bit_or (mul_comm 4 a i + x) (mul_comm 4 b i + y)) ∙ or_block 2 a b x y hx hy ∙ omega arith

  and_digit : bit_and (4 * a + x) (4 * b + y) ≡ 4 * bit_and a b + bit_and x y
  and_digit = (λ i. bit_and (mul_comm 4 a i + x) (mul_comm 4 b i + y)) ∙ and_block 2 a b x y hx hy ∙ omega arith

-- ---- flags of the digits that are not 0, and of those that are not c either

some_bit : (d : ℕ) → d < 4 → (e : ℕ) → e < 2 → (bit_and (bit_or d (2 * e + d / 2)) 1 ≡ sign d)
    × (bit_or d (2 * e + d / 2) < 4)
some_bit =
    sound (below 4 λ d. below 2 λ e. same (bit_and (bit_or d (2 * e + d / 2)) 1) (sign d) and less
    (bit_or d (2 * e + d / 2)) 4) refl

pub somes : (n w : ℕ) → bit_and (bit_or w (w / 2)) (ones n) ≡ path (each sign (digits_of n w))
unfolding ones path digits_of
somes zero w = and_zero_r (bit_or w (w / 2))
somes (suc n) w =
    let u = w / 4 in
    let d = w % 4 in
    let e = u % 2 in
    let a : w ≡ 4 * u + d = omega arith in
    let b : w / 2 ≡ 4 * (u / 2) + (2 * e + d / 2) = omega arith in
    let t = some_bit d (omega arith) e (omega arith) in
    (λ i. bit_and (bit_or (a i) (b i)) (4 * ones n + 1))
    ∙ ap (λ (x : ℕ). bit_and x (4 * ones n + 1)) (or_digit u (u / 2) d (2 * e + d / 2) (omega arith) (omega arith))
    ∙ and_digit (bit_or u (u / 2)) (ones n) (bit_or d (2 * e + d / 2)) 1 t.1 (omega arith)
    ∙ λ i. 4 * somes n u i + t.0 i

pub other_low : (d : ℕ) → d < 4 → (c : ℕ) → OneToThree c → other c d ≤ 1
other_low = sound (below 4 λ d. threes λ c. most (other c d) 1) refl

some_both : (d : ℕ) → d < 4 → (c : ℕ) → OneToThree c
    → (bit_and (sign d) (sign (bit_xor d c)) ≡ other c d) × ((bit_xor d c < 4)
    × ((sign d < 4) × (sign (bit_xor d c) < 4)))
some_both =
    sound (below 4 λ d. threes λ c.
    same (bit_and (sign d) (sign (bit_xor d c))) (other c d) and less (bit_xor d c) 4 and less (sign d) 4 and less
    (sign (bit_xor d c)) 4) refl

pub others : (n w c : ℕ) → OneToThree c
    → bit_and (path (each sign (digits_of n w))) (path (each sign (digits_of n (bit_xor w (c * ones n))))) ≡ path
    (each (other c) (digits_of n w))
unfolding ones path digits_of
others zero w c hc = refl
others (suc n) w c hc =
    let u = w / 4 in
    let d = w % 4 in
    let b = bit_xor u (c * ones n) in
    let t = some_both d (omega arith) c hc in
    let a : w ≡ 4 * u + d = omega arith in
    let m : c * (4 * ones n + 1) ≡ 4 * (c * ones n) + c = omega arith in
    let x : bit_xor w (c * (4 * ones n + 1)) ≡ 4 * b + bit_xor d c =
    (λ i. bit_xor (a i) (m i)) ∙ xor_digit u (c * ones n) d c (omega arith) (omega (arith, hc.1)) in
    let q : bit_xor w (c * (4 * ones n + 1)) / 4 ≡ b = omega (arith, x, t.1.0) in
    let r : bit_xor w (c * (4 * ones n + 1)) % 4 ≡ bit_xor d c = omega (arith, x, t.1.0) in
    (λ i. bit_and (4 * path (each sign (digits_of n u)) + sign d) (4 * path (each sign (digits_of n (q i))) + sign (r i)))
    ∙ and_digit (path (each sign (digits_of n u))) (path (each sign (digits_of n b))) (sign d) (sign (bit_xor d c))
    t.1.1.0 t.1.1.1
    ∙ λ i. 4 * others n u c hc i + t.0 i

-- ---- numbers that end in given digits

unfoldable pub onto : (a : ℕ) → List ℕ → ℕ
onto a [] = a
onto a (d ∷ ds) = 4 * onto a ds + d

pub onto_is : (a : ℕ) {n : ℕ} {ds : List ℕ} → AreDigits n ds → onto a ds ≡ a * 2 ^ (2 * n) + path ds
unfolding onto path
onto_is a none = omega arith
onto_is a (more {n = n} h ds) = omega (arith, onto_is a ds, ap (λ (x : ℕ). a * x) (four n))

pub digits_onto : (a : ℕ) {n : ℕ} {ds : List ℕ} → AreDigits n ds → digits_of n (onto a ds) ≡ ds
unfolding onto digits_of
digits_onto a none = refl
digits_onto a (more {n = n} {d = d} {ds = ds} h is) =
    let q : (4 * onto a ds + d) / 4 ≡ onto a ds = omega arith in
    let r : (4 * onto a ds + d) % 4 ≡ d = omega arith in
    (λ i. r i ∷ digits_of n (q i)) ∙ ap (λ (es : List ℕ). d ∷ es) (digits_onto a is)

-- digits that follow, all 0
unfoldable pub pad : ℕ → List ℕ → List ℕ
pad zero ds = ds
pad (suc p) ds = 0 ∷ pad p ds

pub pad_each : (f : ℕ → ℕ) → f 0 ≡ 0 → (p : ℕ) (ds : List ℕ) → each f (pad p ds) ≡ pad p (each f ds)
unfolding pad
pad_each f e zero ds = refl
pad_each f e (suc p) ds = λ i. e i ∷ pad_each f e p ds i

pub pad_onto : (a p : ℕ) (ds : List ℕ) → onto a (pad p ds) ≡ onto a ds * 2 ^ (2 * p)
unfolding pad onto
pad_onto a zero ds = omega arith
pad_onto a (suc p) ds = omega (arith, pad_onto a p ds, ap (λ (x : ℕ). onto a ds * x) (four p))

pub pad_digits : (p : ℕ) {n : ℕ} {ds : List ℕ} → AreDigits n ds → AreDigits (p + n) (pad p ds)
unfolding pad
pad_digits zero {n} {ds} a = let e : n ≡ 0 + n = omega arith in subst (λ (m : ℕ). AreDigits m ds) e a
pad_digits (suc p) {n} {ds} a =
    let e : suc (p + n) ≡ suc p + n = omega arith in
    subst (λ (m : ℕ). AreDigits m (0 ∷ pad p ds)) e (more {d = 0} (omega arith) (pad_digits p a))

pub path_onto : (ds : List ℕ) → path ds ≡ onto 0 ds
unfolding path onto
path_onto [] = refl
path_onto (d ∷ ds) = ap (λ (x : ℕ). 4 * x + d) (path_onto ds)

-- ---- over a seam: a digit that is neither 0 nor c is changed by c

changed : (d : ℕ) → d < 4 → (c : ℕ) → OneToThree c → (bit_xor d (c * other c d) ≡ flip c d)
    × (c * other c d < 4)
changed = sound (below 4 λ d. threes λ c. same (bit_xor d (c * other c d)) (flip c d) and less (c * other c d) 4) refl

pub flips : (a c : ℕ) → OneToThree c → {n : ℕ} {ds : List ℕ} → AreDigits n ds
    → bit_xor (onto a ds) (c * path (each (other c) ds)) ≡ onto a (each (flip c) ds)
unfolding onto path
flips a c hc none = ap (bit_xor a) (omega arith) ∙ xor_zero_r a
flips a c hc (more {d = d} {ds = ds} h is) =
    let m = path (each (other c) ds) in
    let t = changed d (omega arith) c hc in
    let e : c * (4 * m + other c d) ≡ 4 * (c * m) + c * other c d = omega arith in
    ap (bit_xor (4 * onto a ds + d)) e
    ∙ xor_digit (onto a ds) (c * m) d (c * other c d) (omega arith) t.1
    ∙ λ i. 4 * flips a c hc is i + t.0 i

-- ---- inside a side: the digits up to the first that is 0 or k, that one with them, are each changed by k

-- the spanOf of flags x
abbrev pub carried : (n x : ℕ) → ℕ
carried n x = bit_and (bit_xor (3 * x) (3 * x + 1)) (ones n)

stops : (n x : ℕ) → carried (suc n) (4 * x + 0) ≡ 1
unfolding ones
stops n x =
    let a : 3 * (4 * x + 0) ≡ 4 * (3 * x) + 0 = omega arith in
    let b : 3 * (4 * x + 0) + 1 ≡ 4 * (3 * x) + 1 = omega arith in
    (λ i. bit_and (bit_xor (a i) (b i)) (4 * ones n + 1))
    ∙ ap (λ (y : ℕ). bit_and y (4 * ones n + 1)) (xor_digit (3 * x) (3 * x) 0 1 (omega arith) (omega arith)
    ∙ ap (λ (y : ℕ). 4 * y + 1) (xor_self (3 * x)))
    ∙ and_digit 0 (ones n) 1 1 (omega arith) (omega arith)
    ∙ ap (λ (y : ℕ). 4 * y + 1) (and_zero_l (ones n))

goes_on : (n x : ℕ) → carried (suc n) (4 * x + 1) ≡ 4 * carried n x + 1
unfolding ones
goes_on n x =
    let a : 3 * (4 * x + 1) ≡ 4 * (3 * x) + 3 = omega arith in
    let b : 3 * (4 * x + 1) + 1 ≡ 4 * (3 * x + 1) + 0 = omega arith in
    (λ i. bit_and (bit_xor (a i) (b i)) (4 * ones n + 1))
    ∙ ap (λ (y : ℕ). bit_and y (4 * ones n + 1)) (xor_digit (3 * x) (3 * x + 1) 3 0 (omega arith) (omega arith))
    ∙ and_digit (bit_xor (3 * x) (3 * x + 1)) (ones n) 3 1 (omega arith) (omega arith)

-- what a spanOf x is of a step from n digits
abbrev pub Spans : (k a n : ℕ) → List ℕ → (x : ℕ) → Move (List ℕ) → Type 0
Spans k a n ds x (inside es) = (x < 2 ^ (2 * n)) × (bit_xor (onto a ds) (k * x) ≡ onto a es)
Spans k a n ds x outside = 2 ^ (2 * n) ≤ x

pub at_0 : (k : ℕ) → OneToThree k → (other k 0 ≡ 0) × (bit_xor 0 k ≡ k)
at_0 = sound (threes λ k. same (other k 0) 0 and same (bit_xor 0 k) k) refl

at_k : (k : ℕ) → OneToThree k → (other k k ≡ 0) × (bit_xor k k ≡ 0)
at_k = sound (threes λ k. same (other k k) 0 and same (bit_xor k k) 0) refl

at_other : (d : ℕ) → d < 4 → (k : ℕ) → OneToThree k → (d ≡ 0 → ⊥) → (d ≡ k → ⊥)
    → (other k d ≡ 1)
    × (bit_xor d k ≡ 6 - k - d)
at_other = sound (below 4 λ d. threes λ k. no (same d 0) then
    (no (same d k) then (same (other k d) 1 and same (bit_xor d k) (6 - k - d)))) refl

-- one digit more
module _ (k a n d : ℕ) (ds : List ℕ) (hk : OneToThree k) (hd : d < 4) where
  abbrev m : ℕ
  m = path (each (other k) ds)

  here : (e : ℕ) → other k d ≡ 0 → bit_xor d k ≡ e → Spans k a (suc n) (d ∷ ds)
      (carried (suc (suc n)) (4 * m + other k d)) (inside (e ∷ ds))
  unfolding onto
  here e o x =
      let s : carried (suc (suc n)) (4 * m + other k d) ≡ 1 = ap (λ (y : ℕ). carried (suc (suc n)) (4 * m + y)) o
      ∙ stops (suc n) m in
      let f : k * 1 ≡ 4 * 0 + k = omega arith in (
        omega (arith, s, four n, pow_pos (2 * n)),
        ap (λ (y : ℕ). bit_xor (4 * onto a ds + d) (k * y)) s
            ∙ ap (bit_xor (4 * onto a ds + d)) f
            ∙ xor_digit (onto a ds) 0 d k hd (omega (arith, hk.1))
            ∙ λ i. 4 * xor_zero_r (onto a ds) i + x i,
      )

  further : other k d ≡ 1 → bit_xor d k ≡ 6 - k - d → (c : Move (List ℕ))
      → Spans k a n ds (carried (suc n) m) c
      → Spans k a (suc n) (d ∷ ds) (carried (suc (suc n)) (4 * m + other k d)) (map (λ es. (6 - k - d) ∷ es) c)
  unfolding onto
  further o x (inside es) ih =
      let s : carried (suc (suc n)) (4 * m + other k d) ≡ 4 * carried (suc n) m + 1 =
      ap (λ (y : ℕ). carried (suc (suc n)) (4 * m + y)) o ∙ goes_on (suc n) m in
      let f : k * (4 * carried (suc n) m + 1) ≡ 4 * (k * carried (suc n) m) + k = omega arith in (
        omega (arith, s, four n, ih.0),
        ap (λ (y : ℕ). bit_xor (4 * onto a ds + d) (k * y)) s
            ∙ ap (bit_xor (4 * onto a ds + d)) f
            ∙ xor_digit (onto a ds) (k * carried (suc n) m) d k hd (omega (arith, hk.1))
            ∙ λ i. 4 * ih.1 i + x i,
      )
  further o x outside ih =
      let s : carried (suc (suc n)) (4 * m + other k d) ≡ 4 * carried (suc n) m + 1 =
      ap (λ (y : ℕ). carried (suc (suc n)) (4 * m + y)) o ∙ goes_on (suc n) m in
      omega (arith, s, four n, ih)

pub spans : (k a : ℕ) → OneToThree k → {n : ℕ} {ds : List ℕ} → AreDigits n ds
    → Spans k a n ds (carried (suc n) (path (each (other k) ds))) (cross k ds)
unfolding cross path ones
spans k a hk none = omega arith
spans k a hk (more {n = n} {d = d} {ds = ds} h is) =
    picked (Spans k a (suc n) (d ∷ ds) (carried (suc (suc n)) (4 * path (each (other k) ds) + other k d))) d 0
    (λ e. let t = at_0 k hk in here k a n d ds hk (omega arith) k (rw e t.0) (rw e t.1))
    (λ z. picked (Spans k a (suc n) (d ∷ ds) (carried (suc (suc n)) (4 * path (each (other k) ds) + other k d))) d k
    (λ e. let t = at_k k hk in here k a n d ds hk (omega arith) 0 (rw e t.0) (rw e t.1))
    (λ f. let t = at_other d (omega arith) k hk z f in further k a n d ds hk (omega arith) t.0 t.1 (cross k ds)
    (spans k a hk is)))
