-- A word with a number below its digits: its flags, the word renumbered over a seam, and the word after a step inside a
-- side. Assumes nothing.
use mathlib.Core.Path.{◌≡◌, refl, sym, ◌∙◌, ap, subst}
use mathlib.Core.List.{List, ◌∷◌}
use Prim.Native.Nat.{ℕ, zero, suc, ◌+◌, ◌-◌, ◌*◌, ◌^◌, ◌≤◌, ◌<◌}
use native.Mathlib.Nat.{mul_assoc, mul-le-mul_right, mul-lt-mul_of_pos_right}
use native.Mathlib.Omega.{arith}
use lib.Bits.{bit_xor, bit_and, xor_block, and_block, and_zero_l, xor_self}
use lib.Pow.{pow_pos, pow_mono}
use Rattle.words.proofs.Digits.{AreDigits, more}
use Rattle.words.proofs.WordLayout.{unit_high}
use Rattle.words.specs.Words.{large, path, word_of, word_in}
use Rattle.net.specs.Sides.{OneToThree}
use Rattle.net.specs.Division.{each}
use Rattle.net.specs.Means.Paths.{digits_of}
use Rattle.net.specs.Means.Seams.{flip}
use Rattle.net.specs.Means.States.{Move, cross, inside, outside}
use Rattle.net.specs.Means.Flags.{ones, other, flags, span_of}
use Rattle.net.proofs.Flips.{flip_digits}
use Rattle.net.proofs.Flagging.{Spans, digits_onto, flips, onto, onto_is, pad, pad_digits, pad_each, pad_onto}
use Rattle.net.proofs.Flagging.{at_0, other_low, path_onto, carried, spans}
use Rattle.net.proofs.Paths.{four}

-- ---- ones

ones_small : (n : ℕ) → ones n < 2 ^ (2 * n)
unfolding ones
ones_small zero = omega arith
ones_small (suc n) = omega (arith, ones_small n, four n)

ones_add : (m n : ℕ) → ones (n + m) ≡ ones m * 2 ^ (2 * n) + ones n
unfolding ones
ones_add m zero = let e : 0 + m ≡ m = omega arith in rw e (omega arith)
ones_add m (suc n) = let e : suc n + m ≡ suc (n + m) = omega arith in
    rw e (omega (arith, ones_add m n, ap (λ (x : ℕ). ones m * x) (four n)))

-- ---- the word of a side, n digits and a number j

module _ (s : ℕ) {n : ℕ} {ds : List ℕ} (short : n ≤ 24) (are : AreDigits n ds) (j : ℕ) (hj : j < 4) where
  abbrev above : ℕ
  above = s * 32 + n

  abbrev unit : ℕ
  unit = 2 ^ (54 - 2 * n)

  abbrev all : List ℕ
  all = j ∷ pad (26 - n) ds

  all_digits : AreDigits 27 all
  all_digits = let e : suc (26 - n + n) ≡ 27 = omega arith in
      subst (λ (m : ℕ). AreDigits m all) e (more (omega arith) (pad_digits (26 - n) are))

  unit_is : 4 * 2 ^ (2 * (26 - n)) ≡ unit
  unit_is = let e : 2 * suc (26 - n) ≡ 54 - 2 * n = omega arith in sym (four (26 - n)) ∙ ap (λ (m : ℕ). 2 ^ m) e

  -- digits that follow, and then the number
  padded : (a : ℕ) (es : List ℕ) (i : ℕ) → 4 * onto a (pad (26 - n) es) + i ≡ onto a es * unit + i
  padded a es i = omega (arith, pad_onto a (26 - n) es, ap (λ (x : ℕ). onto a es * x) unit_is)

  filled : 2 ^ (2 * n) * unit ≡ 2 ^ 54
  filled = unit_high large n short

  -- other digits and another number in the same place
  pub word_onto : {es : List ℕ} → AreDigits n es → (i : ℕ)
      → word_of s n (path es) + i ≡ onto above es * unit + i
  unfolding word_in
  word_onto {es} is i =
      let b : above * (2 ^ (2 * n) * unit) ≡ above * 2 ^ 54 = ap (λ (x : ℕ). above * x) filled in
      let c : above * (2 ^ (2 * n) * unit) ≡ above * 2 ^ (2 * n) * unit = sym (mul_assoc above (2 ^ (2 * n)) unit) in
      omega (arith, b, c, ap (λ (x : ℕ). x * unit) (onto_is above is))

  abbrev word : ℕ
  word = word_of s n (path ds) + j

  word_all : word ≡ onto above all
  unfolding onto
  word_all = word_onto are j ∙ sym (padded above ds j)

  flags_all : (f : ℕ → ℕ) → flags f word ≡ path (each f all)
  unfolding flags
  flags_all f = ap (λ (es : List ℕ). path (each f es)) (ap (digits_of 27) word_all ∙ digits_onto above all_digits)

  flags_are : (f : ℕ → ℕ) → f 0 ≡ 0 → flags f word ≡ path (each f ds) * unit + f j
  unfolding path onto
  flags_are f z =
      flags_all f
      ∙ ap (λ (es : List ℕ). 4 * path es + f j) (pad_each f z (26 - n) ds)
      ∙ ap (λ (x : ℕ). 4 * x + f j) (path_onto (pad (26 - n) (each f ds)))
      ∙ padded 0 (each f ds) (f j)
      ∙ ap (λ (x : ℕ). x * unit + f j) (sym (path_onto (each f ds)))

  -- ---- over a seam

  pub flipped : (c : ℕ) → OneToThree c → bit_xor word (c * flags (other c) word)
      ≡ word_of s n (path (each (flip c) ds))
      + flip c j
  unfolding onto
  flipped c hc =
      (λ i. bit_xor (word_all i) (c * flags_all (other c) i))
      ∙ flips above c hc all_digits
      ∙ ap (λ (es : List ℕ). 4 * onto above es + flip c j) (pad_each (flip c) refl (26 - n) ds)
      ∙ padded above (each (flip c) ds) (flip c j)
      ∙ sym (word_onto (flip_digits c hc are) (flip c j))

  -- ---- inside the side

  module _ (k : ℕ) (hk : OneToThree k) where
    abbrev x : ℕ
    x = carried (suc n) (path (each (other k) ds))

    roomy : 64 ≤ unit
    roomy = pow_mono {i = 6} {j = 54 - 2 * n} (omega arith)

    span_is : span_of word unit k ≡ x * unit
    unfolding span_of
    span_is =
        let q = path (each (other k) ds) in
        let o = other k j in
        let low : 3 * o < unit = omega (arith, other_low j hj k hk, roomy) in
        let m : flags (other k) word ≡ q * unit + o = flags_are (other k) (at_0 k hk).0 in
        let a : 3 * (q * unit + o) ≡ 3 * q * unit + 3 * o = omega (arith, mul_assoc 3 q unit) in
        let b : 3 * (q * unit + o) + unit ≡ (3 * q + 1) * unit + 3 * o = omega (arith, mul_assoc 3 q unit) in
        let e : 27 - n + suc n ≡ 28 = omega arith in
        let g : 2 * (27 - n) ≡ 54 - 2 * n = omega arith in
        let c : ones 28 ≡ ones (suc n) * unit + ones (27 - n) =
        ap ones (sym e) ∙ ones_add (suc n) (27 - n) ∙ ap (λ (i : ℕ). ones (suc n) * 2 ^ i + ones (27 - n)) g in
        let d : ones (27 - n) < unit = rw g at (ones_small (27 - n)) in
        ap (λ (y : ℕ). bit_and (bit_xor (3 * y) (3 * y + unit)) (ones 28)) m
        ∙ (λ i. bit_and (bit_xor (a i) (b i)) (c i))
        ∙ ap (λ (y : ℕ). bit_and y (ones (suc n) * unit + ones (27 - n)))
        (xor_block (54 - 2 * n) (3 * q) (3 * q + 1) (3 * o) (3 * o) low low
        ∙ ap (λ (y : ℕ). bit_xor (3 * q) (3 * q + 1) * unit + y) (xor_self (3 * o)))
        ∙ and_block (54 - 2 * n) (bit_xor (3 * q) (3 * q + 1)) (ones (suc n)) 0 (ones (27 - n)) (pow_pos (54 - 2 * n))
        d
        ∙ ap (λ (y : ℕ). x * unit + y) (and_zero_l (ones (27 - n)))
        ∙ omega arith

    -- the step that leaves the side is told by its span_of; the other changes the word by k at each place of the span_of,
    -- and
    -- the number by any l
    abbrev pub Steps : Move (List ℕ) → Type 0
    Steps (inside es) =
        (span_of word unit k < 2 ^ 54) × ((l : ℕ) → l < 4
        → bit_xor word (k * span_of word unit k + l) ≡ onto above es *
        unit
        + bit_xor j l)
    Steps outside = 2 ^ 54 ≤ span_of word unit k

    steps_by : (m : Move (List ℕ)) → Spans k above n ds x m → Steps m
    steps_by (inside es) h = (
      rw span_is (rw filled at (mul-lt-mul_of_pos_right h.0 (pow_pos (54 - 2 * n)))),
      λ l hl.
          let a : k * (x * unit) + l ≡ k * x * unit + l = ap (λ (y : ℕ). y + l) (sym (mul_assoc k x unit)) in
          (λ i. bit_xor (word_onto are j i) (k * span_is i + l))
          ∙ ap (bit_xor (onto above ds * unit + j)) a
          ∙ xor_block (54 - 2 * n) (onto above ds) (k * x) j l (omega (arith, roomy)) (omega (arith, roomy))
          ∙ ap (λ (y : ℕ). y * unit + bit_xor j l) h.1,
    )
    steps_by outside h = rw span_is (rw filled at (mul-le-mul_right unit h))

    pub steps : Steps (cross k ds)
    steps = steps_by (cross k ds) (spans k above hk are)
