-- The digits of a word of any form, as a list with the last first and as one number. Assumes nothing.
use mathlib.Core.Path.{◌≡◌, ◌∙◌, refl, sym}
use mathlib.Core.List.{List, [], ◌∷◌}
use Prim.Native.Nat.{ℕ, zero, suc, ◌+◌, ◌*◌, ◌/◌, ◌%◌, ◌^◌, ◌≤◌, ◌<◌}
use native.Mathlib.Nat.{mod-one, lt_of_lt_of_le}
use native.Mathlib.Omega.{arith}
use lib.Dec.{lit<}
use lib.Pow.{pow-add, pow_mono}
use Rattle.words.specs.Forms.{Form, digit_in, first_digits, path, word_in}
use Rattle.words.specs.Words.{large, digits}
use Rattle.words.proofs.WordLayout.{unit, Roomy, path_is, path_next}

-- ds is a list of n digits.
pub data AreDigits : ℕ → List ℕ → Type 0 where
  none : AreDigits 0 []
  more : {n d : ℕ} {ds : List ℕ} → d ≤ 3 → AreDigits n ds → AreDigits (suc n) (d ∷ ds)

pub first_digit : {n d : ℕ} {ds : List ℕ} → AreDigits (suc n) (d ∷ ds) → d ≤ 3
first_digit (more h a) = h

pub other_digits : {n d : ℕ} {ds : List ℕ} → AreDigits (suc n) (d ∷ ds) → AreDigits n ds
other_digits (more h a) = a

pub path_lt : {n : ℕ} {ds : List ℕ} → AreDigits n ds → path ds < 2 ^ (2 * n)
unfolding path
path_lt none = lit< tt
path_lt (more {n = n} h a) =
    let e : 2 * suc n ≡ 2 * n + 2 = omega arith in
    rw e (omega (arith, path_lt a, pow-add 2 (2 * n) 2))

pub path_injective : {n : ℕ} {ds es : List ℕ} → AreDigits n ds → AreDigits n es → path ds ≡ path es → ds ≡ es
unfolding path
path_injective none none e = refl
path_injective (more {d = d} {ds = ds} h a) (more {d = d'} {ds = es} k b) e =
    let p : path ds ≡ path es = omega arith in
    let q : d ≡ d' = omega arith in
    λ i. q i ∷ path_injective a b p i

module _ (f : Form) where
  pub digits_in : (w n : ℕ) → AreDigits n (first_digits f w n)
  unfolding first_digits
  digits_in w zero = none
  digits_in w (suc n) = more {d = digit_in f w (suc n)} (omega arith) (digits_in w n)

  pub path_in : (w n : ℕ) → n ≤ f.digit_count → path (first_digits f w n) ≡ w / unit f n % 2 ^ (2 * n)
  unfolding path first_digits
  path_in w zero h = sym (mod-one (w / unit f 0))
  path_in w (suc n) h = omega (arith, path_in w n (omega arith), path_next f w n h)

  -- what a made word holds
  pub path_made : Roomy f → (s n v : ℕ) → n ≤ f.digit_count → v < 2 ^ (2 * n)
      → path (first_digits f (word_in f s n v) n) ≡ v
  path_made room s n v h k = path_in _ n h ∙ path_is f room s n v h k

  pub digits_made : Roomy f → (s : ℕ) {n : ℕ} {ds : List ℕ} → n ≤ f.digit_count → AreDigits n ds
      → first_digits f (word_in f s n (path ds)) n ≡ ds
  digits_made room s {n} {ds} h a =
      path_injective (digits_in _ n) a (path_made room s n (path ds) h (path_lt a))

-- ---- document 01's words

pub large_roomy : Roomy large
large_roomy = lit< tt

pub digits_are : (w n : ℕ) → AreDigits n (digits w n)
digits_are = digits_in large

-- a path of 24 digits or fewer is a number of 48 bits
pub path_48 : (w n : ℕ) → n ≤ 24 → path (digits w n) < 2 ^ 48
path_48 w n h = lt_of_lt_of_le (path_lt (digits_are w n)) (pow_mono {i = 2 * n} {j = 48} (omega arith))
