-- Which words of a form are codes: those with the right fields. Such a word is made of its side, its degree and its
-- digits, and each word that is made so is one. Assumes nothing.
use mathlib.Core.Path.{◌≡◌, ◌∙◌, ap}
use mathlib.Core.Logic.{◌↔◌, ◌⊎◌}
use mathlib.Core.Bool.{not}
use Prim.Native.Nat.{ℕ, ◌+◌, ◌*◌, ◌^◌, ◌≤◌, ◌<◌}
use native.Mathlib.Nat.{pos_of_ne-zero, div-lt_iff_lt-mul}
use native.Mathlib.Omega.{arith}
use lib.Pow.{pow-add, pow_pos}
use borrow.Author.Tests.{ltb-false, eqb-true, eqb-false, not-false, le-ltb, eq-eqb, ne_eqb}
use Rattle.frame.proofs.Refusing.{NoneSo, either_false}
use Rattle.words.specs.Forms.{Form, below_side, a_in, degree_in, first_digits, beyond_in, low_in, side_in, path, word_in}
use Rattle.words.specs.Refusals.{field_rows}
use Rattle.words.proofs.WordLayout.{Roomy, side_is, degree_is_lem, beyond_is, low_is, word_is, word_order}
use Rattle.words.proofs.Digits.{digits_in, path_in, path_lt}

-- What is asked of a word's fields above its low bits.
pub record Fields (f : Form) (w : ℕ) : Type 0 where
  pub degree : degree_in f w ≤ f.digit_count
  pub a_low : 1 ≤ a_in f w
  pub a_high : a_in f w ≤ 5
  pub clear : beyond_in f w (degree_in f w) ≡ 0

-- A code of a form has them, and its low bits are 0.
abbrev pub CodeIn : Form → ℕ → Type 0
CodeIn f w = Fields f w × (low_in f w ≡ 0)

module _ (f : Form) where
  -- refusals 2 and 3 are not given
  pub rows_pass : (w : ℕ) → degree_in f w ≤ f.digit_count → NoneSo (field_rows f w) ↔ Fields f w
  rows_pass w d = (
    λ n.
        let a = (either_false _ _).0 n.0 in
        record {
          degree = d;
          a_low = pos_of_ne-zero (eqb-false _ _ a.0);
          a_high = ltb-false 5 _ a.1;
          clear = eqb-true _ _ (not-false _ n.1.0);
        },
    λ g. (
      (either_false _ _).1 (ne_eqb (a_in f w) 0 (λ e. omega (arith, g.a_low)), le-ltb 5 _ g.a_high),
      (ap not (eq-eqb _ _ g.clear), tt),
    ),
  )

  module _ {w : ℕ} (g : Fields f w) where
    pub side_low : 4 ≤ side_in f w
    side_low = omega (arith, g.a_low)

    pub side_high : side_in f w < 24
    side_high = omega (arith, g.a_high)

    -- a has three bits, p and q one each
    pub fields_below : w < 2 ^ (below_side f + 5)
    fields_below =
        let k = below_side f + 2 in
        let e : below_side f + 5 ≡ k + 3 = omega arith in
        let l : w < 8 * 2 ^ k = (div-lt_iff_lt-mul (pow_pos k)).0 (omega (arith, g.a_high)) in
        rw (e, pow-add 2 k 3) (omega (arith, l))

  -- a code is the word of its side, degree and digits
  pub word_made : {w : ℕ} → CodeIn f w → (n : ℕ) → degree_in f w ≡ n
      → w ≡ word_in f (side_in f w) n (path (first_digits f w n))
  word_made {w} (g, low) n d =
      let h : n ≤ f.digit_count = omega (arith, g.degree) in
      let clear : beyond_in f w n ≡ 0 = rw d at g.clear in
      rw (path_in f w n h) (word_is f w n d h clear low)

  -- and each such word is a code
  pub made_code : Roomy f → (s n v : ℕ) → 4 ≤ s → s < 24 → n ≤ f.digit_count → v < 2 ^ (2 * n)
      → CodeIn f (word_in f s n v)
  made_code room s n v s≥ s< h k =
      let w = word_in f s n v in
      let d : degree_in f w ≡ n = degree_is_lem f room s n v h k in
      let q : side_in f w ≡ s = side_is f room s n v h k in (
        record {
          degree = omega arith;
          a_low = omega arith;
          a_high = omega arith;
          clear = ap (λ (m : ℕ). beyond_in f w m) d ∙ beyond_is f room s n v h k;
        },
        low_is f room s n v h k,
      )

  -- codes of one degree are ordered by side and then by path
  pub codes_order : Roomy f → {w w' : ℕ} → CodeIn f w → CodeIn f w' → (n : ℕ) → degree_in f w ≡ n → degree_in f w' ≡ n
      → (w < w') ↔ ((side_in f w < side_in f w')
      ⊎ ((side_in f w ≡ side_in f w') × (path (first_digits f w n) < path (first_digits f w' n))))
  codes_order room {w} {w'} c c' n d d' =
      let h : n ≤ f.digit_count = omega (arith, c.0.degree) in
      let made = word_made c n d in
      let made' = word_made c' n d' in
      let law = word_order f room (side_in f w) (side_in f w') n _ _ h (path_lt (digits_in f w n))
      (path_lt (digits_in f w' n)) in
      (λ l. law.0 (omega (arith, made, made')), λ l. omega (arith, made, made', law.1 l))
