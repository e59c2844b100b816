-- One number of a table's file, by the tests that the code makes. Assumes nothing.
use mathlib.Core.Path.{◌≡◌, ◌∙◌, refl, sym, ap}
use mathlib.Core.Bool.{true, false, true≢false}
use Prim.Native.Nat.{ℕ, suc, ◌-◌, ◌^◌, ◌≤◌, ◌<◌}
use native.Mathlib.Omega.{arith}
use borrow.Author.Tests.{lt-ltb, le-ltb, le-leb, lt-leb, eq-eqb, ne_eqb}
use lib.Dec.{T}
use lib.IntN.{ℤ, pos, negsuc, nat_abs, ◌-ℤ◌}
use lib.Signed.{mag, lt_z, non_neg}
use mir.Syntax.{w32, w64}
use mir.Val.{Fits, SFits, to_z, of_z}
use mir.ValLaws.{to_z-of_z}
use Rattle.table_files.specs.Files.{word_of, reading_of, owner_of}

-- ---- written

-- -1 less a number below 0, and the word of that number
below : (x : ℤ) → lt_z x (pos 0) ≡ true → negsuc 0 -ℤ x ≡ pos (mag x)
below (pos n) e = absurd (true≢false (sym e ∙ le-ltb n 0 (omega arith)))
below (negsuc n) e = rw (le-ltb (suc n) 1 (omega arith)) (ap pos (omega arith))

below_word : (x : ℤ) → lt_z x (pos 0) ≡ true → 256 ^ 8 - 1 - mag x ≡ word_of x
below_word (pos n) e = absurd (true≢false (sym e ∙ le-ltb n 0 (omega arith)))
below_word (negsuc n) e = refl

module _ (x : ℤ) (f : SFits w32 x) where
  back : to_z w32 (of_z w32 x) ≡ x
  back = to_z-of_z w32 x f

  module _ (n : lt_z (to_z w32 (of_z w32 x)) (pos 0) ≡ true) where
    negative : lt_z x (pos 0) ≡ true
    negative = rw back at n

    less : negsuc 0 -ℤ to_z w32 (of_z w32 x) ≡ pos (mag x)
    less = ap (λ (y : ℤ). negsuc 0 -ℤ y) back ∙ below x negative

    pub less_fits : SFits w32 (negsuc 0 -ℤ to_z w32 (of_z w32 x))
    less_fits = rw less (record { sfits = f.sfits })

    is_less : to_z w32 (of_z w32 (negsuc 0 -ℤ to_z w32 (of_z w32 x))) ≡ pos (mag x)
    is_less = to_z-of_z w32 _ less_fits ∙ less

    pub less_cast : let y = to_z w32 (of_z w32 (negsuc 0 -ℤ to_z w32 (of_z w32 x))) in
        T (non_neg y) × Fits w64 (nat_abs y)
    less_cast = rw is_less (tt, record { fits = omega (arith, f.sfits) })

    pub less_all : nat_abs (to_z w32 (of_z w32 (negsuc 0 -ℤ to_z w32 (of_z w32 x)))) ≤ 256 ^ 8 - 1
    less_all = rw is_less (omega (arith, f.sfits))

    pub negative_word : 256 ^ 8 - 1 - nat_abs (to_z w32 (of_z w32 (negsuc 0 -ℤ to_z w32 (of_z w32 x)))) ≡ word_of x
    negative_word = ap (λ (y : ℤ). 256 ^ 8 - 1 - nat_abs y) is_less ∙ below_word x negative

  -- of a number that is not below 0
  not_below : (y : ℤ) → lt_z y (pos 0) ≡ false → T (non_neg y) × (nat_abs y ≡ mag y) × (nat_abs y ≡ word_of y)
  not_below (pos n) e = (tt, refl, refl)
  not_below (negsuc n) e = absurd (true≢false e)

  module _ (n : lt_z (to_z w32 (of_z w32 x)) (pos 0) ≡ false) where
    pub cast_word : T (non_neg (to_z w32 (of_z w32 x))) × Fits w64 (nat_abs (to_z w32 (of_z w32 x)))
    cast_word =
        let p = not_below (to_z w32 (of_z w32 x)) n in
        (p.0, record { fits = omega (arith, p.1, ap mag back, f.sfits) })

    pub its_word : nat_abs (to_z w32 (of_z w32 x)) ≡ word_of x
    its_word = (not_below (to_z w32 (of_z w32 x)) n).2 ∙ ap word_of back

-- ---- read

module _ (w : ℕ) where
  pub a_reading : w ≤ 100000 → to_z w32 w ≡ reading_of w
  unfolding reading_of
  a_reading l = rw (lt-ltb w 2147483648 (omega (arith, l)), le-leb w 100000 l)

  pub no_reading : 100000 < w → w ≡ 256 ^ 8 - 1 → negsuc 0 ≡ reading_of w
  unfolding reading_of
  no_reading l e = rw (lt-leb w 100000 l, eq-eqb w (256 ^ 8 - 1) e)

  pub bad_reading : 100000 < w → (w ≡ 256 ^ 8 - 1 → ⊥) → negsuc 1 ≡ reading_of w
  unfolding reading_of
  bad_reading l d = rw (lt-leb w 100000 l, ne_eqb w (256 ^ 8 - 1) d)

  pub an_owner : w ≤ 2 → w ≡ owner_of w
  unfolding owner_of
  an_owner l = rw (le-leb w 2 l)

  pub no_owner : 2 < w → 3 ≡ owner_of w
  unfolding owner_of
  no_owner l = rw (lt-leb w 2 l)
