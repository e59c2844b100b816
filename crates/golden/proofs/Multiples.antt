-- The whole number nearest to mφ, by a fraction next below φ: the nearest to m times the fraction, or the next.
-- Assumes nothing.
use mathlib.Core.Path.{◌≡◌, refl, sym, ◌∙◌, ap, subst}
use Prim.Native.Nat.{ℕ, ◌+◌, ◌*◌, ◌-◌, ◌/◌, ◌%◌, ◌≤◌, ◌^◌}
use native.Mathlib.Omega.{arith}
use lib.IntN.{ℤ, pos, negsuc, neg_ℤ, ◌+ℤ◌, ◌*ℤ◌}
use Rattle.golden.specs.declared.Golden.{Golden}
use Rattle.golden.specs.Numbers.{golden, whole, ◌+φ◌, negφ, ◌*φ◌}
use Rattle.golden.specs.Order.{NonNeg}
use Rattle.golden.specs.Drawing.{AtMostHalf, IsNearest}
use Rattle.golden.proofs.IntegerOrder.{split, difs}
use Rattle.golden.proofs.GoldenRing.{φ_path, scale}
use Rattle.golden.proofs.GoldenOrder.{nonneg_by, add_nonneg, is_nonneg}
use Rattle.golden.proofs.GoldenProduct.{whole_nonneg, *φ-nonneg}
use Rattle.golden.proofs.Quotients.{divide_nonneg}
use Rattle.golden.proofs.Nearest.{room, over, nearest_here, nearest_next}

-- The fraction of Fibonacci's next below φ, and half of its divisor.
abbrev pub top : ℕ
top = 1836311903

abbrev pub bottom : ℕ
bottom = 1134903170

abbrev pub half : ℕ
half = 567451585

-- bottom·φ - top is at least 0, and 2^42 times it is at most 2048
abbrev excess : Golden
excess = golden (negsuc (top - 1)) (pos bottom)

abbrev spare : Golden
spare = golden (pos (2048 + 2 ^ 42 * top)) (negsuc (2 ^ 42 * bottom - 1))

excess_nonneg : NonNeg excess
excess_nonneg = is_nonneg excess tt

spare_nonneg : NonNeg spare
spare_nonneg = is_nonneg spare tt

-- 2mφ - (2q + 1)
abbrev pub beyond : (m q : ℕ) → Golden
beyond m q = golden (neg_ℤ (pos (2 * q + 1))) (pos (2 * m))

-- q is m·top/bottom rounded to the nearest
module _ (m q : ℕ) (m≤ : m ≤ 2 ^ 42) (is : q ≡ (m * top + half) / bottom) where
  abbrev rest : ℕ
  rest = (m * top + half) % bottom

  abbrev mφ : Golden
  mφ = golden (pos 0) (pos m)

  abbrev B : Golden
  B = whole (pos bottom)

  -- bottom·(1 - 2(q - mφ)) = 2·rest + 2m·excess
  least_is : B *φ room (whole (pos q) +φ negφ mφ) ≡ whole (pos (2 * rest)) +φ whole (pos (2 * m)) *φ excess
  unfolding ◌+φ◌ negφ
  least_is =
      scale (pos bottom) (room (whole (pos q) +φ negφ mφ))
      ∙ φ_path (simp difs (omega (arith, is))) vs
      ∙ ap (λ (x : Golden). whole (pos (2 * rest)) +φ x) (sym (scale (pos (2 * m)) excess))
    where
      v : ℤ
      v = pos 0 +ℤ neg_ℤ (pos m)

      vs : pos bottom *ℤ (pos 0 +ℤ neg_ℤ (v +ℤ v)) ≡ pos 0 +ℤ pos (2 * m) *ℤ pos bottom
      vs = simp difs (omega arith)

  -- mφ is at least q - 1/2
  least : AtMostHalf (whole (pos q) +φ negφ mφ)
  least =
      let sum = add_nonneg _ _ (whole_nonneg (2 * rest)) (*φ-nonneg _ _ (whole_nonneg (2 * m)) excess_nonneg) in
      divide_nonneg (bottom - 1) _ (nonneg_by (sym least_is) sum)

  -- and at most q + j + 1/2 where what is left stays 2048 below (j + 1)·bottom: always where j is 1
  module _ (j : ℕ) (roomy : rest + 2048 ≤ (j + 1) * bottom) where
    abbrev left : ℕ
    left = (j + 1) * bottom - (rest + 2048)

    abbrev fewer : ℕ
    fewer = 2 ^ 42 - m

    -- bottom·(1 - 2(mφ - q - j)) = 2·left + 2(2048 - 2^42·excess) + 2(2^42 - m)·excess
    most_is :
        B *φ room (mφ +φ negφ (whole (pos (q + j))))
        ≡ (whole (pos (2 * left)) +φ (spare +φ spare)) +φ whole (pos (2 * fewer)) *φ excess
    unfolding ◌+φ◌ negφ
    most_is =
        scale (pos bottom) (room (mφ +φ negφ (whole (pos (q + j)))))
        ∙ φ_path (simp difs (omega (arith, is))) (vs spare.v refl)
        ∙ ap (λ (x : Golden). (whole (pos (2 * left)) +φ (spare +φ spare)) +φ x)
        (sym (scale (pos (2 * fewer)) excess))
      where
        vs :
            (l : ℤ)
            → l ≡ neg_ℤ (pos (2 ^ 42 * bottom))
            → pos bottom *ℤ (room (mφ +φ negφ (whole (pos (q + j))))).v
            ≡ (pos 0 +ℤ (l +ℤ l)) +ℤ pos (2 * fewer) *ℤ pos bottom
        vs l h = split l λ p n x. simp (x, difs) (omega (arith, simp (x, difs) at h))

    most : AtMostHalf (mφ +φ negφ (whole (pos (q + j))))
    most =
        let low = add_nonneg _ _ (whole_nonneg (2 * left)) (add_nonneg _ _ spare_nonneg spare_nonneg) in
        let sum = add_nonneg _ _ low (*φ-nonneg _ _ (whole_nonneg (2 * fewer)) excess_nonneg) in
        divide_nonneg (bottom - 1) _ (nonneg_by (sym most_is) sum)

  -- q itself where m is clear
  pub clear_nearest : rest + 2048 ≤ bottom → IsNearest mφ (pos q)
  clear_nearest c =
      let e : q + 0 ≡ q = omega arith in
      record {
        above = subst (λ (i : ℕ). AtMostHalf (mφ +φ negφ (whole (pos i)))) e (most 0 (omega (arith, c)));
        below = least;
      }

  -- else q or the next, by the sign of 2mφ - (2q + 1)
  beyond_is : beyond m q ≡ over (mφ +φ negφ (whole (pos q)))
  unfolding ◌+φ◌ negφ
  beyond_is =
      let u : ℤ = pos 0 +ℤ neg_ℤ (pos q) in
      let us : neg_ℤ (pos (2 * q + 1)) ≡ (u +ℤ u) +ℤ neg_ℤ (pos 1) = simp difs (omega arith) in
      let v : ℤ = pos m +ℤ neg_ℤ (pos 0) in
      let vs : pos (2 * m) ≡ (v +ℤ v) +ℤ neg_ℤ (pos 0) = simp difs (omega arith) in
      φ_path us vs

  pub beyond_next : NonNeg (beyond m q) → IsNearest mφ (pos (q + 1))
  beyond_next n = nearest_next mφ (pos q) (most 1 (omega arith)) (nonneg_by beyond_is n)

  pub not_beyond : (NonNeg (beyond m q) → ⊥) → IsNearest mφ (pos q)
  not_beyond n = nearest_here mφ (pos q) least (λ k. n (nonneg_by (sym beyond_is) k))
