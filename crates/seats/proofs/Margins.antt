-- From near numbers to the determinants themselves: the margin 2^29 is more than all errors together. Assumes nothing.
use mathlib.Core.Path.{◌≡◌, refl, sym, ◌∙◌, ap}
use mathlib.Core.Logic.{inr, ⊎_elim}
use mathlib.Core.List.{[], ◌∷◌}
use Prim.Native.Nat.{ℕ, ◌+◌, ◌-◌, ◌*◌, ◌≤◌, ◌<◌}
use native.Mathlib.Omega.{arith}
use Rattle.golden.specs.Numbers.{◌+φ◌, negφ, ◌*φ◌}
use Rattle.golden.specs.Order.{NonNeg}
use Rattle.golden.specs.declared.Golden.{Golden}
use Rattle.golden.proofs.Polynomials.{var, lit, ◌⊕◌, ◌⊝◌, ◌⊗◌, ⊖}
use Rattle.golden.proofs.RingSolver.{solve}
use Rattle.golden.proofs.GoldenRing.{φ_ring}
use Rattle.golden.proofs.GoldenOrder.{nonneg_by, add_nonneg, total as either}
use Rattle.filing.specs.Holding.{◌-φ◌}
use Rattle.filing.specs.Means.Descent.{total}
use Rattle.filing.specs.declared.Determinants.{Determinants}
use Rattle.shares.specs.Means.Shares.{times, Between, Share, Stands, floors, strict}
use Rattle.shares.proofs.ShareLaws.{times_nonneg, under_le}
use Rattle.seats.specs.declared.dividing.Quotient.{Quotient}
use Rattle.seats.specs.declared.dividing.Divided.{Divided}
use Rattle.seats.specs.Means.Near.{Near, AllNear, Division, Divides, Away}
use Rattle.seats.specs.Means.Roles.{Within, Measured}
use Rattle.seats.proofs.WholeNumbers.{w, w_sum as sum, w_product as product, not_over}
use Rattle.seats.proofs.Divisions.{parts_under, parts_most}

-- ---- one determinant and the sum

module _ (S D : Golden) (s x f : ℕ) (small : f ≤ 16777217) (n : Near 4 D x) (m : Near 12 S s) where
  abbrev P : Golden
  P = w 524288

  abbrev Q : Golden
  Q = w 16777216

  -- f·S, less g·S, is below 2^24·D
  margin_over :
      (g : ℕ)
      → g ≤ 1
      → f * s + 536870912 ≤ 16777216 * x + g * s
      → NonNeg (times f S -φ times g S -φ times 16777216 D)
      → ⊥
  margin_over g k l t =
      let a : w (f * s + f * 12 + (g * 12 + 67108864)) ≡ w f *φ w s +φ w f *φ w 12 +φ (w g *φ w 12 +φ Q *φ w 4)
      =
      sum (f * s + f * 12) (g * 12 + 67108864)
      ∙ λ i. (sum (f * s) (f * 12) ∙ λ j. product f s j +φ product f 12 j) i
      +φ (sum (g * 12) 67108864 ∙ λ j. product g 12 j +φ product 16777216 4 j) i in
      let b : w (16777216 * x + g * s) ≡ Q *φ w x +φ w g *φ w s =
      sum (16777216 * x) (g * s) ∙ λ i. product 16777216 x i +φ product g s i in
      not_over (f * s + f * 12 + (g * 12 + 67108864)) (16777216 * x + g * s) (omega arith) (nonneg_by
      (solve φ_ring (P ∷ Q ∷ w f ∷ w g ∷ w s ∷ w x ∷ w 12 ∷ w 4 ∷ S ∷ D ∷ [])
      (var 0 ⊗ (var 2 ⊗ var 8 ⊝ var 3 ⊗ var 8 ⊝ var 1 ⊗ var 9) ⊕ var 2 ⊗
      (var 4 ⊕ var 6 ⊝ var 0 ⊗ var 8)
      ⊕ var 3 ⊗ (var 0 ⊗ var 8 ⊕ var 6 ⊝ var 4) ⊕ var 1 ⊗ (var 0 ⊗ var 9 ⊕ var 7 ⊝ var 5))
      (var 2 ⊗ var 4 ⊕ var 2 ⊗ var 6 ⊕ (var 3 ⊗ var 6 ⊕ var 1 ⊗ var 7) ⊝
      (var 1 ⊗ var 5 ⊕ var 3 ⊗ var 4)) refl
      ∙ λ i. sym a i -φ sym b i)
      (add_nonneg _ _
      (add_nonneg _ _
      (add_nonneg _ _ (times_nonneg 524288 _ t) (times_nonneg f _ m.high))
      (times_nonneg g _ m.low))
      (times_nonneg 16777216 _ n.low)))

  pub margin_above : f * s + 536870912 ≤ 16777216 * x → NonNeg (times f S -φ times 16777216 D) → ⊥
  margin_above l t = margin_over 0 (omega arith) (omega arith) (nonneg_by
      (solve φ_ring (times f S ∷ S ∷ times 16777216 D ∷ []) (var 0 ⊝ var 2)
      (var 0 ⊝ lit 0 ⊗ var 1 ⊝ var 2) refl)
      t)

  pub margin_less : f * s + 536870912 ≤ 16777216 * x + s → NonNeg (times f S -φ S -φ times 16777216 D) → ⊥
  margin_less l t = margin_over 1 (omega arith) (omega arith) (nonneg_by
      (solve φ_ring (times f S ∷ S ∷ times 16777216 D ∷ [])
      (var 0 ⊝ var 1 ⊝ var 2)
      (var 0 ⊝ lit 1 ⊗ var 1 ⊝ var 2) refl)
      t)

  pub margin_below :
      16777216 * x + 536870912 ≤ f * s + s
      → NonNeg (times 16777216 D -φ (times f S +φ S))
      → ⊥
  margin_below l t =
      let a : w (16777216 * x + 67108864 + (f * 12 + 12)) ≡ Q *φ w x +φ Q *φ w 4 +φ (w f *φ w 12 +φ w 12) =
      sum (16777216 * x + 67108864) (f * 12 + 12)
      ∙ λ i. (sum (16777216 * x) 67108864 ∙ λ j. product 16777216 x j +φ product 16777216 4 j) i
      +φ (sum (f * 12) 12 ∙ λ j. product f 12 j +φ w 12) i in
      let b : w (f * s + s) ≡ w f *φ w s +φ w s = sum (f * s) s ∙ λ i. product f s i +φ w s in
      not_over (16777216 * x + 67108864 + (f * 12 + 12)) (f * s + s) (omega arith) (nonneg_by
      (solve φ_ring (P ∷ Q ∷ w f ∷ w s ∷ w x ∷ w 12 ∷ w 4 ∷ S ∷ D ∷ [])
      (var 0 ⊗ (var 1 ⊗ var 8 ⊝ (var 2 ⊗ var 7 ⊕ var 7))
      ⊕ (var 2 ⊗ (var 0 ⊗ var 7 ⊕ var 5 ⊝ var 3) ⊕ (var 0 ⊗ var 7 ⊕ var 5 ⊝ var 3))
      ⊕ var 1 ⊗ (var 4 ⊕ var 6 ⊝ var 0 ⊗ var 8))
      (var 1 ⊗ var 4 ⊕ var 1 ⊗ var 6 ⊕ (var 2 ⊗ var 5 ⊕ var 5) ⊝ (var 2 ⊗ var 3 ⊕ var 3)) refl
      ∙ λ i. sym a i -φ sym b i)
      (add_nonneg _ _
      (add_nonneg _ _ (times_nonneg 524288 _ t) (add_nonneg _ _ (times_nonneg f _ m.low) m.low))
      (times_nonneg 16777216 _ n.high)))

-- ---- the sum, by the three

module _ (D : Determinants) (x1 x2 x3 : ℕ) (n : AllNear D x1 x2 x3) where
  all_w : w (x1 + x2 + x3) ≡ w x1 +φ w x2 +φ w x3
  all_w = sum (x1 + x2) x3 ∙ ap (λ (z : Golden). z +φ w x3) (sum x1 x2)

  twelve : w 12 ≡ w 4 +φ w 4 +φ w 4
  twelve = sum 8 4 ∙ ap (λ (z : Golden). z +φ w 4) (sum 4 4)

  pub near_total : Near 12 (total D) (x1 + x2 + x3)
  near_total = record {
    low = nonneg_by
        (solve φ_ring (w 524288 ∷ w 4 ∷ w x1 ∷ w x2 ∷ w x3 ∷ D.d1 ∷ D.d2 ∷ D.d3 ∷ [])
        ((var 0 ⊗ var 5 ⊕ var 1 ⊝ var 2) ⊕ (var 0 ⊗ var 6 ⊕ var 1 ⊝ var 3) ⊕
        (var 0 ⊗ var 7 ⊕ var 1 ⊝ var 4))
        (var 0 ⊗ (var 5 ⊕ var 6 ⊕ var 7) ⊕ (var 1 ⊕ var 1 ⊕ var 1) ⊝ (var 2 ⊕ var 3 ⊕ var 4)) refl
        ∙ λ i. times 524288 (total D) +φ sym twelve i -φ sym all_w i)
        (add_nonneg _ _ (add_nonneg _ _ n.near1.low n.near2.low) n.near3.low);
    high = nonneg_by
        (solve φ_ring (w 524288 ∷ w 4 ∷ w x1 ∷ w x2 ∷ w x3 ∷ D.d1 ∷ D.d2 ∷ D.d3 ∷ [])
        ((var 2 ⊕ var 1 ⊝ var 0 ⊗ var 5) ⊕ (var 3 ⊕ var 1 ⊝ var 0 ⊗ var 6) ⊕
        (var 4 ⊕ var 1 ⊝ var 0 ⊗ var 7))
        ((var 2 ⊕ var 3 ⊕ var 4) ⊕ (var 1 ⊕ var 1 ⊕ var 1) ⊝ var 0 ⊗ (var 5 ⊕ var 6 ⊕ var 7)) refl
        ∙ λ i. sym all_w i +φ sym twelve i -φ times 524288 (total D))
        (add_nonneg _ _ (add_nonneg _ _ n.near1.high n.near2.high) n.near3.high);
  }

-- ---- parts by division

module _ (s x : ℕ) (q : Quotient) (l : x ≤ s) (some : 0 < s) (d : Division s x q) where
  whole_most : q.whole ≤ 16777216
  whole_most = parts_most q.whole q.rest x s l some d.parts

  -- all only without a rest
  next_most : 0 < q.rest → q.whole + 1 ≤ 16777216
  next_most r = omega (arith, parts_under 16777216 q.whole q.rest s r (omega (arith, d.parts)))

  -- by a rest that is away from both ends
  clear : (S D : Golden) → Near 4 D x → Near 12 S s → Away s q.rest → Between 16777216 q.whole S D
  clear S D n m a =
      let f : q.whole ≤ 16777217 = omega (arith, whole_most) in
      record {
        above = margin_above S D s x q.whole f n m (omega (arith, d.parts, a.low));
        below = margin_below S D s x q.whole f n m (omega (arith, d.parts, a.high));
      }

-- ---- three that are clear

-- what lies strictly between two multiples one apart has a sum above 0
between_more : (p f : ℕ) (s x : Golden) → Between p f s x → NonNeg (negφ s) → ⊥
between_more p f s x b t = b.below (nonneg_by
    (solve φ_ring (times p x ∷ times f s ∷ s ∷ []) ((var 0 ⊝ var 1) ⊕ ⊖ (var 2))
    (var 0 ⊝ (var 1 ⊕ var 2)) refl)
    (add_nonneg _ _ (under_le (times f s) (times p x) b.above) t))

pub strict_stands :
    (D : Determinants) (q : Divided) (x1 x2 : ℕ)
    → AllNear D x1 x2 (q.sum - x1 - x2)
    → x1 + x2 ≤ q.sum
    → Divides x1 x2 q
    → Away q.sum q.q1.rest
    → Away q.sum q.q2.rest
    → Away q.sum q.q3.rest
    → Stands 16777216 (floors q.q1.whole q.q2.whole q.q3.whole) strict D
strict_stands D q x1 x2 n l d a1 a2 a3 =
    let s = q.sum in
    let x3 = s - x1 - x2 in
    let e : x1 + x2 + x3 ≡ s = omega arith in
    let m : Near 12 (total D) s = rw e at (near_total D x1 x2 x3 n) in
    let z : 0 < s = omega (arith, a1.low, a1.high) in
    let b1 = clear s x1 q.q1 (omega arith) z d.e1 (total D) D.d1 n.near1 m a1 in
    let b2 = clear s x2 q.q2 (omega arith) z d.e2 (total D) D.d2 n.near2 m a2 in
    let b3 = clear s x3 q.q3 (omega arith) z d.e3 (total D) D.d3 n.near3 m a3 in
    let more = between_more 16777216 q.q1.whole (total D) D.d1 b1 in
    record {
      some = ⊎_elim (λ h. h) (λ h. absurd (more h)) (either (total D));
      more = more;
      s1 = inr (refl, b1);
      s2 = inr (refl, b2);
      s3 = inr (refl, b3);
    }

-- ---- one that is measured

module _ (x s : Golden) (q : Quotient) (sum : ℕ) (m : Measured x s q sum) where
  above : 0 < sum
  above = omega (arith, m.large)

  pub measured_whole : q.whole ≤ 16777216
  measured_whole = whole_most sum m.number q m.fits above m.divided

  pub measured_next : 536870912 ≤ q.rest → q.whole + 1 ≤ 16777216
  measured_next l = next_most sum m.number q m.fits above m.divided (omega arith)

  pub measured_clear : Away sum q.rest → Share 16777216 q.whole 1 s x
  measured_clear a = inr (refl, clear sum m.number q m.fits above m.divided s x m.near m.near_sum a)

  -- g parts that are near enough
  measured_within :
      (g : ℕ)
      → g ≤ 16777217
      → g * sum + 536870912 ≤ 16777216 * m.number + sum
      → 16777216 * m.number + 536870912 ≤ g * sum + sum
      → Within g s x
  measured_within g f a b = record {
    some = m.some;
    above = margin_less s x sum m.number g f m.near m.near_sum a;
    below = margin_below s x sum m.number g f m.near m.near_sum b;
  }

  pub measured_low : q.rest < 536870912 → Within q.whole s x
  measured_low l =
      let e = m.divided.parts in
      measured_within q.whole (omega (arith, measured_whole)) (omega (arith, e, m.large))
      (omega (arith, e, m.large))

  pub measured_high : 536870912 ≤ q.rest → Within (q.whole + 1) s x
  measured_high l =
      let d = m.divided in
      measured_within (q.whole + 1) (omega (arith, measured_next l)) (omega (arith, d.parts))
      (omega (arith, d.parts, d.left, m.large))
