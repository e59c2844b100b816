-- One share by a sign: how large the numbers are by which it is decided, and what the decision says. Assumes nothing.
use mathlib.Core.Path.{◌≡◌, refl, sym, ◌∙◌, ap}
use mathlib.Core.Logic.{inl, inr, ⊎_elim}
use mathlib.Core.List.{[], ◌∷◌}
use Prim.Native.Nat.{ℕ, ◌+◌, ◌-◌, ◌^◌, ◌≤◌, ◌<◌}
use native.Mathlib.Nat.{mul-le-mul_right}
use native.Mathlib.Omega.{arith}
use lib.IntN.{ℤ, pos, nat_abs, neg_ℤ, ◌+ℤ◌, ◌*ℤ◌}
use Rattle.golden.specs.Numbers.{whole, Below, ◌+φ◌, negφ}
use Rattle.golden.specs.Order.{NonNeg}
use Rattle.golden.specs.declared.Golden.{Golden}
use Rattle.golden.proofs.Polynomials.{var, lit, ◌⊕◌, ◌⊝◌, ◌⊗◌, ⊖}
use Rattle.golden.proofs.RingSolver.{solve}
use Rattle.golden.proofs.GoldenRing.{φ_ring, φ_path, scale}
use Rattle.golden.proofs.GoldenOrder.{nonneg_by, antisym}
use Rattle.golden.proofs.IntegerOrder.{le_or_lt}
use Rattle.golden.proofs.Magnitudes.{abs_add, abs_neg, abs_mul, zero_abs}
use Rattle.filing.specs.Holding.{◌-φ◌}
use Rattle.shares.specs.Means.Shares.{times, Share}
use Rattle.shares.proofs.ShareLaws.{times_nonneg, sum_times}
use Rattle.seats.specs.Means.Roles.{Beside, Within}

-- ---- how large

pub product_small : (f : ℕ) (x : ℤ) → f ≤ 16777217 → nat_abs x ≤ 8000000000
    → nat_abs (pos f *ℤ x) < 2 ^ 58
product_small f x l h = omega (arith, abs_mul (pos f) x, mul-le-mul_right (nat_abs x) l)

-- a multiple
pub wide : (f : ℕ) (x r : Golden) → f ≤ 16777216 → Below 8000000001 x → r ≡ times f x → Below (2 ^ 61) r
wide f x r l h e = rw (e ∙ scale (pos f) x) (record {
  u_below = part x.u h.u_below;
  v_below = part x.v h.v_below;
})
  where
    part : (y : ℤ) → nat_abs y < 8000000001 → nat_abs (pos f *ℤ y) < 2 ^ 61
    part y k = omega (arith, product_small f y (omega arith) (omega (arith, k)))

-- what 2^24·x has over g·s
pub over_small :
    (g : ℕ) (s x r : Golden)
    → g ≤ 16777216
    → Beside 8000000000 s x
    → r ≡ times 16777216 x -φ times g s
    → Below (2 ^ 57) r
unfolding ◌+φ◌ negφ
over_small g s x r l h e = rw (e ∙ λ i. scale (pos 16777216) x i -φ scale (pos g) s i) (record {
  u_below = part s.u x.u h.u_beside;
  v_below = part s.v x.v h.v_beside;
})
  where
    part :
        (y z : ℤ)
        → nat_abs z + nat_abs y ≤ 8000000000
        → nat_abs (pos 16777216 *ℤ z +ℤ neg_ℤ (pos g *ℤ y)) < 2 ^ 57
    part y z k = omega (
      arith,
      abs_mul (pos g) y,
      abs_mul (pos 16777216) z,
      mul-le-mul_right (nat_abs y) l,
      abs_add (pos 16777216 *ℤ z) (neg_ℤ (pos g *ℤ y)),
      abs_neg (pos g *ℤ y),
    )

pub both_zero : (x : Golden) → nat_abs x.u + nat_abs x.v ≡ 0 → x ≡ whole (pos 0)
both_zero x e = φ_path (zero_abs x.u (omega arith)) (zero_abs x.v (omega arith))

-- ---- what the sign says

module _ (g : ℕ) (s x r : Golden) (e : r ≡ times 16777216 x -φ times g s) where
  abbrev px : Golden
  px = times 16777216 x

  pub on : r ≡ whole (pos 0) → Share 16777216 g 0 s x
  on z = inl (
    refl,
    solve φ_ring (px ∷ times g s ∷ []) (var 0) ((var 0 ⊝ var 1) ⊕ var 1) refl
        ∙ ap (λ (y : Golden). y +φ times g s) (sym e ∙ z)
        ∙ solve φ_ring (times g s ∷ []) (lit 0 ⊕ var 0) (var 0) refl,
  )

  module _ (h : Within g s x) where
    pub above : NonNeg r → (r ≡ whole (pos 0) → ⊥) → Share 16777216 g 1 s x
    above n z = inr (
      refl,
      record {
        above = λ t. let a = antisym r n (nonneg_by
            (solve φ_ring (px ∷ times g s ∷ []) (var 1 ⊝ var 0) (⊖ (var 0 ⊝ var 1)) refl
            ∙ ap negφ (sym e)) t) in
            z (φ_path a.0 a.1);
        below = h.below;
      },
    )

    module _ (n : NonNeg r → ⊥) where
      -- nothing is below 0 parts
      pub below_some : 0 < g
      below_some = ⊎_elim
          (λ (l : g ≤ 0). let z : g ≡ 0 = omega arith in absurd (n (nonneg_by
          (solve φ_ring (px ∷ s ∷ []) (var 0) (var 0 ⊝ lit 0 ⊗ var 1) refl
          ∙ ap (λ (k : ℕ). px -φ times k s) (sym z)
          ∙ sym e)
          (times_nonneg 16777216 x h.some))))
          (λ l. l)
          (le_or_lt g 0)

      pub below : Share 16777216 (g - 1) 1 s x
      below =
          let l = below_some in
          let k = g - 1 in
          let q : times g s ≡ times k s +φ times 1 s = sum_times k 1 s (omega arith) in
          inr (
            refl,
            record {
              above = λ t. h.above (nonneg_by
                  (solve φ_ring (times k s ∷ s ∷ px ∷ []) (var 0 ⊝ var 2)
                  (var 0 ⊕ lit 1 ⊗ var 1 ⊝ var 1 ⊝ var 2) refl
                  ∙ ap (λ (y : Golden). y -φ s -φ px) (sym q)) t);
              below = λ t. n (nonneg_by
                  (solve φ_ring (times k s ∷ s ∷ px ∷ [])
                  (var 2 ⊝ (var 0 ⊕ var 1))
                  (var 2 ⊝ (var 0 ⊕ lit 1 ⊗ var 1)) refl
                  ∙ ap (λ (y : Golden). px -φ y) (sym q)
                  ∙ sym e) t);
            },
          )
