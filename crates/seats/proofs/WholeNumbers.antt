-- Whole numbers among the numbers u + vφ: their sums, products and order. Assumes nothing.
use mathlib.Core.Path.{◌≡◌, refl, ◌∙◌, ap}
use mathlib.Core.Logic.{⊎_elim}
use mathlib.Core.List.{[], ◌∷◌}
use Prim.Native.Nat.{ℕ, ◌+◌, ◌-◌, ◌*◌, ◌≤◌, ◌<◌}
use native.Mathlib.Omega.{arith}
use lib.IntN.{pos, nat_abs}
use Rattle.golden.specs.Numbers.{whole, ◌+φ◌, negφ, ◌*φ◌}
use Rattle.golden.specs.Order.{NonNeg}
use Rattle.golden.specs.declared.Golden.{Golden}
use Rattle.golden.proofs.Polynomials.{var, ◌⊕◌, ◌⊝◌, ⊖}
use Rattle.golden.proofs.RingSolver.{solve}
use Rattle.golden.proofs.GoldenRing.{φ_ring, of_addφ, of_mulφ}
use Rattle.golden.proofs.GoldenOrder.{nonneg_by, antisym}
use Rattle.golden.proofs.GoldenProduct.{whole_nonneg}
use Rattle.golden.proofs.IntegerOrder.{le_or_lt}
use Rattle.filing.specs.Holding.{◌-φ◌}

abbrev pub w : ℕ → Golden
w n = whole (pos n)

pub w_sum : (a b : ℕ) → w (a + b) ≡ w a +φ w b
w_sum a b = of_addφ (pos a) (pos b)

pub w_product : (a b : ℕ) → w (a * b) ≡ w a *φ w b
w_product a b = of_mulφ (pos a) (pos b)

-- what is left
pub w_less : (m n : ℕ) → n ≤ m → w m ≡ w (m - n) +φ w n
w_less m n l = let e : m ≡ m - n + n = omega arith in ap w e ∙ w_sum (m - n) n

-- a whole number below another is not above it
pub not_over : (a b : ℕ) → a < b → NonNeg (w a -φ w b) → ⊥
not_over a b l h =
    let q : w a -φ w b ≡ negφ (w (b - a)) =
    ap (λ (z : Golden). w a -φ z) (w_less b a (omega arith))
    ∙ solve φ_ring (w a ∷ w (b - a) ∷ []) (var 0 ⊝ (var 1 ⊕ var 0)) (⊖ (var 1)) refl in
    let z : b - a ≡ 0 = ap nat_abs (antisym (w (b - a)) (whole_nonneg (b - a)) (nonneg_by q h)).0 in
    omega arith

pub w_order : (a b : ℕ) → NonNeg (w a -φ w b) → b ≤ a
w_order a b h = ⊎_elim (λ l. l) (λ l. absurd (not_over a b l h)) (le_or_lt b a)
