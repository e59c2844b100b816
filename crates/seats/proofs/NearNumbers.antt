-- 2^19·nφ in whole numbers, the determinants of a side by such numbers, and the two ways to subtract them.
-- Assumes nothing.
use mathlib.Core.Path.{◌≡◌, refl, sym, ◌∙◌, ap}
use mathlib.Core.Logic.{⊎_elim}
use mathlib.Core.List.{[], ◌∷◌}
use Prim.Native.Nat.{ℕ, ◌+◌, ◌-◌, ◌*◌, ◌/◌, ◌%◌, ◌≤◌, ◌<◌}
use native.Mathlib.Nat.{div-add-mod', mod-lt}
use native.Mathlib.Omega.{arith}
use lib.IntN.{pos, negsuc}
use Rattle.golden.specs.Numbers.{golden, ◌+φ◌, negφ, ◌*φ◌}
use Rattle.golden.specs.Order.{NonNeg}
use Rattle.golden.specs.declared.Golden.{Golden}
use Rattle.golden.proofs.Polynomials.{var, lit, ◌⊕◌, ◌⊝◌, ◌⊗◌, ⊖}
use Rattle.golden.proofs.RingSolver.{solve}
use Rattle.golden.proofs.GoldenRing.{φ_ring}
use Rattle.golden.proofs.GoldenOrder.{nonneg_by, add_nonneg, is_nonneg, total}
use Rattle.golden.proofs.GoldenProduct.{whole_nonneg}
use Rattle.golden.proofs.IntegerOrder.{le_or_lt}
use Rattle.golden.proofs.Quotients.{divide_nonneg}
use Rattle.filing.specs.Holding.{◌-φ◌}
use Rattle.shares.specs.Means.Shares.{times}
use Rattle.shares.proofs.ShareLaws.{times_nonneg}
use Rattle.seats.specs.Means.Near.{Near, NearPhi, Apart}
use Rattle.seats.specs.Means.Octants.{phi, lean, outer, double}
use Rattle.seats.proofs.WholeNumbers.{w, w_sum, w_product, w_less, w_order}

-- ---- φ·2^51 lies between 3643488634403411 and the next number

abbrev K : ℕ
K = 3643488634403411

abbrev excess : Golden
excess = w 2251799813685248 *φ phi -φ w K

excess_low : NonNeg excess
unfolding ◌+φ◌ negφ ◌*φ◌
excess_low = is_nonneg (golden (negsuc 3643488634403410) (pos 2251799813685248)) tt

excess_high : NonNeg (w 1 -φ excess)
unfolding ◌+φ◌ negφ ◌*φ◌
excess_high = is_nonneg (golden (pos 3643488634403412) (negsuc 2251799813685247)) tt

-- 2^19·nφ
abbrev part : ℕ → Golden
part n = times 524288 (times n phi)

module _ (n : ℕ) (l : n ≤ 1000000000) where
  abbrev q : ℕ
  q = 3452697171 * n / 4294967296

  abbrev rest : ℕ
  rest = 3452697171 * n % 4294967296

  abbrev t : ℕ
  t = 848315 * n + q

  -- 2^32·t and the rest are K·n
  golds : w 4294967296 *φ w t +φ w rest ≡ w K *φ w n
  golds =
      let e : 4294967296 * t + rest ≡ K * n = omega (arith, div-add-mod' (3452697171 * n) 4294967296) in
      ap (λ (z : Golden). z +φ w rest) (sym (w_product 4294967296 t))
      ∙ sym (w_sum (4294967296 * t) rest)
      ∙ ap w e
      ∙ w_product K n

  -- and so this is 2^32 times the error of t
  error : w 4294967296 *φ (part n -φ w t) ≡ times n excess +φ w rest
  error =
      solve φ_ring (w n ∷ w 4294967296 ∷ w 524288 ∷ phi ∷ w t ∷ w rest ∷ [])
      (var 1 ⊗ (var 2 ⊗ (var 0 ⊗ var 3) ⊝ var 4))
      (var 0 ⊗ ((var 1 ⊗ var 2) ⊗ var 3) ⊝ (var 1 ⊗ var 4 ⊕ var 5) ⊕ var 5) refl
      ∙ (λ i. w n *φ (sym (w_product 4294967296 524288) i *φ phi) -φ golds i +φ w rest)
      ∙ solve φ_ring (w n ∷ w 2251799813685248 ∷ phi ∷ w K ∷ w rest ∷ [])
      (var 0 ⊗ (var 1 ⊗ var 2) ⊝ var 3 ⊗ var 0 ⊕ var 4)
      (var 0 ⊗ (var 1 ⊗ var 2 ⊝ var 3) ⊕ var 4) refl

  -- and what it is below 2
  abbrev left : ℕ
  left = 8589934592 - (n + rest)

  spare : w 4294967296 *φ (w t +φ w 2 -φ part n) ≡ times n (w 1 -φ excess) +φ w left
  spare =
      let small : rest < 4294967296 = mod-lt (3452697171 * n) (omega arith) in
      solve φ_ring (w 4294967296 ∷ w t ∷ w 2 ∷ part n ∷ [])
      (var 0 ⊗ (var 1 ⊕ var 2 ⊝ var 3))
      (var 0 ⊗ var 2 ⊝ var 0 ⊗ (var 3 ⊝ var 1)) refl
      ∙ (λ i. (sym (w_product 4294967296 2) ∙ w_less 8589934592 (n + rest) (omega arith)) i -φ error i)
      ∙ ap (λ (z : Golden). w left +φ z -φ (times n excess +φ w rest)) (w_sum n rest)
      ∙ solve φ_ring (w n ∷ excess ∷ w rest ∷ w left ∷ [])
      (var 3 ⊕ (var 0 ⊕ var 2) ⊝ (var 0 ⊗ var 1 ⊕ var 2))
      (var 0 ⊗ (lit 1 ⊝ var 1) ⊕ var 3) refl

  pub near_phi : NearPhi n t
  near_phi = record {
    low = divide_nonneg 4294967295 _
        (nonneg_by (sym error) (add_nonneg _ _ (times_nonneg n _ excess_low) (whole_nonneg rest)));
    high = divide_nonneg 4294967295 _
        (nonneg_by (sym spare) (add_nonneg _ _ (times_nonneg n _ excess_high) (whole_nonneg left)));
    least = omega arith;
    most = omega (arith, div-add-mod' (3452697171 * n) 4294967296);
  }

-- ---- determinants by such numbers

-- where 2^19·x and n are m and an error of at most 4
apart_by :
    (x e : Golden) (m n : ℕ)
    → times 524288 x +φ w n ≡ w m +φ e
    → NonNeg (w 4 +φ e)
    → NonNeg (w 4 -φ e)
    → Apart x m n
apart_by x e m n p l h = record {
  low = nonneg_by
      (solve φ_ring (e ∷ w m ∷ w 4 ∷ []) (var 2 ⊕ var 0) ((var 1 ⊕ var 0) ⊕ var 2 ⊝ var 1) refl
      ∙ ap (λ (z : Golden). z +φ w 4 -φ w m) (sym p)
      ∙ solve φ_ring (times 524288 x ∷ w n ∷ w m ∷ w 4 ∷ [])
      ((var 0 ⊕ var 1) ⊕ var 3 ⊝ var 2) (var 0 ⊕ var 3 ⊕ var 1 ⊝ var 2) refl)
      l;
  high = nonneg_by
      (solve φ_ring (e ∷ w m ∷ w 4 ∷ []) (var 2 ⊝ var 0) (var 1 ⊕ var 2 ⊝ (var 1 ⊕ var 0)) refl
      ∙ ap (λ (z : Golden). w m +φ w 4 -φ z) (sym p))
      h;
}

-- two such errors, subtracted or added
less_low : (a c A C : ℕ) → NearPhi a A → NearPhi c C → NonNeg (w 4 +φ ((part c -φ w C) -φ (part a -φ w A)))
less_low a c A C na nc = nonneg_by
    (solve φ_ring (part a ∷ part c ∷ w A ∷ w C ∷ [])
    ((var 1 ⊝ var 3) ⊕ (var 2 ⊕ lit 2 ⊝ var 0) ⊕ lit 2)
    (lit 4 ⊕ ((var 1 ⊝ var 3) ⊝ (var 0 ⊝ var 2))) refl)
    (add_nonneg _ _ (add_nonneg _ _ nc.low na.high) (whole_nonneg 2))

module _ (a c A C : ℕ) (na : NearPhi a A) (nc : NearPhi c C) where
  abbrev d_a : Golden
  d_a = part a -φ w A

  abbrev d_c : Golden
  d_c = part c -φ w C

  -- 2^19·(b + c + (c - a)φ)
  pub apart_lean : (b : ℕ) → Apart (lean a b c) (524288 * (b + c) + C) A
  apart_lean b = apart_by (lean a b c) (d_c -φ d_a) (524288 * (b + c) + C) A
      (solve φ_ring (w 524288 ∷ w a ∷ w b ∷ w c ∷ phi ∷ w A ∷ w C ∷ [])
      (var 0 ⊗ (var 2 ⊕ (var 3 ⊕ var 3 ⊗ var 4) ⊝ var 1 ⊗ var 4) ⊕ var 5)
      (var 0 ⊗ (var 2 ⊕ var 3) ⊕ var 6 ⊕ ((var 0 ⊗ (var 3 ⊗ var 4) ⊝ var 6) ⊝ (var 0 ⊗ (var 1 ⊗ var 4) ⊝ var 5))) refl
      ∙ ap (λ (z : Golden). z +φ (d_c -φ d_a)) (sym
      (w_sum (524288 * (b + c)) C
      ∙ ap (λ (z : Golden). z +φ w C) (w_product 524288 (b + c)
      ∙ ap (λ (z : Golden). w 524288 *φ z) (w_sum b c)))))
      (less_low a c A C na nc)
      (nonneg_by (solve φ_ring (d_a ∷ d_c ∷ []) (lit 4 ⊕ (var 0 ⊝ var 1)) (lit 4 ⊝ (var 1 ⊝ var 0)) refl)
      (less_low c a C A nc na))

  sum_low : NonNeg (w 4 +φ (d_a +φ d_c))
  sum_low = add_nonneg _ _ (whole_nonneg 4) (add_nonneg _ _ na.low nc.low)

  sum_high : NonNeg (w 4 -φ (d_a +φ d_c))
  sum_high = nonneg_by
      (solve φ_ring (part a ∷ part c ∷ w A ∷ w C ∷ [])
      ((var 2 ⊕ lit 2 ⊝ var 0) ⊕ (var 3 ⊕ lit 2 ⊝ var 1))
      (lit 4 ⊝ ((var 0 ⊝ var 2) ⊕ (var 1 ⊝ var 3))) refl)
      (add_nonneg _ _ na.high nc.high)

  -- 2^19·(c - b + (a + c)φ)
  pub apart_outer : (b : ℕ) → Apart (outer a b c) (524288 * c + A + C) (524288 * b)
  apart_outer b = apart_by (outer a b c) (d_a +φ d_c) (524288 * c + A + C) (524288 * b)
      (ap (λ (z : Golden). times 524288 (outer a b c) +φ z) (w_product 524288 b)
      ∙ solve φ_ring (w 524288 ∷ w a ∷ w b ∷ w c ∷ phi ∷ w A ∷ w C ∷ [])
      (var 0 ⊗ (var 1 ⊗ var 4 ⊕ (var 3 ⊕ var 3 ⊗ var 4) ⊝ var 2) ⊕ var 0 ⊗ var 2)
      (var 0 ⊗ var 3 ⊕ var 5 ⊕ var 6 ⊕ ((var 0 ⊗ (var 1 ⊗ var 4) ⊝ var 5) ⊕ (var 0 ⊗ (var 3 ⊗ var 4) ⊝ var 6))) refl
      ∙ ap (λ (z : Golden). z +φ (d_a +φ d_c)) (sym
      (w_sum (524288 * c + A) C
      ∙ ap (λ (z : Golden). z +φ w C) (w_sum (524288 * c) A
      ∙ ap (λ (z : Golden). z +φ w A) (w_product 524288 c)))))
      sum_low sum_high

-- 2^19·2bφ
pub apart_double : (b B : ℕ) → NearPhi b B → Apart (double b) (2 * B) 0
apart_double b B n = apart_by (double b) ((part b -φ w B) +φ (part b -φ w B)) (2 * B) 0
    (solve φ_ring (w 524288 ∷ w b ∷ phi ∷ w B ∷ [])
    (var 0 ⊗ (var 1 ⊗ var 2 ⊕ var 1 ⊗ var 2) ⊕ lit 0)
    (lit 2 ⊗ var 3 ⊕ ((var 0 ⊗ (var 1 ⊗ var 2) ⊝ var 3) ⊕ (var 0 ⊗ (var 1 ⊗ var 2) ⊝ var 3))) refl
    ∙ ap (λ (z : Golden). z +φ ((part b -φ w B) +φ (part b -φ w B))) (sym (w_product 2 B)))
    (sum_low b b B B n n) (sum_high b b B B n n)

-- ---- whole numbers apart

module _ (x : Golden) (m n : ℕ) (a : Apart x m n) where
  pub apart_opposite : Apart (negφ x) n m
  apart_opposite = record {
    low = nonneg_by
        (solve φ_ring (w 524288 ∷ x ∷ w m ∷ w n ∷ [])
        (var 2 ⊕ lit 4 ⊝ (var 0 ⊗ var 1 ⊕ var 3)) (var 0 ⊗ ⊖ (var 1) ⊕ lit 4 ⊕ var 2 ⊝ var 3) refl)
        a.high;
    high = nonneg_by
        (solve φ_ring (w 524288 ∷ x ∷ w m ∷ w n ∷ [])
        (var 0 ⊗ var 1 ⊕ lit 4 ⊕ var 3 ⊝ var 2) (var 3 ⊕ lit 4 ⊝ (var 0 ⊗ ⊖ (var 1) ⊕ var 2)) refl)
        a.low;
  }

  pub near_less : n ≤ m → Near 4 x (m - n)
  near_less l = record {
    low = nonneg_by
        (ap (λ (z : Golden). times 524288 x +φ w 4 +φ w n -φ z) (w_less m n l)
        ∙ solve φ_ring (times 524288 x ∷ w n ∷ w (m - n) ∷ [])
        (var 0 ⊕ lit 4 ⊕ var 1 ⊝ (var 2 ⊕ var 1)) (var 0 ⊕ lit 4 ⊝ var 2) refl)
        a.low;
    high = nonneg_by
        (ap (λ (z : Golden). z +φ w 4 -φ (times 524288 x +φ w n)) (w_less m n l)
        ∙ solve φ_ring (times 524288 x ∷ w n ∷ w (m - n) ∷ [])
        (var 2 ⊕ var 1 ⊕ lit 4 ⊝ (var 0 ⊕ var 1)) (var 2 ⊕ lit 4 ⊝ var 0) refl)
        a.high;
  }

  module _ (s : NonNeg x) where
    abbrev scaled : NonNeg (times 524288 x)
    scaled = times_nonneg 524288 x s

    pub apart_above : n ≤ m + 4
    apart_above = w_order (m + 4) n (nonneg_by
        (solve φ_ring (times 524288 x ∷ w m ∷ w n ∷ [])
        ((var 1 ⊕ lit 4 ⊝ (var 0 ⊕ var 2)) ⊕ var 0) ((var 1 ⊕ lit 4) ⊝ var 2) refl
        ∙ ap (λ (z : Golden). z -φ w n) (sym (w_sum m 4)))
        (add_nonneg _ _ a.high scaled))

    -- where m is below n, the number 0 is as near
    near_zero : m ≤ n → Near 4 x 0
    near_zero l = record {
      low = nonneg_by
          (solve φ_ring (times 524288 x ∷ []) (var 0 ⊕ lit 4) (var 0 ⊕ lit 4 ⊝ lit 0) refl)
          (add_nonneg _ _ scaled (whole_nonneg 4));
      high = nonneg_by
          (ap (λ (z : Golden). w m +φ w 4 -φ (times 524288 x +φ z) +φ w (n - m)) (w_less n m l)
          ∙ solve φ_ring (times 524288 x ∷ w m ∷ w (n - m) ∷ [])
          (var 1 ⊕ lit 4 ⊝ (var 0 ⊕ (var 2 ⊕ var 1)) ⊕ var 2) (lit 0 ⊕ lit 4 ⊝ var 0) refl)
          (add_nonneg _ _ a.high (whole_nonneg (n - m)));
    }

    pub near_cut : Near 4 x (m - n)
    near_cut = ⊎_elim
        near_less
        (λ l. let e : m - n ≡ 0 = omega arith in rw e (near_zero (omega arith)))
        (le_or_lt n m)

pub opposite_nonneg : (x : Golden) → (NonNeg x → ⊥) → NonNeg (negφ x)
opposite_nonneg x f = ⊎_elim (λ h. absurd (f h)) (λ h. h) (total x)

pub apart_below : (x : Golden) (m n : ℕ) → Apart x m n → (NonNeg x → ⊥) → m ≤ n + 4
apart_below x m n a f = apart_above (negφ x) n m (apart_opposite x m n a) (opposite_nonneg x f)
