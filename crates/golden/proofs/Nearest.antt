-- The whole number nearest to u + vφ: there is one and no other, that of -x is the negative, and no tie occurs; so too
-- for t; and where the quantity is whole. Assumes nothing.
use mathlib.Core.Path.{◌≡◌, refl, sym, ◌∙◌, ap, subst}
use mathlib.Core.Logic.{◌↔◌, ◌⊎◌, inl, inr, ⊎_elim}
use mathlib.Core.List.{[], ◌∷◌}
use Prim.Native.Nat.{ℕ, zero, suc, ◌+◌, ◌*◌, ◌≤◌, ◌<◌, ◌^◌}
use native.Mathlib.Omega.{arith}
use lib.Dec.{T}
use lib.IntN.{ℤ, pos, negsuc, neg_ℤ, nat_abs, ◌+ℤ◌, ◌*ℤ◌, +ℤ_idl, *ℤ-zero}
use lib.Signed.{◌≤ℤ◌, ◌<ℤ◌}
use Rattle.golden.specs.declared.Golden.{Golden}
use Rattle.golden.specs.Numbers.{Below, golden, whole, ◌+φ◌, negφ, ◌*φ◌}
use Rattle.golden.specs.Order.{NonNeg}
use Rattle.golden.specs.Drawing.{AtMostHalf, IsNearest, IsT, NotNearer, quantity, square}
use Rattle.golden.proofs.Polynomials.{E, var, lit, ◌⊕◌, ◌⊝◌, ◌⊗◌, ⊖}
use Rattle.golden.proofs.RingSolver.{solve}
use Rattle.golden.proofs.IntegerSolver.{ℤ-ring}
use Rattle.golden.proofs.IntegerOrder.{le_antisym, le_or_ltℤ, split, difs, pos_of, zarith}
use Rattle.golden.proofs.Magnitudes.{abs_add, abs_mul, abs_neg, cancelℤ, neg_of_abs, pos_abs}
use Rattle.golden.proofs.GoldenRing.{φ_path, φ_ring, scale}
use Rattle.golden.proofs.GoldenOrder.{nonneg_by, add_nonneg, antisym, total, non_neg, is_nonneg, nonneg_or_not}
use Rattle.golden.proofs.GoldenProduct.{whole_nonneg, *φ-nonneg}

-- 1 - 2d
abbrev pub room : Golden → Golden
room d = whole (pos 1) +φ negφ (d +φ d)

-- 2d - 1
abbrev pub over : Golden → Golden
over d = d +φ d +φ negφ (whole (pos 1))

over_room : (d : Golden) → negφ (room d) ≡ over d
over_room d =
    solve φ_ring (d ∷ []) (⊖ (lit 1 ⊝ (var 0 ⊕ var 0))) (var 0 ⊕ var 0 ⊝ lit 1) refl

-- ---- what is nearest moves with its number, and turns with it

nearest_add : (u : ℤ) {x : Golden} {t : ℤ} → IsNearest x t → IsNearest (whole u +φ x) (u +ℤ t)
unfolding ◌+φ◌
nearest_add u {x} {t} h = record {
  above = subst AtMostHalf (moved x (whole t)) h.above;
  below = subst AtMostHalf (moved (whole t) x) h.below;
}
  where
    moved : (x y : Golden) → x +φ negφ y ≡ (whole u +φ x) +φ negφ (whole u +φ y)
    moved x y =
        solve φ_ring (x ∷ y ∷ whole u ∷ []) (var 0 ⊝ var 1) ((var 2 ⊕ var 0) ⊝ (var 2 ⊕ var 1)) refl

nearest_neg : {x : Golden} {t : ℤ} → IsNearest x t → IsNearest (negφ x) (neg_ℤ t)
unfolding negφ
nearest_neg {x} {t} h = record {
  above = subst AtMostHalf (turned x (whole t)) h.below;
  below = subst AtMostHalf (turned (whole t) x) h.above;
}
  where
    turned : (x y : Golden) → y +φ negφ x ≡ negφ x +φ negφ (negφ y)
    turned x y = solve φ_ring (x ∷ y ∷ []) (var 1 ⊝ var 0) (⊖ (var 0) ⊝ ⊖ (var 1)) refl

-- ---- there is no other: "A tie can't occur"

-- 1 - 2d is not 0: its u is odd
odd : (d : Golden) → (room d).u ≡ pos 0 → ⊥
unfolding ◌+φ◌ negφ
odd d z = split d.u λ p m f. omega (arith, simp (f, difs) at z)

pub no_half : (d : Golden) → AtMostHalf d → NonNeg (over d) → ⊥
no_half d h k = odd d (antisym (room d) h (nonneg_by (sym (over_room d)) k)).0

-- t + 1 + n is not nearest too: 2(x - t) - 1 would be at least 0
not_later : {x : Golden} {s t : ℤ} (n : ℕ) → s ≡ t +ℤ pos 1 +ℤ pos n
    → IsNearest x t → IsNearest x s → ⊥
unfolding ◌+φ◌
not_later {x} {s} {t} n e h k =
    no_half (x +φ negφ (whole t)) h.above
    (nonneg_by later (add_nonneg (room (whole s +φ negφ x)) (whole (pos (n + n))) k.below (whole_nonneg (n + n))))
  where
    later : room (whole s +φ negφ x) +φ whole (pos (n + n)) ≡ over (x +φ negφ (whole t))
    later =
        ap (λ (y : ℤ). room (whole y +φ negφ x) +φ whole (pos (n + n))) e
        ∙ solve φ_ring (x ∷ whole t ∷ whole (pos n) ∷ [])
        ((lit 1 ⊝ (((var 1 ⊕ lit 1 ⊕ var 2) ⊝ var 0) ⊕ ((var 1 ⊕ lit 1 ⊕ var 2) ⊝ var 0)))
        ⊕ (var 2 ⊕ var 2))
        ((var 0 ⊝ var 1) ⊕ (var 0 ⊝ var 1) ⊝ lit 1) refl

not_less : {x : Golden} {s t : ℤ} → IsNearest x t → IsNearest x s → s ≤ℤ t
not_less {x} {s} {t} h k =
    ⊎_elim (λ l. l) (λ l. absurd (pos_of (next l) λ n e. not_later n e h k)) (le_or_ltℤ s t)
  where
    next : t <ℤ s → (t +ℤ pos 1) ≤ℤ s
    next l = split s λ p n x. split t λ q m y. simp (x, y, difs) (omega (arith, simp (x, y, difs) at l))

nearest_one : {x : Golden} {s t : ℤ} → IsNearest x s → IsNearest x t → s ≡ t
nearest_one h k = le_antisym (not_less k h) (not_less h k)

-- ---- it is the one than which none is nearer

abbrev sq : E → E
sq e = e ⊗ e

-- (d - n)² is at least d²: it is n((1 - 2d) + (n - 1)) more
farther : (d : Golden) (n : ℕ) → AtMostHalf d
    → NonNeg (square (d +φ negφ (whole (pos n))) +φ negφ (square d))
unfolding ◌+φ◌
farther d zero h =
    nonneg_by (solve φ_ring (d ∷ []) (lit 0) (sq (var 0 ⊝ lit 0) ⊝ sq (var 0)) refl) (whole_nonneg 0)
farther d (suc k) h =
    let e : k + 1 ≡ suc k = omega arith in
    subst (λ (n : ℕ). NonNeg (square (d +φ negφ (whole (pos n))) +φ negφ (square d))) e
    (nonneg_by
    (solve φ_ring (d ∷ whole (pos k) ∷ [])
    ((var 1 ⊕ lit 1) ⊗ ((lit 1 ⊝ (var 0 ⊕ var 0)) ⊕ var 1))
    (sq (var 0 ⊝ (var 1 ⊕ lit 1)) ⊝ sq (var 0)) refl)
    (*φ-nonneg (whole (pos (k + 1))) (room d +φ whole (pos k)) (whole_nonneg (k + 1))
    (add_nonneg (room d) (whole (pos k)) h (whole_nonneg k))))

module _ (x : Golden) (t : ℤ) where
  none_nearer : IsNearest x t → (s : ℤ) → NotNearer x t s
  unfolding ◌+φ◌
  none_nearer h s = ⊎_elim
      (λ l. pos_of l λ n e.
      subst (λ (t : ℤ). NotNearer x t s) (sym e)
      (nonneg_by
      (solve φ_ring (x ∷ whole s ∷ whole (pos n) ∷ [])
      (sq (((var 1 ⊕ var 2) ⊝ var 0) ⊝ var 2) ⊝ sq ((var 1 ⊕ var 2) ⊝ var 0))
      (sq (var 0 ⊝ var 1) ⊝ sq (var 0 ⊝ (var 1 ⊕ var 2))) refl)
      (farther (whole (s +ℤ pos n) +φ negφ x) n
      (subst (λ (t : ℤ). AtMostHalf (whole t +φ negφ x)) e h.below))))
      (λ l. let m : t ≤ℤ s = omega zarith in
      pos_of m λ n e.
      subst (λ (s : ℤ). NotNearer x t s) (sym e)
      (nonneg_by
      (solve φ_ring (x ∷ whole t ∷ whole (pos n) ∷ [])
      (sq ((var 0 ⊝ var 1) ⊝ var 2) ⊝ sq (var 0 ⊝ var 1))
      (sq (var 0 ⊝ (var 1 ⊕ var 2)) ⊝ sq (var 0 ⊝ var 1)) refl)
      (farther (x +φ negφ (whole t)) n h.above)))
      (le_or_ltℤ s t)

  so_nearest : ((s : ℤ) → NotNearer x t s) → IsNearest x t
  unfolding ◌+φ◌ negφ
  so_nearest f = record {
    above = nonneg_by
        (solve φ_ring (x ∷ whole t ∷ []) (sq (var 0 ⊝ (var 1 ⊕ lit 1)) ⊝ sq (var 0 ⊝ var 1))
        (lit 1 ⊝ ((var 0 ⊝ var 1) ⊕ (var 0 ⊝ var 1))) refl) (f (t +ℤ pos 1));
    below = nonneg_by
        (solve φ_ring (x ∷ whole t ∷ []) (sq (var 0 ⊝ (var 1 ⊝ lit 1)) ⊝ sq (var 0 ⊝ var 1))
        (lit 1 ⊝ ((var 1 ⊝ var 0) ⊕ (var 1 ⊝ var 0))) refl) (f (t +ℤ negsuc 0));
  }

  pub nearest_means : IsNearest x t ↔ ((s : ℤ) → NotNearer x t s)
  nearest_means = (none_nearer, so_nearest)

-- ---- of t and t + 1 one is nearest, where x lies from t - 1/2 to t + 3/2

module _ (x : Golden) (t : ℤ) where
  -- t, where x is not at least t + 1/2
  pub nearest_here :
      AtMostHalf (whole t +φ negφ x)
      → (NonNeg (over (x +φ negφ (whole t))) → ⊥)
      → IsNearest x t
  nearest_here h k =
      let d = x +φ negφ (whole t) in
      record { above = ⊎_elim (λ n. n) (λ n. absurd (k (nonneg_by (over_room d) n))) (total (room d)); below = h }

  -- the next, where it is
  pub nearest_next :
      AtMostHalf (x +φ negφ (whole (t +ℤ pos 1)))
      → NonNeg (over (x +φ negφ (whole t)))
      → IsNearest x (t +ℤ pos 1)
  unfolding ◌+φ◌
  nearest_next h k = record {
    above = h;
    below = nonneg_by
        (solve φ_ring (x ∷ whole t ∷ []) ((var 0 ⊝ var 1) ⊕ (var 0 ⊝ var 1) ⊝ lit 1)
        (lit 1 ⊝ (((var 1 ⊕ lit 1) ⊝ var 0) ⊕ ((var 1 ⊕ lit 1) ⊝ var 0))) refl) k;
  }

-- as a test that antt computes, with `unfolding ◌+φ◌ negφ`
abbrev pub Tested : Golden → ℤ → Type 0
Tested x t = T (non_neg (room (x +φ negφ (whole t)))) × T (non_neg (room (whole t +φ negφ x)))

nearest_test : (x : Golden) (t : ℤ) → Tested x t → IsNearest x t
nearest_test x t p = record {
  above = is_nonneg (room (x +φ negφ (whole t))) p.0;
  below = is_nonneg (room (whole t +φ negφ x)) p.1;
}

-- ---- there is one, and it is not large

abbrev φ : Golden
φ = golden (pos 0) (pos 1)

-- φ - 1 and 2 - φ
one_to_two : NonNeg (φ +φ negφ (whole (pos 1))) × NonNeg (whole (pos 2) +φ negφ φ)
unfolding ◌+φ◌ negφ
one_to_two = (is_nonneg (golden (negsuc 0) (pos 1)) tt, is_nonneg (golden (pos 2) (negsuc 0)) tt)

-- from x to x + φ it is 1 or 2 more
nearest_step : (x : Golden) (t : ℤ) → IsNearest x t
    → IsNearest (x +φ φ) (t +ℤ pos 1) ⊎ IsNearest (x +φ φ) (t +ℤ pos 1 +ℤ pos 1)
unfolding ◌+φ◌
nearest_step x t h =
    let next = t +ℤ pos 1 in
    ⊎_elim (λ k. inr (nearest_next (x +φ φ) next most k)) (λ k. inl (nearest_here (x +φ φ) next least k))
    (nonneg_or_not (over ((x +φ φ) +φ negφ (whole next))))
  where
    least : AtMostHalf (whole (t +ℤ pos 1) +φ negφ (x +φ φ))
    least =
        let p = φ +φ negφ (whole (pos 1)) in
        let more = add_nonneg p p one_to_two.0 one_to_two.0 in
        nonneg_by
        (solve φ_ring (x ∷ whole t ∷ φ ∷ [])
        ((lit 1 ⊝ ((var 1 ⊝ var 0) ⊕ (var 1 ⊝ var 0))) ⊕ ((var 2 ⊝ lit 1) ⊕ (var 2 ⊝ lit 1)))
        (lit 1 ⊝ (((var 1 ⊕ lit 1) ⊝ (var 0 ⊕ var 2)) ⊕ ((var 1 ⊕ lit 1) ⊝ (var 0 ⊕ var 2)))) refl)
        (add_nonneg (room (whole t +φ negφ x)) (p +φ p) h.below more)

    most : AtMostHalf ((x +φ φ) +φ negφ (whole (t +ℤ pos 1 +ℤ pos 1)))
    most =
        let p = whole (pos 2) +φ negφ φ in
        let more = add_nonneg p p one_to_two.1 one_to_two.1 in
        nonneg_by
        (solve φ_ring (x ∷ whole t ∷ φ ∷ [])
        ((lit 1 ⊝ ((var 0 ⊝ var 1) ⊕ (var 0 ⊝ var 1))) ⊕ ((lit 2 ⊝ var 2) ⊕ (lit 2 ⊝ var 2)))
        (lit 1
        ⊝ (((var 0 ⊕ var 2) ⊝ (var 1 ⊕ lit 1 ⊕ lit 1))
        ⊕ ((var 0 ⊕ var 2) ⊝ (var 1 ⊕ lit 1 ⊕ lit 1)))) refl)
        (add_nonneg (room (x +φ negφ (whole t))) (p +φ p) h.above more)

next_multiple : (m : ℕ) → golden (pos 0) (pos m) +φ φ ≡ golden (pos 0) (pos (suc m))
unfolding ◌+φ◌
next_multiple m = let e : m + 1 ≡ suc m = omega arith in φ_path refl (ap pos e)

nearest_multiple : (m : ℕ) → (q : ℕ) × (q ≤ 2 * m) × IsNearest (golden (pos 0) (pos m)) (pos q)
unfolding ◌+φ◌ negφ
nearest_multiple zero = (0, omega arith, nearest_test (whole (pos 0)) (pos 0) (tt, tt))
nearest_multiple (suc m) =
    let h = nearest_multiple m in
    let q = h.0 in
    let there : (r : ℕ) → r ≤ q + 2 → IsNearest (golden (pos 0) (pos m) +φ φ) (pos r)
    → (r : ℕ) × (r ≤ 2 * suc m) × IsNearest (golden (pos 0) (pos (suc m))) (pos r) =
    λ r l k. (r, omega (arith, h.1, l), subst (λ (x : Golden). IsNearest x (pos r)) (next_multiple m) k) in
    ⊎_elim (there (q + 1) (omega arith)) (there (q + 1 + 1) (omega arith))
    (nearest_step (golden (pos 0) (pos m)) (pos q) h.2)

-- u + vφ from |v|φ
module _ (x : Golden) {n : ℤ} (h : IsNearest (golden (pos 0) (pos (nat_abs x.v))) n) where
  parts : {v : ℤ} → x.v ≡ v → whole x.u +φ golden (pos 0) v ≡ x
  unfolding ◌+φ◌
  parts {v} e = φ_path (solve ℤ-ring (x.u ∷ []) (var 0 ⊕ lit 0) (var 0) refl) (+ℤ_idl v ∙ sym e)

  pub nearest_up : pos 0 ≤ℤ x.v → IsNearest x (x.u +ℤ n)
  nearest_up l =
      subst (λ (y : Golden). IsNearest y (x.u +ℤ n)) (parts (pos_abs x.v l)) (nearest_add x.u h)

  pub nearest_down : x.v <ℤ pos 0 → IsNearest x (x.u +ℤ neg_ℤ n)
  unfolding negφ
  nearest_down l =
      subst (λ (y : Golden). IsNearest y (x.u +ℤ neg_ℤ n)) (parts (neg_of_abs x.v l))
      (nearest_add x.u (nearest_neg h))

abbrev Sized : Golden → ℤ → Type 0
Sized x t = nat_abs t ≤ nat_abs x.u + 2 * nat_abs x.v

nearest_sized : (x : Golden) → (t : ℤ) × IsNearest x t × Sized x t
nearest_sized x =
    let m = nearest_multiple (nat_abs x.v) in
    let n = pos m.0 in
    ⊎_elim
    (λ l. (x.u +ℤ n, nearest_up x m.2 l, omega (arith, m.1, abs_add x.u n)))
    (λ l. (x.u +ℤ neg_ℤ n, nearest_down x m.2 l, omega (arith, m.1, abs_add x.u (neg_ℤ n), abs_neg n)))
    (le_or_ltℤ (pos 0) x.v)

pub nearest_small : {x : Golden} {t : ℤ} → IsNearest x t → Sized x t
nearest_small {x} h = let k = nearest_sized x in subst (Sized x) (nearest_one k.1 h) k.2

-- ---- the quantity "is whole when v is 0, else irrational"

pub quantity_whole : (x : Golden) → x.v ≡ pos 0 → quantity x ≡ whole (pos 65536 *ℤ x.u)
quantity_whole x e =
    scale (pos 65536) x ∙ φ_path refl (ap (λ (v : ℤ). pos 65536 *ℤ v) e ∙ *ℤ-zero (pos 65536))

-- the v of b times it, less a
v_is : (x : Golden) (a b : ℤ) → (whole b *φ quantity x +φ negφ (whole a)).v ≡ b *ℤ (pos 65536 *ℤ x.v)
unfolding ◌+φ◌ negφ
v_is x a b =
    let e : whole b *φ quantity x ≡ golden (b *ℤ (pos 65536 *ℤ x.u)) (b *ℤ (pos 65536 *ℤ x.v)) =
    ap (λ (y : Golden). whole b *φ y) (scale (pos 65536) x) ∙ scale b _ in
    ap (λ (y : Golden). y.v +ℤ pos 0) e
    ∙ solve ℤ-ring ((b *ℤ (pos 65536 *ℤ x.v)) ∷ []) (var 0 ⊕ lit 0) (var 0) refl

pub quantity_irrational : (x : Golden) → (x.v ≡ pos 0 → ⊥) → (a b : ℤ) → (b ≡ pos 0 → ⊥)
    → let d = whole b *φ quantity x +φ negφ (whole a) in NonNeg d → NonNeg (negφ d) → ⊥
quantity_irrational x n a b m h k =
    let d = whole b *φ quantity x +φ negφ (whole a) in
    n (cancelℤ (pos 65536) x.v (λ e. let z : 65536 ≡ 0 = ap nat_abs e in omega arith)
    (cancelℤ b (pos 65536 *ℤ x.v) m (sym (v_is x a b) ∙ (antisym d h k).1)))

-- ---- t

pub t_some : (x : Golden) → (t : ℤ) × IsT x t
t_some x = let h = nearest_sized (quantity x) in (h.0, h.1)

pub t_one : (x : Golden) {s t : ℤ} → IsT x s → IsT x t → s ≡ t
t_one x h k = nearest_one h k

pub t_neg : (x : Golden) {t : ℤ} → IsT x t → IsT (negφ x) (neg_ℤ t)
t_neg x {t} h =
    subst (λ (y : Golden). IsNearest y (neg_ℤ t))
    (solve φ_ring (x ∷ whole (pos 65536) ∷ []) (⊖ (var 1 ⊗ var 0)) (var 1 ⊗ ⊖ (var 0)) refl)
    (nearest_neg h)

pub t_small : {x : Golden} {t : ℤ} → Below (2 ^ 26 + 1) x → IsT x t → nat_abs t < 2 ^ 45
t_small {x} {t} b h =
    let k : IsNearest (golden (pos 65536 *ℤ x.u) (pos 65536 *ℤ x.v)) t =
    subst (λ (y : Golden). IsNearest y t) (scale (pos 65536) x) h in
    omega
    (arith, b.u_below, b.v_below, nearest_small k, abs_mul (pos 65536) x.u, abs_mul (pos 65536) x.v)

-- as a test that antt computes, with `unfolding ◌+φ◌ negφ ◌*φ◌`
pub t_test : (x : Golden) (t : ℤ) → Tested (quantity x) t → IsT x t
t_test x = nearest_test (quantity x)
