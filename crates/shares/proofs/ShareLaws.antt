-- One determinant of the three as a share of their sum: on which side of half it is, and its share in each child; and
-- what all three have over their floors, or left to more. Assumes nothing.
use mathlib.Core.Path.{◌≡◌, refl, sym, ◌∙◌, ap, subst}
use mathlib.Core.Logic.{◌⊎◌, inl, inr, ⊎_elim}
use mathlib.Core.List.{[], ◌∷◌}
use Prim.Native.Nat.{ℕ, zero, suc, ◌+◌, ◌-◌, ◌≤◌, ◌<◌}
use native.Mathlib.Omega.{arith}
use lib.IntN.{pos, nat_abs}
use Rattle.golden.specs.Numbers.{whole, ◌+φ◌, negφ, ◌*φ◌}
use Rattle.golden.specs.Order.{NonNeg}
use Rattle.golden.specs.declared.Golden.{Golden}
use Rattle.golden.proofs.Polynomials.{var, lit, ◌⊕◌, ◌⊝◌, ◌⊗◌, ⊖}
use Rattle.golden.proofs.RingSolver.{solve}
use Rattle.golden.proofs.GoldenRing.{φ_ring, of_addφ, +φ-*φ}
use Rattle.golden.proofs.GoldenOrder.{nonneg_by, total as either, add_nonneg}
use Rattle.golden.proofs.GoldenProduct.{whole_nonneg, *φ-nonneg}
use Rattle.golden.proofs.Quotients.{cancel, divide_nonneg}
use Rattle.golden.proofs.IntegerOrder.{le_or_lt}
use Rattle.filing.specs.Holding.{◌-φ◌}
use Rattle.filing.specs.Means.Descent.{twice}
use Rattle.shares.specs.Means.Shares.{times, Share}

pub neg_minus : (x y : Golden) → negφ (x -φ y) ≡ y -φ x
neg_minus x y = solve φ_ring (x ∷ y ∷ []) (⊖ (var 0 ⊝ var 1)) (var 1 ⊝ var 0) refl

minus_both : (x y z : Golden) → x -φ y -φ z ≡ x -φ (y +φ z)
minus_both x y z = solve φ_ring (x ∷ y ∷ z ∷ []) (var 0 ⊝ var 1 ⊝ var 2) (var 0 ⊝ (var 1 ⊕ var 2)) refl

-- x is below y
abbrev pub Under : Golden → Golden → Type 0
Under x y = NonNeg (x -φ y) → ⊥

pub under_le : (x y : Golden) → Under x y → NonNeg (y -φ x)
under_le x y u = ⊎_elim (λ h. absurd (u h)) (nonneg_by (neg_minus x y)) (either (x -φ y))

pub times_nonneg : (n : ℕ) (x : Golden) → NonNeg x → NonNeg (times n x)
times_nonneg n x h = *φ-nonneg _ x (whole_nonneg n) h

pub sum_times : (a b : ℕ) (x : Golden) {n : ℕ} → n ≡ a + b → times n x ≡ times a x +φ times b x
sum_times a b x e =
    ap (λ (n : ℕ). times n x) e
    ∙ ap (λ (c : Golden). c *φ x) (of_addφ (pos a) (pos b))
    ∙ +φ-*φ (whole (pos a)) (whole (pos b)) x

-- what is at least 0 some times is at least 0
divide : (n : ℕ) (x : Golden) → 0 < n → NonNeg (times n x) → NonNeg x
divide zero x l h = absurd (omega arith)
divide (suc n) x l h = divide_nonneg n x h

-- what is 0 some times is 0
divide_zero : (n : ℕ) (x : Golden) → 0 < n → times n x ≡ whole (pos 0) → x ≡ whole (pos 0)
divide_zero n x l =
    cancel (whole (pos n)) x (λ e. let z : n ≡ 0 = ap (λ (y : Golden). nat_abs y.u) e in absurd (omega arith))

same : (a b : Golden) → a -φ b ≡ whole (pos 0) → a ≡ b
same a b e =
    solve φ_ring (a ∷ b ∷ []) (var 0) ((var 0 ⊝ var 1) ⊕ var 1) refl
    ∙ ap (λ (y : Golden). y +φ b) e
    ∙ solve φ_ring (b ∷ []) (lit 0 ⊕ var 0) (var 0) refl

-- ---- what p·x has over f·s

-- by the gap nothing, or more than 0 and less than s
abbrev Rest : (g : ℕ) → (s d : Golden) → Type 0
Rest g s d = ((g ≡ 0) × (d ≡ whole (pos 0))) ⊎ ((g ≡ 1) × (NonNeg (negφ d) → ⊥)
    × (NonNeg (d -φ s) → ⊥))

abbrev pub over_floor : (p f : ℕ) → (s x : Golden) → Golden
over_floor p f s x = times p x -φ times f s

to_rest : (p f g : ℕ) (s x : Golden) → Share p f g s x → Rest g s (over_floor p f s x)
to_rest p f g s x (inl (a, q)) =
    inl (a, ap (λ (y : Golden). y -φ times f s) q ∙ solve φ_ring (times f s ∷ []) (var 0 ⊝ var 0) (lit 0) refl)
to_rest p f g s x (inr (a, b)) = inr (
  a,
  λ t. b.above (nonneg_by (neg_minus (times p x) (times f s)) t),
  λ t. b.below (nonneg_by (minus_both (times p x) (times f s) s) t),
)

of_rest : (p f g : ℕ) (s x : Golden) → Rest g s (over_floor p f s x) → Share p f g s x
of_rest p f g s x (inl (a, q)) = inl (a, same (times p x) (times f s) q)
of_rest p f g s x (inr (a, b, c)) = inr (
  a,
  record {
    above = λ t. b (nonneg_by (sym (neg_minus (times p x) (times f s))) t);
    below = λ t. c (nonneg_by (sym (minus_both (times p x) (times f s) s)) t);
  },
)

-- what is left up to f + g has the same gap
turned : (g : ℕ) (s d : Golden) → Rest g s d → Rest g s (times g s -φ d)
turned g s d (inl (a, q)) =
    inl (a, (λ i. times (a i) s -φ q i) ∙ solve φ_ring (s ∷ []) (lit 0 ⊗ var 0 ⊝ lit 0) (lit 0) refl)
turned g s d (inr (a, b, c)) = inr (
  a,
  λ t. c (nonneg_by
      (ap (λ (n : ℕ). negφ (times n s -φ d)) a
      ∙ solve φ_ring (s ∷ d ∷ []) (⊖ (lit 1 ⊗ var 0 ⊝ var 1)) (var 1 ⊝ var 0) refl) t),
  λ t. b (nonneg_by
      (ap (λ (n : ℕ). times n s -φ d -φ s) a
      ∙ solve φ_ring (s ∷ d ∷ []) (lit 1 ⊗ var 0 ⊝ var 1 ⊝ var 0) (⊖ (var 1)) refl) t),
)

rest_nonneg : (g : ℕ) (s d : Golden) → Rest g s d → NonNeg d
rest_nonneg g s d (inl (a, q)) = nonneg_by (sym q) (whole_nonneg 0)
rest_nonneg g s d (inr (a, b, c)) = ⊎_elim (λ h. h) (λ h. absurd (b h)) (either d)

-- ---- one share

module _ (p f g : ℕ) (s x : Golden) (w : Share p f g s x) where
  abbrev d : Golden
  d = over_floor p f s x

  pub share_gap : g ≤ 1
  share_gap = ⊎_elim (λ a. omega (arith, a.0)) (λ a. omega (arith, a.0)) w

  -- at least f parts, and at most f + g
  pub share_low : NonNeg (times p x -φ times f s)
  share_low = rest_nonneg g s d (to_rest p f g s x w)

  pub share_high : NonNeg (times (f + g) s -φ times p x)
  share_high = nonneg_by
      (solve φ_ring (times p x ∷ times f s ∷ times g s ∷ []) (var 2 ⊝ (var 0 ⊝ var 1))
      (var 1 ⊕ var 2 ⊝ var 0) refl
      ∙ ap (λ (y : Golden). y -φ times p x) (sym (sum_times f g s refl)))
      (rest_nonneg g s (times g s -φ d) (turned g s d (to_rest p f g s x w)))

  module _ (n : NonNeg s) where
    pub share_nonneg : 0 < p → NonNeg x
    share_nonneg l = divide p x l (nonneg_by
        (solve φ_ring (times p x ∷ times f s ∷ []) ((var 0 ⊝ var 1) ⊕ var 1) (var 0) refl)
        (add_nonneg _ _ share_low (times_nonneg f s n)))

    -- above 0, unless it has no part at all
    pub share_positive : (NonNeg (negφ s) → ⊥) → 0 < f + g → NonNeg (negφ x) → ⊥
    share_positive m l t = ⊎_elim exact (λ a. a.1.above low) w
      where
        low : NonNeg (times f s -φ times p x)
        low = nonneg_by
            (solve φ_ring (whole (pos p) ∷ x ∷ times f s ∷ []) (var 2 ⊕ var 0 ⊗ ⊖ (var 1))
            (var 2 ⊝ var 0 ⊗ var 1) refl)
            (add_nonneg _ _ (times_nonneg f s n) (times_nonneg p _ t))

        exact : (g ≡ 0) × (times p x ≡ times f s) → ⊥
        exact (a, q) = let k = f - 1 in m (nonneg_by
            (ap (λ (y : Golden). times k s -φ y) (q ∙ sum_times 1 k s (omega arith))
            ∙ solve φ_ring (times k s ∷ s ∷ []) (var 0 ⊝ (lit 1 ⊗ var 1 ⊕ var 0)) (⊖ (var 1)) refl)
            (nonneg_by
            (solve φ_ring (whole (pos p) ∷ x ∷ times k s ∷ []) (var 2 ⊕ var 0 ⊗ ⊖ (var 1))
            (var 2 ⊝ var 0 ⊗ var 1) refl)
            (add_nonneg _ _ (times_nonneg k s n) (times_nonneg p _ t))))

    -- 0 has no part and no gap
    pub zero_share : (NonNeg (negφ s) → ⊥) → x ≡ whole (pos 0) → (f ≡ 0) × (g ≡ 0)
    zero_share m z = ⊎_elim
        (λ l. (omega arith, omega arith))
        (λ l. absurd (share_positive m l (nonneg_by
        (solve φ_ring [] (lit 0) (⊖ (lit 0)) refl ∙ ap negφ (sym z)) (whole_nonneg 0))))
        (le_or_lt (f + g) 0)

    -- s is not exceeded, so f is not more than all parts
    pub share_floor : (NonNeg (negφ s) → ⊥) → NonNeg (s -φ x) → f ≤ p
    share_floor m u = ⊎_elim (λ l. l) (λ l. absurd (m (none l))) (le_or_lt f p)
      where
        none : p < f → NonNeg (negφ s)
        none l = let k = f - p - 1 in nonneg_by
            (ap (λ (y : Golden). times k s +φ (times p x -φ y) +φ times p (s -φ x))
            (sum_times p (1 + k) s (omega arith) ∙ ap (λ (y : Golden). times p s +φ y) (sum_times 1 k s refl))
            ∙ solve φ_ring (whole (pos p) ∷ s ∷ x ∷ times k s ∷ [])
            (var 3 ⊕ (var 0 ⊗ var 2 ⊝ (var 0 ⊗ var 1 ⊕ (lit 1 ⊗ var 1 ⊕ var 3))) ⊕ var 0 ⊗
            (var 1 ⊝ var 2))
            (⊖ (var 1)) refl)
            (add_nonneg _ _ (add_nonneg _ _ (times_nonneg k s n) share_low) (times_nonneg p _ u))

  pub share_zero : 0 < p → f ≡ 0 → g ≡ 0 → x ≡ whole (pos 0)
  share_zero l a b = ⊎_elim
      (λ q. divide_zero p x l (q.1 ∙ ap (λ (n : ℕ). times n s) a
      ∙ solve φ_ring (s ∷ []) (lit 0 ⊗ var 0) (lit 0) refl))
      (λ q. absurd (omega (arith, q.0)))
      w

-- of a determinant and a sum m + 1 times as large
pub share_unscaled : (m p f g : ℕ) (s x : Golden) → Share p f g (times (suc m) s) (times (suc m) x)
    → Share p f g s x
share_unscaled m p f g s x (inl (a, q)) =
    let M = whole (pos (suc m)) in
    let P = whole (pos p) in
    let F = whole (pos f) in
    inl (
      a,
      same (times p x) (times f s) (divide_zero (suc m) _ (omega arith) (
          solve φ_ring (M ∷ P ∷ F ∷ s ∷ x ∷ [])
          (var 0 ⊗ (var 1 ⊗ var 4 ⊝ var 2 ⊗ var 3))
          (var 1 ⊗ (var 0 ⊗ var 4) ⊝ var 2 ⊗ (var 0 ⊗ var 3)) refl
          ∙ ap (λ (y : Golden). y -φ F *φ (M *φ s)) q
          ∙ solve φ_ring (times f (times (suc m) s) ∷ []) (var 0 ⊝ var 0) (lit 0) refl)),
    )
share_unscaled m p f g s x (inr (a, b)) =
    let M = whole (pos (suc m)) in
    let P = whole (pos p) in
    let F = whole (pos f) in
    inr (
      a,
      record {
        above = λ t. b.above (nonneg_by
            (solve φ_ring (M ∷ F ∷ P ∷ s ∷ x ∷ [])
            (var 0 ⊗ (var 1 ⊗ var 3 ⊝ var 2 ⊗ var 4))
            (var 1 ⊗ (var 0 ⊗ var 3) ⊝ var 2 ⊗ (var 0 ⊗ var 4)) refl)
            (times_nonneg (suc m) _ t));
        below = λ t. b.below (nonneg_by
            (solve φ_ring (M ∷ F ∷ P ∷ s ∷ x ∷ [])
            (var 0 ⊗ (var 2 ⊗ var 4 ⊝ (var 1 ⊗ var 3 ⊕ var 3)))
            (var 2 ⊗ (var 0 ⊗ var 4) ⊝ (var 1 ⊗ (var 0 ⊗ var 3) ⊕ var 0 ⊗ var 3)) refl)
            (times_nonneg (suc m) _ t));
      },
    )

-- ---- the share in a child: an edge has p parts, and one of the child h

module _ (h p f g : ℕ) (s x : Golden) (e : p ≡ h + h) (w : Share p f g s x) where
  px : times p x ≡ times h x +φ times h x
  px = sum_times h h x e

  pub kept : Share h f g s (twice x)
  kept = of_rest h f g s (twice x) (subst (Rest g s)
      (ap (λ (y : Golden). y -φ times f s) px
      ∙ solve φ_ring (whole (pos h) ∷ x ∷ times f s ∷ [])
      ((var 0 ⊗ var 1 ⊕ var 0 ⊗ var 1) ⊝ var 2)
      (var 0 ⊗ (var 1 ⊕ var 1) ⊝ var 2) refl)
      (to_rest p f g s x w))

  pub upper : h ≤ f → Share h (f - h) g s (twice x -φ s)
  upper l =
      let k = f - h in
      of_rest h k g s (twice x -φ s) (subst (Rest g s)
      ((λ i. px i -φ sum_times h k s {n = f} (omega arith) i)
      ∙ solve φ_ring (whole (pos h) ∷ x ∷ s ∷ times k s ∷ [])
      ((var 0 ⊗ var 1 ⊕ var 0 ⊗ var 1) ⊝ (var 0 ⊗ var 2 ⊕ var 3))
      (var 0 ⊗ (var 1 ⊕ var 1 ⊝ var 2) ⊝ var 3) refl)
      (to_rest p f g s x w))

  pub lower : f + g ≤ h → Share h (h - (f + g)) g s (s -φ twice x)
  lower l =
      let k = h - (f + g) in
      let hs : times h s ≡ times f s +φ times g s +φ times k s =
      sum_times (f + g) k s {n = h} (omega arith) ∙ ap (λ (y : Golden). y +φ times k s) (sum_times f g s refl) in
      of_rest h k g s (s -φ twice x) (subst (Rest g s)
      (ap (λ (y : Golden). times g s -φ (y -φ times f s)) px
      ∙ solve φ_ring (times h x ∷ times f s ∷ times g s ∷ times k s ∷ [])
      (var 2 ⊝ (var 0 ⊕ var 0 ⊝ var 1))
      ((var 1 ⊕ var 2 ⊕ var 3) ⊝ (var 0 ⊕ var 0) ⊝ var 3) refl
      ∙ ap (λ (y : Golden). y -φ (times h x +φ times h x) -φ times k s) (sym hs)
      ∙ solve φ_ring (whole (pos h) ∷ x ∷ s ∷ times k s ∷ [])
      (var 0 ⊗ var 2 ⊝ (var 0 ⊗ var 1 ⊕ var 0 ⊗ var 1) ⊝ var 3)
      (var 0 ⊗ (var 2 ⊝ (var 1 ⊕ var 1)) ⊝ var 3) refl)
      (turned g s (over_floor p f s x) (to_rest p f g s x w)))

  -- ---- on which side of half

  module _ (n : NonNeg s) where
    pub half : 0 < h → h ≤ f → NonNeg (twice x -φ s)
    half z l = share_nonneg h (f - h) g s (twice x -φ s) (upper l) n z

    pub not_over : 0 < h → f + g ≤ h → NonNeg (s -φ twice x)
    not_over z l = share_nonneg h (h - (f + g)) g s (s -φ twice x) (lower l) n z

    module _ (m : NonNeg (negφ s) → ⊥) where
      pub over : h < f + g → Under s (twice x)
      over l t =
          let b = share_gap p f g s x w in
          share_positive h (f - h) g s (twice x -φ s) (upper (omega arith)) n m (omega arith)
          (nonneg_by (sym (neg_minus (twice x) s)) t)

      pub under_half : f < h → Under (twice x) s
      under_half l t =
          let b = share_gap p f g s x w in
          share_positive h (h - (f + g)) g s (s -φ twice x) (lower (omega arith)) n m (omega arith)
          (nonneg_by (sym (neg_minus s (twice x))) t)

-- ---- three shares of one sum

module _ (p a b c k : ℕ) (x y z : Golden) where
  abbrev pub sum : Golden
  sum = x +φ y +φ z

  three_times : times (a + b + c) sum ≡ times a sum +φ times b sum +φ times c sum
  three_times =
      sum_times (a + b) c sum refl ∙ ap (λ (t : Golden). t +φ times c sum) (sum_times a b sum refl)

  -- what they have over a, b and c parts, and what they have left to as many
  pub over_three :
      a + b + c ≡ p + k
      → over_floor p a sum x +φ over_floor p b sum y +φ over_floor p c sum z ≡ negφ (times k sum)
  over_three e =
      solve φ_ring (whole (pos p) ∷ x ∷ y ∷ z ∷ times a sum ∷ times b sum ∷ times c sum ∷ [])
      ((var 0 ⊗ var 1 ⊝ var 4) ⊕ (var 0 ⊗ var 2 ⊝ var 5) ⊕ (var 0 ⊗ var 3 ⊝ var 6))
      (var 0 ⊗ (var 1 ⊕ var 2 ⊕ var 3) ⊝ (var 4 ⊕ var 5 ⊕ var 6)) refl
      ∙ ap (λ (t : Golden). times p sum -φ t) (sym three_times ∙ sum_times p k sum e)
      ∙ solve φ_ring (times p sum ∷ times k sum ∷ []) (var 0 ⊝ (var 0 ⊕ var 1)) (⊖ (var 1)) refl

  pub left_three :
      p ≡ a + b + c + k
      → (times a sum -φ times p x) +φ (times b sum -φ times p y) +φ (times c sum -φ times p z)
      ≡ negφ (times k sum)
  left_three e =
      solve φ_ring (whole (pos p) ∷ x ∷ y ∷ z ∷ times a sum ∷ times b sum ∷ times c sum ∷ [])
      ((var 4 ⊝ var 0 ⊗ var 1) ⊕ (var 5 ⊝ var 0 ⊗ var 2) ⊕ (var 6 ⊝ var 0 ⊗ var 3))
      ((var 4 ⊕ var 5 ⊕ var 6) ⊝ var 0 ⊗ (var 1 ⊕ var 2 ⊕ var 3)) refl
      ∙ (λ t. sym three_times t -φ sum_times (a + b + c) k sum e t)
      ∙ solve φ_ring (times (a + b + c) sum ∷ times k sum ∷ []) (var 0 ⊝ (var 0 ⊕ var 1)) (⊖ (var 1)) refl

-- three that are together -k·s: if two are at least 0, the first is at most 0
module _ (k : ℕ) (s u v w : Golden) (n : NonNeg s) (q : NonNeg v) (r : NonNeg w) where
  pub first_low : u +φ v +φ w ≡ negφ (times k s) → NonNeg (negφ u)
  first_low e = nonneg_by
      (solve φ_ring (times k s ∷ u ∷ v ∷ w ∷ [])
      (var 0 ⊕ var 2 ⊕ var 3)
      (var 0 ⊕ (var 1 ⊕ var 2 ⊕ var 3) ⊝ var 1) refl
      ∙ ap (λ (t : Golden). times k s +φ t -φ u) e
      ∙ solve φ_ring (times k s ∷ u ∷ []) (var 0 ⊕ ⊖ (var 0) ⊝ var 1) (⊖ (var 1)) refl)
      (add_nonneg _ _ (add_nonneg _ _ (times_nonneg k s n) q) r)

  -- and if all three are, not together -s - k·s
  pub sum_low : NonNeg u → u +φ v +φ w ≡ negφ (times (1 + k) s) → NonNeg (negφ s)
  sum_low p e = nonneg_by
      (ap (λ (t : Golden). times k s +φ t) (e ∙ ap negφ (sum_times 1 k s refl))
      ∙ solve φ_ring (times k s ∷ s ∷ []) (var 0 ⊕ ⊖ (lit 1 ⊗ var 1 ⊕ var 0)) (⊖ (var 1)) refl)
      (add_nonneg _ _ (times_nonneg k s n) (add_nonneg _ _ (add_nonneg _ _ p q) r))
