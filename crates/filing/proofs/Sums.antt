-- The exact coordinates of a kept corner are doubled, those of a middle are the sum of its two ends'; each corner has twelve weights.
-- Assumes nothing.
use mathlib.Core.Path.{◌≡◌, refl, sym, ◌∙◌, ap}
use mathlib.Core.List.{List, [], ◌∷◌}
use Prim.Native.Nat.{ℕ, zero, suc, ◌+◌, ◌*◌}
use native.Mathlib.Omega.{arith}
use lib.IntN.{pos}
use lib.ListN.{length}
use Rattle.golden.specs.Numbers.{whole, ◌+φ◌, ◌*φ◌}
use Rattle.golden.specs.declared.Golden.{Golden}
use Rattle.golden.proofs.RingSolver.{reify, done}
use Rattle.golden.proofs.GoldenRing.{φ_ring, reφ, of_addφ, zero_addφ}
use Rattle.net.specs.Division.{Weights, Triangle, each, kept, middle, divide, triangle_at, unit_at, m1, m2, m3}
use Rattle.filing.specs.Coordinates.{origin, directions, ◌+ᵛ◌, times, weighted, exact}
use Rattle.filing.specs.declared.Coordinates.{Coordinates}
use Rattle.filing.proofs.Parts.{coordinates_path}

-- ((a + b)·v + (p + q)) = (a·v + p) + (b·v + q)
one_more : (a b v p q : Golden) → (a +φ b) *φ v +φ (p +φ q) ≡ (a *φ v +φ p) +φ (b *φ v +φ q)
one_more a b v p q = reify φ_ring (a ∷ b ∷ v ∷ p ∷ q ∷ []) (λ σ k. simp (k 0, k 1, k 2, k 3, k 4, reφ) (done φ_ring σ _ _ refl))

zero_left : (p : Coordinates) → p ≡ origin +ᵛ p
zero_left p = coordinates_path (sym (zero_addφ p.x)) (sym (zero_addφ p.y)) (sym (zero_addφ p.z))

-- one more place
place :
    (v : Coordinates) (a b : ℕ) (p q r : Coordinates)
    → r ≡ p +ᵛ q
    → times (whole (pos (a + b))) v +ᵛ r ≡ (times (whole (pos a)) v +ᵛ p) +ᵛ (times (whole (pos b)) v +ᵛ q)
place v a b p q r e =
    ap (λ (r : Coordinates). times (whole (pos (a + b))) v +ᵛ r) e
    ∙ coordinates_path (each_axis v.x p.x q.x) (each_axis v.y p.y q.y) (each_axis v.z p.z q.z)
  where
    each_axis : (v p q : Golden) → whole (pos (a + b)) *φ v +φ (p +φ q) ≡ (whole (pos a) *φ v +φ p) +φ (whole (pos b) *φ v +φ q)
    each_axis v p q = ap (λ (c : Golden). c *φ v +φ (p +φ q)) (of_addφ (pos a) (pos b)) ∙ one_more (whole (pos a)) (whole (pos b)) v p q

weighted_middle : (vs : List Coordinates) (p q : Weights) → length p ≡ length q → weighted vs (middle p q) ≡ weighted vs p +ᵛ weighted vs q
weighted_middle [] p q e = zero_left origin
weighted_middle (v ∷ vs) [] [] e = zero_left origin
weighted_middle (v ∷ vs) [] (b ∷ q) e = absurd (omega arith)
weighted_middle (v ∷ vs) (a ∷ p) [] e = absurd (omega arith)
weighted_middle (v ∷ vs) (a ∷ p) (b ∷ q) e =
    let l : length p ≡ length q = omega arith in
    place v a b (weighted vs p) (weighted vs q) (weighted vs (middle p q)) (weighted_middle vs p q l)

kept_is : (p : Weights) → kept p ≡ middle p p
kept_is [] = refl
kept_is (a ∷ p) = let e : 2 * a ≡ a + a = omega arith in λ i. e i ∷ kept_is p i

pub exact_middle : (p q : Weights) → length p ≡ length q → exact (middle p q) ≡ exact p +ᵛ exact q
unfolding exact
exact_middle p q e = weighted_middle directions p q e

pub exact_kept : (p : Weights) → exact (kept p) ≡ exact p +ᵛ exact p
exact_kept p = ap exact (kept_is p) ∙ exact_middle p p refl

-- ---- the corners have twelve weights

pub record Twelve (t : Triangle) : Type 0 where
  pub l1 : length t.a1 ≡ 12
  pub l2 : length t.a2 ≡ 12
  pub l3 : length t.a3 ≡ 12

-- the middles of the edges
module _ (t : Triangle) (h : Twelve t) where
  pub exact_m1 : exact (m1 t) ≡ exact t.a2 +ᵛ exact t.a3
  exact_m1 = exact_middle t.a2 t.a3 (h.l2 ∙ sym h.l3)

  pub exact_m2 : exact (m2 t) ≡ exact t.a3 +ᵛ exact t.a1
  exact_m2 = exact_middle t.a3 t.a1 (h.l3 ∙ sym h.l1)

  pub exact_m3 : exact (m3 t) ≡ exact t.a1 +ᵛ exact t.a2
  exact_m3 = exact_middle t.a1 t.a2 (h.l1 ∙ sym h.l2)

each_length : (f : ℕ → ℕ) (vs : List ℕ) → length (each f vs) ≡ length vs
each_length f [] = refl
each_length f (v ∷ vs) = ap suc (each_length f vs)

middle_length : (n : ℕ) (p q : Weights) → length p ≡ n → length q ≡ n → length (middle p q) ≡ n
middle_length n [] [] e f = e
middle_length n [] (y ∷ q) e f = absurd (omega arith)
middle_length n (x ∷ p) [] e f = absurd (omega arith)
middle_length zero (x ∷ p) (y ∷ q) e f = absurd (omega arith)
middle_length (suc n) (x ∷ p) (y ∷ q) e f =
    let g : length p ≡ n = omega arith in
    let h : length q ≡ n = omega arith in
    ap suc (middle_length n p q g h)

divide_twelve : (k : ℕ) (t : Triangle) → Twelve t → Twelve (divide k t)
divide_twelve k t h = go k
  where
    m1 : length (middle t.a2 t.a3) ≡ 12
    m1 = middle_length 12 t.a2 t.a3 h.l2 h.l3

    m2 : length (middle t.a3 t.a1) ≡ 12
    m2 = middle_length 12 t.a3 t.a1 h.l3 h.l1

    m3 : length (middle t.a1 t.a2) ≡ 12
    m3 = middle_length 12 t.a1 t.a2 h.l1 h.l2

    kept_length : (p : Weights) → length p ≡ 12 → length (kept p) ≡ 12
    kept_length p e = each_length (λ x. 2 * x) p ∙ e

    go : (k : ℕ) → Twelve (divide k t)
    go zero = record { l1 = m1; l2 = m2; l3 = m3 }
    go (suc zero) = record { l1 = kept_length t.a1 h.l1; l2 = m3; l3 = m2 }
    go (suc (suc zero)) = record { l1 = m3; l2 = kept_length t.a2 h.l2; l3 = m1 }
    go (suc (suc (suc k))) = record { l1 = m2; l2 = m1; l3 = kept_length t.a3 h.l3 }

pub all_twelve : (s : ℕ) (ds : List ℕ) → Twelve (triangle_at s ds)
unfolding triangle_at unit_at
all_twelve s [] = record { l1 = refl; l2 = refl; l3 = refl }
all_twelve s (d ∷ ds) = divide_twelve d (triangle_at s ds) (all_twelve s ds)
