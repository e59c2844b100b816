-- Two different sides that both hold a direction of whole numbers other than zero lie across an edge of each other, and the direction lies on
-- that edge. With w the difference of their corner sums, κ·(g · w) is the sum of (w · Ai)·Di over the corners of the first, and for the second
-- the negated sum: both are at least 0, so both are 0, and Di is 0 wherever w · Ai is at least 1. Assumes nothing.
use mathlib.Core.Path.{◌≡◌, refl, sym, ◌∙◌, ap}
use mathlib.Core.Logic.{⊎_elim}
use mathlib.Core.List.{List, [], ◌∷◌}
use Prim.Native.Nat.{ℕ, suc, ◌+◌, ◌-◌, ◌*◌, ◌<◌}
use native.Mathlib.Omega.{arith}
use lib.IntN.{ℤ, pos, negsuc, +ℤ_idl}
use Rattle.golden.proofs.GoldenOrder.{nonneg_by, add_nonneg, antisym}
use Rattle.golden.proofs.GoldenProduct.{*φ-nonneg}
use Rattle.golden.proofs.GoldenRing.{φ_path, φ_ring, reφ, zero_addφ}
use Rattle.golden.proofs.IntegerOrder.{pp, np}
use Rattle.golden.proofs.Polynomials.{var, lit, ◌⊕◌, ◌⊝◌, ◌⊗◌}
use Rattle.golden.proofs.RingSolver.{solve, reify, done}
use Rattle.golden.proofs.Signs.{of_squares}
use Rattle.golden.specs.Numbers.{golden, whole, ◌+φ◌, negφ, ◌*φ◌}
use Rattle.golden.specs.Order.{NonNeg}
use Rattle.golden.specs.declared.Golden.{Golden}
use Rattle.net.proofs.Table.{Test, Holds, sound, sides, threes, some, same, most, no, ◌and◌, ◌or◌, three}
use Rattle.net.specs.Means.Seams.{seam_side}
use Rattle.net.specs.Sides.{OneToThree, IsSide, corner_vertex}
use Rattle.filing.specs.Holding.{◌-φ◌, along, cross, dot, AllNonNeg}
use Rattle.filing.specs.Means.Sides.{side_dets}
use Rattle.filing.specs.declared.Coordinates.{Coordinates}
use Rattle.filing.specs.declared.Direction.{Direction}
use Rattle.filing.proofs.GoldenTests.{sameφ, φ_same}
use Rattle.filing.proofs.SideUnits.{◌-ᵛ◌, corner_at, value, side_dets_lem}
use Rattle.filing.proofs.Cover.{normal}
use Rattle.filing.proofs.NoVertex.{0φ, zero_direction, two_planes}

pub one : OneToThree 1
one = (omega arith, omega arith)

pub two : OneToThree 2
two = (omega arith, omega arith)

pub last : OneToThree 3
last = (omega arith, omega arith)

edge : (i : ℕ) → i < 3 → OneToThree (suc i)
edge i l = (omega arith, omega arith)

-- ---- the table

-- w · Ai
abbrev share : (s t i : ℕ) → Golden
share s t i = dot (normal s -ᵛ normal t) (corner_at s i)

-- a + bφ with a and b at least 0; and with a at least 1
abbrev plain : Golden → Test
plain c = same (np c.u) 0 and same (np c.v) 0

abbrev big : Golden → Test
big c = most 1 (pp c.u) and plain c

-- every share is plain, and one is big: either at the edge between, or there is another
abbrev far : (s t k : ℕ) → Test
far s t k = big (share s t (suc k)) and (same t (seam_side s (suc k)) or some 3 (λ j. no (same j k) and big (share s t (suc j))))

abbrev pair : (s t : ℕ) → Test
pair s t = same s t or (threes (λ i. plain (share s t i)) and some 3 (far s t))

pairs : (s : ℕ) → IsSide s → (t : ℕ) → IsSide t → Holds (pair s t)
unfolding seam_side corner_vertex ◌+φ◌ negφ ◌*φ◌
pairs = sound (sides λ s. sides λ t. pair s t) refl

abbrev κ : Golden
κ = golden (pos 2) (pos 2)

abbrev volume : ℕ → Golden
volume s = dot (corner_at s 1) (cross (corner_at s 2) (corner_at s 3))

volumes : (s : ℕ) → IsSide s → volume s ≡ κ
unfolding corner_vertex ◌+φ◌ negφ ◌*φ◌
volumes s h = φ_same (volume s) κ (sound (sides λ s. sameφ (volume s) κ) refl s h)

-- ---- plain and big numbers

natural : (a : ℤ) → np a ≡ 0 → a ≡ pos (pp a)
natural (pos a) e = refl
natural (negsuc a) e = absurd (omega arith)

naturals : (a b : ℕ) → NonNeg (golden (pos a) (pos b))
naturals a b = of_squares (pos (2 * a + b)) (pos b) tt

plain_nonneg : (c : Golden) → Holds (plain c) → NonNeg c
plain_nonneg c h = nonneg_by (φ_path (sym (natural c.u h.0)) (sym (natural c.v h.1))) (naturals (pp c.u) (pp c.v))

-- a big number is 1 and a plain one
abbrev Big : Golden → Type 0
Big c = (r : Golden) × NonNeg r × (c ≡ whole (pos 1) +φ r)

big_is : (c : Golden) → Holds (big c) → Big c
unfolding ◌+φ◌
big_is c h =
    let a = pp c.u - 1 in
    let e : pp c.u ≡ 1 + a = omega (arith, h.0) in (
      golden (pos a) c.v,
      nonneg_by (ap (λ (z : ℤ). golden (pos a) z) (sym (natural c.v h.1.1))) (naturals a (pp c.v)),
      φ_path (natural c.u h.1.0 ∙ ap pos e) (sym (+ℤ_idl c.v)),
    )

-- ---- the identity, for any three corners

module _ (g w a b c : Coordinates) where
  abbrev env : List Golden
  env = g.x ∷ g.y ∷ g.z ∷ a.x ∷ a.y ∷ a.z ∷ b.x ∷ b.y ∷ b.z ∷ c.x ∷ c.y ∷ c.z ∷ w.x ∷ w.y ∷ w.z ∷ []

  by_corners : dot a (cross b c) *φ dot g w ≡ dot w a *φ dot g (cross b c) +φ dot w b *φ dot g (cross c a) +φ dot w c *φ dot g (cross a b)
  by_corners =
      reify φ_ring env
      (λ σ x. simp (x 0, x 1, x 2, x 3, x 4, x 5, x 6, x 7, x 8, x 9, x 10, x 11, x 12, x 13, x 14, reφ) (done φ_ring σ _ _ refl))

-- a sum of numbers that are at least 0 is 0 only if each is
pub first_zero : (x r : Golden) → NonNeg x → NonNeg r → x +φ r ≡ 0φ → x ≡ 0φ
first_zero x r p q e = let z = antisym x p (nonneg_by minus q) in φ_path z.0 z.1
  where
    minus : r ≡ negφ x
    minus = solve φ_ring (x ∷ r ∷ []) (var 1) ((var 0 ⊕ var 1) ⊝ var 0) refl ∙ ap (λ (y : Golden). y -φ x) e ∙ zero_addφ (negφ x)

-- c·x with c at least 1, beside more that is at least 0
big_zero : (c x r : Golden) → Big c → NonNeg x → NonNeg r → c *φ x +φ r ≡ 0φ → x ≡ 0φ
big_zero c x r (q, n, e) p s z =
    first_zero x (q *φ x +φ r) p (add_nonneg (q *φ x) r (*φ-nonneg q x n p) s)
    (solve φ_ring (q ∷ x ∷ r ∷ []) (var 1 ⊕ (var 0 ⊗ var 1 ⊕ var 2)) ((lit 1 ⊕ var 0) ⊗ var 1 ⊕ var 2) refl ∙ ap (λ (c : Golden). c *φ x +φ r) (sym e) ∙ z)

-- c₁x₁ + c₂x₂ + c₃x₃ = 0, all at least 0
module _ (c x : ℕ → Golden) (hc : (i : ℕ) → OneToThree i → NonNeg (c i)) (hx : (i : ℕ) → OneToThree i → NonNeg (x i))
    (z : c 1 *φ x 1 +φ c 2 *φ x 2 +φ c 3 *φ x 3 ≡ 0φ) where
  abbrev term : ℕ → Golden
  term i = c i *φ x i

  term_nonneg : (i : ℕ) → OneToThree i → NonNeg (term i)
  term_nonneg i l = *φ-nonneg (c i) (x i) (hc i l) (hx i l)

  alone : (i j k : ℕ) → OneToThree i → OneToThree j → OneToThree k → term i +φ (term j +φ term k) ≡ 0φ → Big (c i) → x i ≡ 0φ
  alone i j k li lj lk e b = big_zero (c i) (x i) (term j +φ term k) b (hx i li) (add_nonneg (term j) (term k) (term_nonneg j lj) (term_nonneg k lk)) e

  zero_at : (i : ℕ) → OneToThree i → Big (c i) → x i ≡ 0φ
  zero_at = three (λ i. Big (c i) → x i ≡ 0φ)
      (alone 1 2 3 one two last (solve φ_ring (term 1 ∷ term 2 ∷ term 3 ∷ []) (var 0 ⊕ (var 1 ⊕ var 2)) (var 0 ⊕ var 1 ⊕ var 2) refl ∙ z))
      (alone 2 1 3 two one last (solve φ_ring (term 1 ∷ term 2 ∷ term 3 ∷ []) (var 1 ⊕ (var 0 ⊕ var 2)) (var 0 ⊕ var 1 ⊕ var 2) refl ∙ z))
      (alone 3 1 2 last one two (solve φ_ring (term 1 ∷ term 2 ∷ term 3 ∷ []) (var 2 ⊕ (var 0 ⊕ var 1)) (var 0 ⊕ var 1 ⊕ var 2) refl ∙ z))

-- ---- the law

abbrev pub SideHolds : Direction → ℕ → Type 0
SideHolds d s = AllNonNeg (side_dets d s)

-- where a direction lies on the edge k between the sides s and t
abbrev pub Between : Direction → (s t : ℕ) → Type 0
Between d s t = (k : ℕ) × OneToThree k × (t ≡ seam_side s k) × (value d s k ≡ 0φ)

module _ (d : Direction) (s : ℕ) (hs : IsSide s) (holds : SideHolds d s) where
  pub at_edges : (k : ℕ) → OneToThree k → NonNeg (value d s k)
  at_edges = let h : AllNonNeg (Rattle.filing.specs.Holding.three (value d s 1) (value d s 2) (value d s 3)) = rw (side_dets_lem d s hs) at holds in
      three (λ k. NonNeg (value d s k)) h.n1 h.n2 h.n3

  -- κ·(g · w) is the sum, so at least 0
  module _ (t : ℕ) (ht : IsSide t) (other : s ≡ t → ⊥) where
    abbrev sh : ℕ → Golden
    sh i = share s t i

    abbrev parted : Golden
    parted = sh 1 *φ value d s 1 +φ sh 2 *φ value d s 2 +φ sh 3 *φ value d s 3

    row : Holds (threes (λ i. plain (share s t i)) and some 3 (far s t))
    row = ⊎_elim (λ e. absurd (other e)) (λ r. r) (pairs s hs t ht)

    sh_nonneg : (i : ℕ) → OneToThree i → NonNeg (sh i)
    sh_nonneg i l = plain_nonneg (sh i) (row.0 i l)

    sum_is : κ *φ dot (along d) (normal s -ᵛ normal t) ≡ parted
    sum_is =
        ap (λ (k : Golden). k *φ dot (along d) (normal s -ᵛ normal t)) (sym (volumes s hs))
        ∙ by_corners (along d) (normal s -ᵛ normal t) (corner_at s 1) (corner_at s 2) (corner_at s 3)

    parted_nonneg : NonNeg parted
    parted_nonneg =
        let m : (i : ℕ) → OneToThree i → NonNeg (sh i *φ value d s i) = λ i l. *φ-nonneg (sh i) (value d s i) (sh_nonneg i l) (at_edges i l) in
        add_nonneg (sh 1 *φ value d s 1 +φ sh 2 *φ value d s 2) (sh 3 *φ value d s 3)
        (add_nonneg (sh 1 *φ value d s 1) (sh 2 *φ value d s 2) (m 1 one) (m 2 two)) (m 3 last)

    -- where the sum is 0: the edge between, or the direction is zero
    from_row : parted ≡ 0φ → (d ≡ zero_direction → ⊥) → Between d s t
    from_row z n =
        let r = row.1 in
        let at : (i : ℕ) → i < 3 → Holds (big (sh (suc i))) → value d s (suc i) ≡ 0φ = λ i l b. zero_at sh (value d s) sh_nonneg at_edges z (suc i) (edge i l) (big_is (sh (suc i)) b) in
        let e : value d s (suc r.0) ≡ 0φ = at r.0 r.1 r.2.0 in
        ⊎_elim
        (λ b. (suc r.0, edge r.0 r.1, b, e))
        (λ q. absurd (n (two_planes d s hs (suc q.0) (edge q.0 q.1) (suc r.0) (edge r.0 r.1) (λ same. q.2.0 (omega (arith, same))) (at q.0 q.1 q.2.1) e)))
        r.2.1

opposite : (g a b : Coordinates) → κ *φ dot g (a -ᵛ b) +φ κ *φ dot g (b -ᵛ a) ≡ 0φ
opposite g a b = solve φ_ring (κ ∷ g.x ∷ g.y ∷ g.z ∷ a.x ∷ a.y ∷ a.z ∷ b.x ∷ b.y ∷ b.z ∷ [])
    (var 0 ⊗ (var 1 ⊗ (var 4 ⊝ var 7) ⊕ var 2 ⊗ (var 5 ⊝ var 8) ⊕ var 3 ⊗ (var 6 ⊝ var 9)) ⊕ var 0 ⊗ (var 1 ⊗ (var 7 ⊝ var 4) ⊕ var 2 ⊗ (var 8 ⊝ var 5) ⊕ var 3 ⊗ (var 9 ⊝ var 6))) (lit 0) refl

pub two_sides : (d : Direction) → (d ≡ zero_direction → ⊥) → (s : ℕ) → IsSide s → SideHolds d s → (t : ℕ) → IsSide t → SideHolds d t → (s ≡ t → ⊥) → Between d s t
two_sides d nonzero s hs p t ht q n =
    let m : t ≡ s → ⊥ = λ e. n (sym e) in
    let z : parted d s hs p t ht n +φ parted d t ht q s hs m ≡ 0φ =
    sym (λ i. sum_is d s hs p t ht n i +φ sum_is d t ht q s hs m i) ∙ opposite (along d) (normal s) (normal t) in
    from_row d s hs p t ht n
    (first_zero (parted d s hs p t ht n) (parted d t ht q s hs m) (parted_nonneg d s hs p t ht n) (parted_nonneg d t ht q s hs m) z)
    nonzero
