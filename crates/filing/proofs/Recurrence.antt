-- A child's determinants from its parent's, and every triangle's from its side's. Assumes nothing.
use mathlib.Core.Path.{◌≡◌, refl, sym, ◌∙◌, ap}
use mathlib.Core.List.{List, [], ◌∷◌, ◌++◌}
use Prim.Native.Nat.{ℕ, zero, suc, ◌/◌, ◌%◌, ◌^◌}
use native.Mathlib.Nat.{div-one, div-div-eq-div-mul, pow-succ'}
use Rattle.golden.specs.declared.Golden.{Golden}
use Rattle.golden.proofs.RingSolver.{reify, done}
use Rattle.golden.proofs.GoldenRing.{φ_ring, reφ}
use Rattle.net.specs.Division.{Triangle, divide, triangle_at}
use Rattle.net.specs.Means.Paths.{digits_of}
use Rattle.filing.specs.Coordinates.{◌+ᵛ◌, exact}
use Rattle.filing.specs.Holding.{determinant, replaced, determinants}
use Rattle.filing.specs.Means.Descent.{child_dets}
use Rattle.filing.specs.declared.Coordinates.{Coordinates}
use Rattle.filing.specs.declared.Determinants.{Determinants}
use Rattle.filing.proofs.Sums.{exact_kept, Twelve, all_twelve, exact_m1, exact_m2, exact_m3}
use Rattle.filing.proofs.Parts.{dets_path}

abbrev Same : Determinants → Determinants → Type 0
Same D E = (D.d1 ≡ E.d1) × (D.d2 ≡ E.d2) × (D.d3 ≡ E.d3)

same : (D E : Determinants) → Same D E → D ≡ E
same D E e = dets_path e.0 e.1 e.2

-- a determinant is linear in each of its places
module _ (g a b c : Coordinates) where
  abbrev env : List Golden
  env = g.x ∷ g.y ∷ g.z ∷ a.x ∷ a.y ∷ a.z ∷ b.x ∷ b.y ∷ b.z ∷ c.x ∷ c.y ∷ c.z ∷ []

  zeroth : replaced g (b +ᵛ c) (c +ᵛ a) (a +ᵛ b) ≡ child_dets 0 (replaced g a b c)
  unfolding replaced determinant
  zeroth = same _ _ (reify φ_ring env (λ σ k. simp (k 0, k 1, k 2, k 3, k 4, k 5, k 6, k 7, k 8, k 9, k 10, k 11, reφ) (done φ_ring σ _ _ refl, done φ_ring σ _ _ refl, done φ_ring σ _ _ refl)))

  first : replaced g (a +ᵛ a) (a +ᵛ b) (c +ᵛ a) ≡ child_dets 1 (replaced g a b c)
  unfolding replaced determinant
  first = same _ _ (reify φ_ring env (λ σ k. simp (k 0, k 1, k 2, k 3, k 4, k 5, k 6, k 7, k 8, k 9, k 10, k 11, reφ) (done φ_ring σ _ _ refl, done φ_ring σ _ _ refl, done φ_ring σ _ _ refl)))

  second : replaced g (a +ᵛ b) (b +ᵛ b) (b +ᵛ c) ≡ child_dets 2 (replaced g a b c)
  unfolding replaced determinant
  second = same _ _ (reify φ_ring env (λ σ k. simp (k 0, k 1, k 2, k 3, k 4, k 5, k 6, k 7, k 8, k 9, k 10, k 11, reφ) (done φ_ring σ _ _ refl, done φ_ring σ _ _ refl, done φ_ring σ _ _ refl)))

  third : replaced g (c +ᵛ a) (b +ᵛ c) (c +ᵛ c) ≡ child_dets 3 (replaced g a b c)
  unfolding replaced determinant
  third = same _ _ (reify φ_ring env (λ σ k. simp (k 0, k 1, k 2, k 3, k 4, k 5, k 6, k 7, k 8, k 9, k 10, k 11, reφ) (done φ_ring σ _ _ refl, done φ_ring σ _ _ refl, done φ_ring σ _ _ refl)))

-- one division
module _ (g : Coordinates) (t : Triangle) (h : Twelve t) where
  pub child_dets_lem : (k : ℕ) → determinants g (divide k t) ≡ child_dets k (determinants g t)
  unfolding determinants
  child_dets_lem zero = (λ i. replaced g (exact_m1 t h i) (exact_m2 t h i) (exact_m3 t h i)) ∙ zeroth g (exact t.a1) (exact t.a2) (exact t.a3)
  child_dets_lem (suc zero) = (λ i. replaced g (exact_kept t.a1 i) (exact_m3 t h i) (exact_m2 t h i)) ∙ first g (exact t.a1) (exact t.a2) (exact t.a3)
  child_dets_lem (suc (suc zero)) = (λ i. replaced g (exact_m3 t h i) (exact_kept t.a2 i) (exact_m1 t h i)) ∙ second g (exact t.a1) (exact t.a2) (exact t.a3)
  child_dets_lem (suc (suc (suc k))) = (λ i. replaced g (exact_m2 t h i) (exact_m1 t h i) (exact_kept t.a3 i)) ∙ third g (exact t.a1) (exact t.a2) (exact t.a3)

-- from one triangle down by digits, the last first
unfoldable pub below : Determinants → (digits : List ℕ) → Determinants
below D [] = D
below D (d ∷ ds) = child_dets d (below D ds)

pub below_more : (D : Determinants) (es ds : List ℕ) → below D (es ++ ds) ≡ below (below D ds) es
unfolding below
below_more D [] ds = refl
below_more D (e ∷ es) ds = ap (child_dets e) (below_more D es ds)

-- by the digits of a path w, the first of them first
pub below_first : (D : Determinants) (n w : ℕ) → below D (digits_of (suc n) w) ≡ below (child_dets (w / 4 ^ n % 4) D) (digits_of n w)
unfolding below digits_of
below_first D zero w = ap (λ (k : ℕ). child_dets (k % 4) D) (sym (div-one w))
below_first D (suc n) w =
    let e : w / 4 / 4 ^ n ≡ w / 4 ^ suc n = div-div-eq-div-mul w 4 (4 ^ n) ∙ ap (λ (x : ℕ). w / x) (sym (pow-succ' 4 n)) in
    ap (child_dets (w % 4)) (below_first D n (w / 4) ∙ ap (λ (k : ℕ). below (child_dets (k % 4) D) (digits_of n (w / 4))) e)

-- one digit more
pub child_at : (g : Coordinates) (s d : ℕ) (ds : List ℕ) → determinants g (triangle_at s (d ∷ ds)) ≡ child_dets d (determinants g (triangle_at s ds))
unfolding triangle_at
child_at g s d ds = child_dets_lem g (triangle_at s ds) (all_twelve s ds) d

-- every triangle's determinants are found from its side's, without a corner's coordinates
pub dets_below : (g : Coordinates) (s : ℕ) (ds : List ℕ) → determinants g (triangle_at s ds) ≡ below (determinants g (triangle_at s [])) ds
unfolding below
dets_below g s [] = refl
dets_below g s (d ∷ ds) = child_at g s d ds ∙ ap (child_dets d) (dets_below g s ds)
