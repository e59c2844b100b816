-- A triangle holds a direction exactly when the direction is a sum of its three corner directions with multipliers that are zero or more:
-- Cramer's rule. The multipliers are the three determinants over that of the corners, which is above 0. Assumes nothing.
use mathlib.Core.Path.{◌≡◌, refl, sym, ◌∙◌, ap}
use mathlib.Core.Logic.{◌↔◌}
use mathlib.Core.List.{List, [], ◌∷◌}
use Prim.Native.Nat.{ℕ}
use Rattle.golden.specs.declared.Golden.{Golden}
use Rattle.golden.specs.Numbers.{◌*φ◌}
use Rattle.golden.specs.Order.{NonNeg, Positive}
use Rattle.golden.proofs.GoldenRing.{φ_ring, reφ}
use Rattle.golden.proofs.GoldenOrder.{nonneg_by}
use Rattle.golden.proofs.GoldenProduct.{*φ-nonneg}
use Rattle.golden.proofs.RingSolver.{reify, done}
use Rattle.words.specs.Refusals.{IsCode}
use Rattle.words.specs.declared.TriangleCode.{TriangleCode}
use Rattle.net.specs.Corners.{corner}
use Rattle.filing.specs.Coordinates.{◌+ᵛ◌, times, exact}
use Rattle.filing.specs.Holding.{along, determinant, replaced, determinants, AllNonNeg, Holds}
use Rattle.filing.specs.declared.Coordinates.{Coordinates}
use Rattle.filing.specs.declared.Direction.{Direction}
use Rattle.filing.proofs.Parts.{coordinates_path}
use Rattle.filing.proofs.Anticlockwise.{anticlockwise}
use Rattle.filing.specs.Multiples.{IsSumOf, IsSum}
use Rattle.golden.proofs.Quotients.{quotient_nonneg}

module _ (a b c g : Coordinates) where
  abbrev env : List Golden
  env = g.x ∷ g.y ∷ g.z ∷ a.x ∷ a.y ∷ a.z ∷ b.x ∷ b.y ∷ b.z ∷ c.x ∷ c.y ∷ c.z ∷ []

  -- Cramer's rule
  cramer : times (determinant a b c) g ≡ times (determinant g b c) a +ᵛ times (determinant a g c) b +ᵛ times (determinant a b g) c
  unfolding determinant
  cramer = coordinates_path
      (reify φ_ring env (λ σ k. simp (k 0, k 1, k 2, k 3, k 4, k 5, k 6, k 7, k 8, k 9, k 10, k 11, reφ) (done φ_ring σ _ _ refl)))
      (reify φ_ring env (λ σ k. simp (k 0, k 1, k 2, k 3, k 4, k 5, k 6, k 7, k 8, k 9, k 10, k 11, reφ) (done φ_ring σ _ _ refl)))
      (reify φ_ring env (λ σ k. simp (k 0, k 1, k 2, k 3, k 4, k 5, k 6, k 7, k 8, k 9, k 10, k 11, reφ) (done φ_ring σ _ _ refl)))

  -- m times g in one place of the determinant
  module _ (m : Golden) where
    scaled1 : determinant (times m g) b c ≡ m *φ determinant g b c
    unfolding determinant
    scaled1 = reify φ_ring (m ∷ env) (λ σ k. simp (k 0, k 1, k 2, k 3, k 7, k 8, k 9, k 10, k 11, k 12, reφ) (done φ_ring σ _ _ refl))

    scaled2 : determinant a (times m g) c ≡ m *φ determinant a g c
    unfolding determinant
    scaled2 = reify φ_ring (m ∷ env) (λ σ k. simp (k 0, k 1, k 2, k 3, k 4, k 5, k 6, k 10, k 11, k 12, reφ) (done φ_ring σ _ _ refl))

    scaled3 : determinant a b (times m g) ≡ m *φ determinant a b g
    unfolding determinant
    scaled3 = reify φ_ring (m ∷ env) (λ σ k. simp (k 0, k 1, k 2, k 3, k 4, k 5, k 6, k 7, k 8, k 9, reφ) (done φ_ring σ _ _ refl))

module _ (a b c : Coordinates) (m1 m2 m3 : Golden) where
  abbrev envs : List Golden
  envs = m1 ∷ m2 ∷ m3 ∷ a.x ∷ a.y ∷ a.z ∷ b.x ∷ b.y ∷ b.z ∷ c.x ∷ c.y ∷ c.z ∷ []

  abbrev total : Coordinates
  total = times m1 a +ᵛ times m2 b +ᵛ times m3 c

  -- a sum in one place of the determinant: the other two terms add nothing
  sum1 : determinant total b c ≡ m1 *φ determinant a b c
  unfolding determinant
  sum1 = reify φ_ring envs (λ σ k. simp (k 0, k 1, k 2, k 3, k 4, k 5, k 6, k 7, k 8, k 9, k 10, k 11, reφ) (done φ_ring σ _ _ refl))

  sum2 : determinant a total c ≡ m2 *φ determinant a b c
  unfolding determinant
  sum2 = reify φ_ring envs (λ σ k. simp (k 0, k 1, k 2, k 3, k 4, k 5, k 6, k 7, k 8, k 9, k 10, k 11, reφ) (done φ_ring σ _ _ refl))

  sum3 : determinant a b total ≡ m3 *φ determinant a b c
  unfolding determinant
  sum3 = reify φ_ring envs (λ σ k. simp (k 0, k 1, k 2, k 3, k 4, k 5, k 6, k 7, k 8, k 9, k 10, k 11, reφ) (done φ_ring σ _ _ refl))

-- for any three directions that turn anticlockwise
module _ (a b c g : Coordinates) (h : Positive (determinant a b c)) where
  -- the determinants are multipliers
  to_sum : AllNonNeg (replaced g a b c) → IsSumOf a b c g
  unfolding replaced
  to_sum r = record {
    m = determinant a b c;
    m1 = determinant g b c;
    m2 = determinant a g c;
    m3 = determinant a b g;
    m_ok = h.0;
    m_some = h.1;
    m1_ok = r.n1;
    m2_ok = r.n2;
    m3_ok = r.n3;
    sum = cramer a b c g;
  }

  -- multipliers that are zero or more make determinants that are
  of_sum : IsSumOf a b c g → AllNonNeg (replaced g a b c)
  unfolding replaced
  of_sum s = record {
    n1 = part s.m1 (determinant g b c) s.m1_ok (sym (scaled1 a b c g s.m) ∙ ap (λ (v : Coordinates). determinant v b c) s.sum ∙ sum1 a b c s.m1 s.m2 s.m3);
    n2 = part s.m2 (determinant a g c) s.m2_ok (sym (scaled2 a b c g s.m) ∙ ap (λ (v : Coordinates). determinant a v c) s.sum ∙ sum2 a b c s.m1 s.m2 s.m3);
    n3 = part s.m3 (determinant a b g) s.m3_ok (sym (scaled3 a b c g s.m) ∙ ap (λ (v : Coordinates). determinant a b v) s.sum ∙ sum3 a b c s.m1 s.m2 s.m3);
  }
    where
      -- m·D is a multiplier times the determinant of the corners
      part : (k D : Golden) → NonNeg k → s.m *φ D ≡ k *φ determinant a b c → NonNeg D
      part k D l e = quotient_nonneg s.m D s.m_ok s.m_some (nonneg_by (sym e) (*φ-nonneg k (determinant a b c) l h.0))

-- "A closed triangle holds it when it is a sum of the three corner directions with multipliers that are zero or more."
pub holds_means : (n : ℕ) (t : TriangleCode) (d : Direction) → IsCode n t → Holds t d ↔ IsSum t d
unfolding determinants
holds_means n t d c =
    let h = anticlockwise c in
    (to_sum (exact (corner t 1)) (exact (corner t 2)) (exact (corner t 3)) (along d) h, of_sum (exact (corner t 1)) (exact (corner t 2)) (exact (corner t 3)) (along d) h)
