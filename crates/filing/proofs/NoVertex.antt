-- No direction of whole numbers other than zero passes through a vertex: two of a side's determinants are 0 only at (0,
-- 0, 0). A plane is P + Qφ with P and Q of whole numbers, and a direction on it lies on P and on Q. Three of these
-- that are independent leave only the origin (Cramer's rule). Assumes nothing.
use mathlib.Core.Path.{◌≡◌, refl, sym, ◌∙◌, ap}
use mathlib.Core.Logic.{⊎_elim}
use mathlib.Core.List.{List, [], ◌∷◌}
use Prim.Native.Nat.{ℕ}
use lib.IntN.{ℤ, pos, neg_ℤ, ◌+ℤ◌, ◌*ℤ◌, zero-*ℤ}
use Rattle.golden.proofs.IntegerSolver.{ℤ-ring, re}
use Rattle.golden.proofs.Magnitudes.{cancelℤ}
use Rattle.golden.proofs.RingSolver.{reify, done}
use Rattle.golden.proofs.GoldenRing.{scale}
use Rattle.golden.specs.Numbers.{golden, whole, ◌+φ◌, negφ, ◌*φ◌}
use Rattle.golden.specs.declared.Golden.{Golden}
use Rattle.net.proofs.Table.{Test, Holds, sound, sides, threes, same, ◌or◌}
use Rattle.net.specs.Sides.{OneToThree, IsSide, corner_vertex}
use Rattle.filing.specs.Holding.{along, dot}
use Rattle.filing.specs.declared.Coordinates.{Coordinates}
use Rattle.filing.specs.declared.Direction.{Direction}
use Rattle.filing.proofs.GoldenTests.{nonzero, is_nonzero}
use Rattle.filing.proofs.SideUnits.{plane, value}

abbrev pub 0φ : Golden
0φ = whole (pos 0)

-- ---- directions as rows

-- the parts of a direction along any coordinates
abbrev rows : Direction → (a b c : ℤ) → ℤ
rows d a b c = d.x *ℤ a +ℤ d.y *ℤ b +ℤ d.z *ℤ c

parts :
    (d : Direction) (a : Coordinates)
    → dot (along d) a ≡ golden (rows d a.x.u a.y.u a.z.u) (rows d a.x.v a.y.v a.z.v)
unfolding ◌+φ◌
parts d a = λ i. scale d.x a.x i +φ scale d.y a.y i +φ scale d.z a.z i

abbrev pub dir : ℤ → ℤ → ℤ → Direction
dir a b c = record { x = a; y = b; z = c }

abbrev pub zero_direction : Direction
zero_direction = dir (pos 0) (pos 0) (pos 0)

abbrev dotℤ : Direction → Direction → ℤ
dotℤ d a = rows d a.x a.y a.z

abbrev crossℤ : Direction → Direction → Direction
crossℤ b c = dir (b.y *ℤ c.z +ℤ neg_ℤ (b.z *ℤ c.y)) (b.z *ℤ c.x +ℤ neg_ℤ (b.x *ℤ c.z))
    (b.x *ℤ c.y +ℤ neg_ℤ (b.y *ℤ c.x))

abbrev detℤ : Direction → Direction → Direction → ℤ
detℤ a b c = dotℤ a (crossℤ b c)

-- Cramer's rule
module _ (d a b c : Direction) where
  abbrev env : List ℤ
  env = d.x ∷ d.y ∷ d.z ∷ a.x ∷ a.y ∷ a.z ∷ b.x ∷ b.y ∷ b.z ∷ c.x ∷ c.y ∷ c.z ∷ []

  abbrev along_row : (Direction → ℤ) → ℤ
  along_row f = dotℤ d a *ℤ f (crossℤ b c) +ℤ dotℤ d b *ℤ f (crossℤ c a) +ℤ dotℤ d c *ℤ f
      (crossℤ a b)

  cramer_x : detℤ a b c *ℤ d.x ≡ along_row (λ w. w.x)
  cramer_x = reify ℤ-ring env (λ σ x. simp (x 0, x 1, x 2, x 3, x 4, x 5, x 6, x 7, x 8, x 9, x 10, x 11, re)
      (done ℤ-ring σ _ _ refl))

  cramer_y : detℤ a b c *ℤ d.y ≡ along_row (λ w. w.y)
  cramer_y = reify ℤ-ring env (λ σ x. simp (x 0, x 1, x 2, x 3, x 4, x 5, x 6, x 7, x 8, x 9, x 10, x 11, re)
      (done ℤ-ring σ _ _ refl))

  cramer_z : detℤ a b c *ℤ d.z ≡ along_row (λ w. w.z)
  cramer_z = reify ℤ-ring env (λ σ x. simp (x 0, x 1, x 2, x 3, x 4, x 5, x 6, x 7, x 8, x 9, x 10, x 11, re)
      (done ℤ-ring σ _ _ refl))

-- three independent rows leave only the origin
only_origin : (d a b c : Direction) → (detℤ a b c ≡ pos 0 → ⊥) → dotℤ d a ≡ pos 0
    → dotℤ d b ≡ pos 0 → dotℤ d c ≡ pos 0 → d ≡ zero_direction
only_origin d a b c n p q r = λ i. record {
  x = cancelℤ m d.x n (cramer_x d a b c ∙ simp (p, q, r, zero-*ℤ)) i;
  y = cancelℤ m d.y n (cramer_y d a b c ∙ simp (p, q, r, zero-*ℤ)) i;
  z = cancelℤ m d.z n (cramer_z d a b c ∙ simp (p, q, r, zero-*ℤ)) i;
}
  where
    m : ℤ
    m = detℤ a b c

-- ---- the rows of a plane

abbrev P : Coordinates → Direction
P a = dir a.x.u a.y.u a.z.u

abbrev Q : Coordinates → Direction
Q a = dir a.x.v a.y.v a.z.v

-- P + 2Q: of two edges of a side, one has P and Q and the other P + 2Q that are independent
abbrev mixed : Coordinates → Direction
mixed a = dir (a.x.u +ℤ a.x.v +ℤ a.x.v) (a.y.u +ℤ a.y.v +ℤ a.y.v)
    (a.z.u +ℤ a.z.v +ℤ a.z.v)

module _ (d : Direction) (a : Coordinates) (e : dot (along d) a ≡ 0φ) where
  on_P : dotℤ d (P a) ≡ pos 0
  on_P = ap (λ (w : Golden). w.u) (sym (parts d a) ∙ e)

  on_Q : dotℤ d (Q a) ≡ pos 0
  on_Q = ap (λ (w : Golden). w.v) (sym (parts d a) ∙ e)

  on_mixed : dotℤ d (mixed a) ≡ pos 0
  on_mixed =
      (reify ℤ-ring (d.x ∷ d.y ∷ d.z ∷ a.x.u ∷ a.x.v ∷ a.y.u ∷ a.y.v ∷ a.z.u ∷ a.z.v ∷ [])
      (λ σ x. simp (x 0, x 1, x 2, x 3, x 4, x 5, x 6, x 7, x 8, re) (done ℤ-ring σ _ _ refl)))
      ∙ unmix
    where
      unmix : dotℤ d (P a) +ℤ dotℤ d (Q a) +ℤ dotℤ d (Q a) ≡ pos 0
      unmix = simp (on_P, on_Q)

-- ---- the law

abbrev volume : Coordinates → Coordinates → ℤ
volume a b = detℤ (P a) (Q a) (mixed b)

-- k and l are two edges of the side s
abbrev apart : (s k l : ℕ) → Test
apart s k l = same k l or (nonzero (volume (plane s k) (plane s l)) or nonzero (volume (plane s l) (plane s k)))

all_apart : (s : ℕ) → IsSide s → (k : ℕ) → OneToThree k → (l : ℕ) → OneToThree l → Holds (apart s k l)
unfolding corner_vertex ◌+φ◌ negφ ◌*φ◌
all_apart = sound (sides λ s. threes λ k. threes λ l. apart s k l) refl

at_once : (d : Direction) (a b : Coordinates) → Holds (nonzero (volume a b)) → dot (along d) a ≡ 0φ
    → dot (along d) b ≡ 0φ → d ≡ zero_direction
at_once d a b t p q = only_origin d (P a) (Q a) (mixed b) (is_nonzero (volume a b) t) (on_P d a p) (on_Q d a p)
    (on_mixed d b q)

-- two planes of a side meet no direction of whole numbers but zero
pub two_planes : (d : Direction) (s : ℕ) → IsSide s → (k : ℕ) → OneToThree k → (l : ℕ) → OneToThree l
    → (k ≡ l → ⊥)
    → value d s k ≡ 0φ → value d s l ≡ 0φ → d ≡ zero_direction
two_planes d s h k hk l hl n p q =
    ⊎_elim (λ t. absurd (n t)) (λ t. ⊎_elim (λ r. at_once d (plane s k) (plane s l) r p q)
    (λ r. at_once d (plane s l) (plane s k) r q p) t)
    (all_apart s h k hk l hl)
