-- No direction of whole numbers other than zero passes through a vertex: k times a vertex is of whole numbers only where k is 0.
-- (k is a number u + vφ, or a quotient of two such numbers.) A vertex is P + Qφ with P and Q of whole numbers, each of length 1, at right
-- angles. The φ part of k·(P + Qφ) is v·P + (u + v)·Q, and it is 0 only if v and u + v are. Assumes nothing.
use mathlib.Core.Path.{◌≡◌, refl, sym, ◌∙◌, ap}
use mathlib.Core.List.{List, [], ◌∷◌}
use Prim.Native.Nat.{ℕ, ◌<◌}
use lib.IntN.{ℤ, pos, ◌+ℤ◌, ◌*ℤ◌}
use Rattle.golden.specs.Numbers.{whole, ◌*φ◌}
use Rattle.golden.specs.declared.Golden.{Golden}
use Rattle.golden.proofs.GoldenRing.{φ_path, zero_mulφ, *φ-assoc, of_mulφ}
use Rattle.golden.proofs.Magnitudes.{cancelℤ}
use Rattle.golden.proofs.Quotients.{conjugate, norm, norm_times, norm_zero}
use Rattle.golden.proofs.IntegerOrder.{→eq}
use Rattle.golden.proofs.IntegerSolver.{ℤ-ring, re}
use Rattle.golden.proofs.Polynomials.{var, lit, ◌⊕◌, ◌⊗◌}
use Rattle.golden.proofs.RingSolver.{solve, reify, done}
use Rattle.net.proofs.Table.{Test, Holds, sound, below, ◌and◌}
use Rattle.filing.specs.Coordinates.{direction, times}
use Rattle.filing.specs.Holding.{along}
use Rattle.filing.specs.declared.Coordinates.{Coordinates}
use Rattle.filing.specs.declared.Direction.{Direction}
use Rattle.filing.proofs.GoldenTests.{sameℤ}
use Rattle.filing.proofs.NoVertex.{0φ, zero_direction}
use Rattle.filing.proofs.Parts.{coordinates_path}

-- ---- P and Q of a vertex

-- a whole number for each axis, and the product of two such rows
abbrev Row : Type 0
Row = Golden → ℤ

abbrev P : Row
P x = x.u

abbrev Q : Row
Q x = x.v

abbrev product : Row → Row → Coordinates → ℤ
product f g a = f a.x *ℤ g a.x +ℤ f a.y *ℤ g a.y +ℤ f a.z *ℤ g a.z

abbrev square : Coordinates → Test
square a = sameℤ (product P P a) (pos 1) and (sameℤ (product P Q a) (pos 0) and sameℤ (product Q Q a) (pos 1))

all_square : (v : ℕ) → v < 12 → Holds (square (direction v))
all_square = sound (below 12 λ v. square (direction v)) refl

-- ---- the φ part of k·(P + Qφ)

-- the φ part of k·x, as `*φ` has it
abbrev part : Golden → Row
part k x = k.u *ℤ x.v +ℤ k.v *ℤ x.u +ℤ k.v *ℤ x.v

module _ (k : Golden) (a : Coordinates) where
  abbrev env : List ℤ
  env = k.u ∷ k.v ∷ a.x.u ∷ a.x.v ∷ a.y.u ∷ a.y.v ∷ a.z.u ∷ a.z.v ∷ []

  along_P : k.v *ℤ product P P a +ℤ (k.u +ℤ k.v) *ℤ product P Q a ≡ product P (part k) a
  along_P = reify ℤ-ring env (λ σ x. simp (x 0, x 1, x 2, x 3, x 4, x 5, x 6, x 7, re) (done ℤ-ring σ _ _ refl))

  along_Q : k.v *ℤ product P Q a +ℤ (k.u +ℤ k.v) *ℤ product Q Q a ≡ product Q (part k) a
  along_Q = reify ℤ-ring env (λ σ x. simp (x 0, x 1, x 2, x 3, x 4, x 5, x 6, x 7, re) (done ℤ-ring σ _ _ refl))

-- with a row of 0, 0, 0
nought : (f g : Row) (a : Coordinates) → g a.x ≡ pos 0 → g a.y ≡ pos 0 → g a.z ≡ pos 0 → product f g a ≡ pos 0
nought f g a p q r =
    (λ i. f a.x *ℤ p i +ℤ f a.y *ℤ q i +ℤ f a.z *ℤ r i)
    ∙ solve ℤ-ring (f a.x ∷ f a.y ∷ f a.z ∷ []) (var 0 ⊗ lit 0 ⊕ var 1 ⊗ lit 0 ⊕ var 2 ⊗ lit 0) (lit 0) refl

-- where it is 0, k is
module _ (k : Golden) (a : Coordinates) (s : Holds (square a))
    (x0 : part k a.x ≡ pos 0) (y0 : part k a.y ≡ pos 0) (z0 : part k a.z ≡ pos 0) where
  PP : product P P a ≡ pos 1
  PP = →eq (product P P a) (pos 1) s.0

  PQ : product P Q a ≡ pos 0
  PQ = →eq (product P Q a) (pos 0) s.1.0

  QQ : product Q Q a ≡ pos 1
  QQ = →eq (product Q Q a) (pos 1) s.1.1

  v_zero : k.v ≡ pos 0
  v_zero =
      solve ℤ-ring (k.u ∷ k.v ∷ []) (var 1) (var 1 ⊗ lit 1 ⊕ (var 0 ⊕ var 1) ⊗ lit 0) refl
      ∙ sym (λ i. k.v *ℤ PP i +ℤ (k.u +ℤ k.v) *ℤ PQ i)
      ∙ along_P k a
      ∙ nought P (part k) a x0 y0 z0

  sum_zero : k.u +ℤ k.v ≡ pos 0
  sum_zero =
      solve ℤ-ring (k.u ∷ k.v ∷ []) (var 0 ⊕ var 1) (var 1 ⊗ lit 0 ⊕ (var 0 ⊕ var 1) ⊗ lit 1) refl
      ∙ sym (λ i. k.v *ℤ PQ i +ℤ (k.u +ℤ k.v) *ℤ QQ i)
      ∙ along_Q k a
      ∙ nought Q (part k) a x0 y0 z0

  k_zero : k ≡ 0φ
  k_zero = φ_path (solve ℤ-ring (k.u ∷ []) (var 0) (var 0 ⊕ lit 0) refl ∙ ap (λ (v : ℤ). k.u +ℤ v) (sym v_zero) ∙ sum_zero) v_zero

-- ---- the law

-- one axis: a whole number c that is k·x
module _ (c : ℤ) (k x : Golden) (e : whole c ≡ k *φ x) where
  no_part : part k x ≡ pos 0
  unfolding ◌*φ◌
  no_part = sym (ap (λ (y : Golden). y.v) e)

  at_zero : k ≡ 0φ → c ≡ pos 0
  at_zero z = ap (λ (y : Golden). y.u) (e ∙ ap (λ (k : Golden). k *φ x) z ∙ zero_mulφ x)

-- k times a vertex
whole_vertex : (d : Direction) (v : ℕ) → v < 12 → (k : Golden) → along d ≡ times k (direction v) → d ≡ zero_direction
whole_vertex d v h k e =
    let a = direction v in
    let ex : whole d.x ≡ k *φ a.x = ap (λ (b : Coordinates). b.x) e in
    let ey : whole d.y ≡ k *φ a.y = ap (λ (b : Coordinates). b.y) e in
    let ez : whole d.z ≡ k *φ a.z = ap (λ (b : Coordinates). b.z) e in
    let z : k ≡ 0φ = k_zero k a (all_square v h) (no_part d.x k a.x ex) (no_part d.y k a.y ey) (no_part d.z k a.z ez) in
    λ i. record { x = at_zero d.x k a.x ex z i; y = at_zero d.y k a.y ey z i; z = at_zero d.z k a.z ez z i }

-- from m times a whole number c to its norm times c, which is whole
cleared : (m : Golden) (c : ℤ) (k x : Golden) → m *φ whole c ≡ k *φ x → whole (norm m *ℤ c) ≡ (conjugate m *φ k) *φ x
cleared m c k x e = of_mulφ (norm m) c ∙ sym (norm_times m (whole c)) ∙ ap (λ (y : Golden). conjugate m *φ y) e ∙ sym (*φ-assoc (conjugate m) k x)

-- "No whole-number direction other than zero passes through a vertex of the icosahedron": none is k/m times a vertex
pub no_vertex_lem : (d : Direction) (v : ℕ) → v < 12 → (m k : Golden) → (m ≡ 0φ → ⊥) → times m (along d) ≡ times k (direction v) → d ≡ zero_direction
no_vertex_lem d v h m k n e =
    let a = direction v in
    let c = norm m in
    let some : c ≡ pos 0 → ⊥ = λ z. n (norm_zero m z) in
    let z = whole_vertex (record { x = c *ℤ d.x; y = c *ℤ d.y; z = c *ℤ d.z }) v h (conjugate m *φ k) (coordinates_path
    (cleared m d.x k a.x (ap (λ (b : Coordinates). b.x) e))
    (cleared m d.y k a.y (ap (λ (b : Coordinates). b.y) e))
    (cleared m d.z k a.z (ap (λ (b : Coordinates). b.z) e))) in
    λ i. record {
      x = cancelℤ c d.x some (ap (λ (g : Direction). g.x) z) i;
      y = cancelℤ c d.y some (ap (λ (g : Direction). g.y) z) i;
      z = cancelℤ c d.z some (ap (λ (g : Direction). g.z) z) i;
    }
