-- Numbers near to the roles of a side, by the sizes a, b, c and what φ times them comes to: in the middle side and in
-- those beyond its edges, by near numbers and by exact signs. Assumes nothing.
use mathlib.Core.Path.{◌≡◌, refl}
use mathlib.Core.Logic.{⊎_elim}
use mathlib.Core.List.{[], ◌∷◌}
use Prim.Native.Nat.{ℕ, ◌+◌, ◌-◌, ◌*◌, ◌≤◌, ◌<◌}
use native.Mathlib.Omega.{arith}
use Rattle.golden.specs.Numbers.{◌+φ◌, negφ}
use Rattle.golden.specs.Order.{NonNeg}
use Rattle.golden.proofs.Polynomials.{var, ◌⊕◌, ◌⊝◌, ◌⊗◌, ⊖}
use Rattle.golden.proofs.RingSolver.{solve}
use Rattle.golden.proofs.GoldenRing.{φ_ring}
use Rattle.golden.proofs.GoldenOrder.{nonneg_by, add_nonneg, is_nonneg}
use Rattle.golden.proofs.GoldenProduct.{whole_nonneg}
use Rattle.golden.proofs.IntegerOrder.{le_or_lt}
use Rattle.shares.specs.Means.Shares.{times}
use Rattle.shares.proofs.ShareLaws.{times_nonneg}
use Rattle.seats.specs.declared.placing.Roles.{Roles}
use Rattle.seats.specs.Means.Near.{Near, NearPhi}
use Rattle.seats.specs.Means.Octants.{phi, lean, outer, double, role_of}
use Rattle.seats.specs.Means.Roles.{AreBeyond, AreRoles, AreHeld}
use Rattle.seats.proofs.WholeNumbers.{w}
use Rattle.seats.proofs.NearNumbers.{
  apart_lean,
  apart_outer,
  apart_double,
  apart_opposite,
  apart_below,
  near_less,
  near_cut,
  opposite_nonneg,
}

abbrev roles : (k r1 r2 r3 : ℕ) → Roles
roles k x y z = record { kind = k; r1 = x; r2 = y; r3 = z }

-- 2^19·(b + c + cφ)
abbrev leaning : (b c C : ℕ) → ℕ
leaning b c C = 524288 * (b + c) + C

-- the three numbers beyond the edge at a, and in the middle side
abbrev beyond : (k A b B c C : ℕ) → Roles
beyond k A b B c C = roles k (524288 * c + A + C - 524288 * b) (A - leaning b c C) (2 * B)

abbrev middle : (a A b B c C : ℕ) → Roles
middle a A b B c C = roles 0 (leaning b c C - A) (leaning c a A - B) (leaning a b B - C)

-- ---- beyond an edge

-- the roles are at least 0 where b + c + (c - a)φ is not
module _ (a b c : ℕ) (f : NonNeg (lean a b c) → ⊥) where
  second_nonneg : NonNeg (negφ (lean a b c))
  second_nonneg = opposite_nonneg (lean a b c) f

  phi_nonneg : (n : ℕ) → NonNeg (times n phi)
  phi_nonneg n = times_nonneg n phi (is_nonneg phi tt)

  third_nonneg : NonNeg (double b)
  third_nonneg = add_nonneg _ _ (phi_nonneg b) (phi_nonneg b)

  -- twice c + cφ, and that opposite
  first_nonneg : NonNeg (outer a b c)
  first_nonneg =
      let h : NonNeg (w c +φ times c phi) = add_nonneg _ _ (whole_nonneg c) (phi_nonneg c) in
      nonneg_by
      (solve φ_ring (w a ∷ w b ∷ w c ∷ phi ∷ [])
      ((var 2 ⊕ var 2 ⊗ var 3) ⊕ (var 2 ⊕ var 2 ⊗ var 3) ⊕ ⊖
      (var 1 ⊕ (var 2 ⊕ var 2 ⊗ var 3) ⊝ var 0 ⊗ var 3))
      (var 0 ⊗ var 3 ⊕ (var 2 ⊕ var 2 ⊗ var 3) ⊝ var 1) refl)
      (add_nonneg _ _ (add_nonneg _ _ h h) second_nonneg)

-- their sum is large where a is
beyond_large :
    (a A b B c C x y : ℕ)
    → 848315 * a ≤ A
    → A ≤ 848316 * a
    → 848315 * b ≤ B
    → leaning b c C ≤ A + 4
    → 524288 * c + A + C ≤ x + 524288 * b
    → A ≤ y + leaning b c C
    → 524288 * (a + b + c) ≤ x + y + 2 * B
beyond_large a A b B c C x y al am bl l hx hy = ⊎_elim (λ z. omega arith) (λ z. omega arith) (le_or_lt (a + b) 0)

module _
    (a A b B c C : ℕ)
    (la : a ≤ 1000000000)
    (lb : b ≤ 1000000000)
    (lc : c ≤ 1000000000)
    (na : NearPhi a A)
    (nb : NearPhi b B)
    (nc : NearPhi c C)
  where
    -- by numbers near to the first two, where a is large enough
    beyond_of :
        (k : ℕ)
        → leaning b c C ≤ A + 4
        → Near 4 (outer a b c) (524288 * c + A + C - 524288 * b)
        → Near 4 (negφ (lean a b c)) (A - leaning b c C)
        → AreBeyond a b c (beyond k A b B c C)
    beyond_of k l n1 n2 = record {
      near1 = n1;
      near2 = n2;
      near3 = let e : 2 * B - 0 ≡ 2 * B = omega arith in rw e at
          (near_less (double b) (2 * B) 0 (apart_double b B nb) (omega arith));
      small = omega (arith, na.most, nb.most, nc.most);
      large = beyond_large a A b B c C _ _ na.least na.most nb.least l (omega arith) (omega arith);
    }

    -- by a test of near numbers
    pub beyond_near : (k : ℕ) → leaning b c C < A → AreBeyond a b c (beyond k A b B c C)
    beyond_near k l = beyond_of k (omega arith)
        (near_less (outer a b c) _ _ (apart_outer a c A C na nc b) (omega (arith, nb.least)))
        (near_less _ _ _ (apart_opposite (lean a b c) _ _ (apart_lean a c A C na nc b)) (omega arith))

    -- by the sign
    pub beyond_exact : (k : ℕ) → (NonNeg (lean a b c) → ⊥) → AreBeyond a b c (beyond k A b B c C)
    beyond_exact k f =
        let t = apart_lean a c A C na nc b in
        beyond_of k (apart_below (lean a b c) _ _ t f)
        (near_cut (outer a b c) _ _ (apart_outer a c A C na nc b) (first_nonneg a b c f))
        (near_cut _ _ _ (apart_opposite (lean a b c) _ _ t) (second_nonneg a b c f))

    -- the same in the middle side
    middle_of :
        Near 4 (lean a b c) (leaning b c C - A)
        → Near 4 (lean b c a) (leaning c a A - B)
        → Near 4 (lean c a b) (leaning a b B - C)
        → AreRoles a b c (middle a A b B c C)
    middle_of n1 n2 n3 = record {
      kind_small = omega arith;
      near1 = n1;
      near2 = n2;
      near3 = n3;
      small = omega (arith, na.most, nb.most, nc.most);
      large = omega arith;
    }

    pub middle_near :
        A ≤ leaning b c C
        → B ≤ leaning c a A
        → C ≤ leaning a b B
        → AreRoles a b c (middle a A b B c C)
    middle_near l1 l2 l3 = middle_of
        (near_less (lean a b c) _ _ (apart_lean a c A C na nc b) l1)
        (near_less (lean b c a) _ _ (apart_lean b a B A nb na c) l2)
        (near_less (lean c a b) _ _ (apart_lean c b C B nc nb a) l3)

    pub middle_exact :
        NonNeg (lean a b c)
        → NonNeg (lean b c a)
        → NonNeg (lean c a b)
        → AreHeld a b c (middle a A b B c C)
    middle_exact h1 h2 h3 = record {
      roles = middle_of
          (near_cut (lean a b c) _ _ (apart_lean a c A C na nc b) h1)
          (near_cut (lean b c a) _ _ (apart_lean b a B A nb na c) h2)
          (near_cut (lean c a b) _ _ (apart_lean c b C B nc nb a) h3);
      n1 = h1;
      n2 = h2;
      n3 = h3;
    }

-- ---- the kinds

-- beyond an edge the roles are those of the sizes in another order
pub record Turned (k a b c x y z : ℕ) : Type 0 where
  pub kind_small : k < 4
  pub sum : x + y + z ≡ a + b + c
  pub first : role_of k 1 a b c ≡ outer x y z
  pub second : role_of k 2 a b c ≡ negφ (lean x y z)
  pub third : role_of k 3 a b c ≡ double y

pub turned_1 : (a b c : ℕ) → Turned 1 a b c a b c
turned_1 a b c = record { kind_small = omega arith; sum = refl; first = refl; second = refl; third = refl }

pub turned_2 : (a b c : ℕ) → Turned 2 a b c b c a
turned_2 a b c = record { kind_small = omega arith; sum = omega arith; first = refl; second = refl; third = refl }

pub turned_3 : (a b c : ℕ) → Turned 3 a b c c a b
turned_3 a b c = record { kind_small = omega arith; sum = omega arith; first = refl; second = refl; third = refl }

module _ {k a b c x y z : ℕ} (t : Turned k a b c x y z) (r : Roles) (e : r.kind ≡ k) (h : AreBeyond x y z r) where
  pub roles_beyond : AreRoles a b c r
  roles_beyond = record {
    kind_small = rw e t.kind_small;
    near1 = rw (e, t.first) h.near1;
    near2 = rw (e, t.second) h.near2;
    near3 = rw (e, t.third) h.near3;
    small = h.small;
    large = omega (arith, t.sum, h.large);
  }

  pub held_beyond : (NonNeg (lean x y z) → ⊥) → AreHeld a b c r
  held_beyond f = record {
    roles = roles_beyond;
    n1 = rw (e, t.first) (first_nonneg x y z f);
    n2 = rw (e, t.second) (second_nonneg x y z f);
    n3 = rw (e, t.third) (third_nonneg x y z f);
  }
