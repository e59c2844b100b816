-- The side of an octant and a kind has the determinants that the table says, in the order that it says. Assumes
-- nothing.
use mathlib.Core.Path.{◌≡◌, refl, sym, ◌∙◌, ap}
use mathlib.Core.List.{[], ◌∷◌}
use Prim.Native.Nat.{ℕ, zero, suc, ◌*◌, ◌≤◌, ◌<◌}
use native.Mathlib.Omega.{arith}
use lib.IntN.{ℤ, pos, negsuc, nat_abs}
use Rattle.golden.specs.Numbers.{whole, ◌+φ◌, negφ, ◌*φ◌}
use Rattle.golden.specs.declared.Golden.{Golden}
use Rattle.golden.proofs.Polynomials.{var, lit, ◌⊕◌, ◌⊝◌, ◌⊗◌, ⊖}
use Rattle.golden.proofs.RingSolver.{solve}
use Rattle.golden.proofs.GoldenRing.{φ_ring, of_mulφ}
use Rattle.net.specs.Sides.{nth, OneToThree, IsSide, corner_vertex}
use Rattle.net.proofs.Table.{sound, below, threes, less, most, no, same, ◌and◌}
use Rattle.filing.specs.Coordinates.{coordinates, negated}
use Rattle.filing.specs.Holding.{along, dot, three}
use Rattle.filing.specs.declared.Coordinates.{Coordinates}
use Rattle.filing.specs.declared.Direction.{Direction}
use Rattle.filing.specs.Means.Sides.{side_dets}
use Rattle.filing.proofs.GoldenTests.{sameᵛ, ᵛ_same}
use Rattle.filing.proofs.SideUnits.{plane, value, side_dets_lem}
use Rattle.shares.specs.Means.Shares.{times}
use Rattle.seats.proofs.WholeNumbers.{w}
use Rattle.seats.specs.Means.Octants.{phi, lean, outer, double, role_of, sign_at, side_at, first_at, second_at}
use Rattle.seats.specs.Means.Octants.{third_at, seat, seat_of}

-- ---- the planes, in the octant where no coordinate is negative

abbrev dot3 : (a b c : ℕ) → Coordinates → Golden
dot3 a b c v = w a *φ v.x +φ w b *φ v.y +φ w c *φ v.z

-- the axes one further round
abbrev turned : Coordinates → Coordinates
turned v = coordinates v.z v.x v.y

abbrev lean_plane : Coordinates
lean_plane = coordinates (negφ phi) (w 1) (w 1 +φ phi)

abbrev beyond_plane : (role : ℕ) → Coordinates
beyond_plane i = nth i (coordinates phi (negφ (w 1)) (w 1 +φ phi)) (negated lean_plane) (coordinates (w 0) (phi +φ
    phi) (w 0))

abbrev plane_of : (kind role : ℕ) → Coordinates
plane_of zero i = nth i lean_plane (turned lean_plane) (turned (turned lean_plane))
plane_of (suc zero) i = beyond_plane i
plane_of (suc (suc zero)) i = turned (beyond_plane i)
plane_of (suc (suc (suc k))) i = turned (turned (beyond_plane i))

module _ (a b c : ℕ) where
  dot_turned : (v : Coordinates) → dot3 b c a v ≡ dot3 a b c (turned v)
  dot_turned v =
      solve φ_ring (w a ∷ w b ∷ w c ∷ v.x ∷ v.y ∷ v.z ∷ [])
      (var 1 ⊗ var 3 ⊕ var 2 ⊗ var 4 ⊕ var 0 ⊗ var 5)
      (var 0 ⊗ var 5 ⊕ var 1 ⊗ var 3 ⊕ var 2 ⊗ var 4) refl

  dot_negated : (v : Coordinates) → negφ (dot3 a b c v) ≡ dot3 a b c (negated v)
  dot_negated v =
      solve φ_ring (w a ∷ w b ∷ w c ∷ v.x ∷ v.y ∷ v.z ∷ [])
      (⊖ (var 0 ⊗ var 3 ⊕ var 1 ⊗ var 4 ⊕ var 2 ⊗ var 5))
      (var 0 ⊗ ⊖ (var 3) ⊕ var 1 ⊗ ⊖ (var 4) ⊕ var 2 ⊗ ⊖ (var 5)) refl

  dot_lean : lean a b c ≡ dot3 a b c lean_plane
  dot_lean =
      solve φ_ring (w a ∷ w b ∷ w c ∷ phi ∷ []) (var 1 ⊕ (var 2 ⊕ var 2 ⊗ var 3) ⊝ var 0 ⊗ var 3)
      (var 0 ⊗ ⊖ (var 3) ⊕ var 1 ⊗ lit 1 ⊕ var 2 ⊗ (lit 1 ⊕ var 3)) refl

  dot_outer : outer a b c ≡ dot3 a b c (beyond_plane 1)
  dot_outer =
      solve φ_ring (w a ∷ w b ∷ w c ∷ phi ∷ []) (var 0 ⊗ var 3 ⊕ (var 2 ⊕ var 2 ⊗ var 3) ⊝ var 1)
      (var 0 ⊗ var 3 ⊕ var 1 ⊗ ⊖ (lit 1) ⊕ var 2 ⊗ (lit 1 ⊕ var 3)) refl

  dot_double : double b ≡ dot3 a b c (beyond_plane 3)
  dot_double =
      solve φ_ring (w a ∷ w b ∷ w c ∷ phi ∷ []) (var 1 ⊗ var 3 ⊕ var 1 ⊗ var 3)
      (var 0 ⊗ lit 0 ⊕ var 1 ⊗ (var 3 ⊕ var
      3) ⊕ var 2 ⊗ lit 0) refl

  dot_beyond : (i : ℕ) → nth i (outer a b c) (negφ (lean a b c)) (double b) ≡ dot3 a b c (beyond_plane i)
  dot_beyond zero = dot_double
  dot_beyond (suc zero) = dot_outer
  dot_beyond (suc (suc zero)) = ap negφ dot_lean ∙ dot_negated lean_plane
  dot_beyond (suc (suc (suc i))) = dot_double

-- twice round
dot_turned_2 : (a b c : ℕ) (v : Coordinates) → dot3 c a b v ≡ dot3 a b c (turned (turned v))
dot_turned_2 a b c v = dot_turned b c a v ∙ dot_turned a b c (turned v)

role_dot : (a b c k i : ℕ) → role_of k i a b c ≡ dot3 a b c (plane_of k i)
role_dot a b c zero zero = dot_lean c a b ∙ dot_turned_2 a b c lean_plane
role_dot a b c zero (suc zero) = dot_lean a b c
role_dot a b c zero (suc (suc zero)) = dot_lean b c a ∙ dot_turned a b c lean_plane
role_dot a b c zero (suc (suc (suc i))) = dot_lean c a b ∙ dot_turned_2 a b c lean_plane
role_dot a b c (suc zero) i = dot_beyond a b c i
role_dot a b c (suc (suc zero)) i = dot_beyond b c a i ∙ dot_turned a b c (beyond_plane i)
role_dot a b c (suc (suc (suc k))) i = dot_beyond c a b i ∙ dot_turned_2 a b c (beyond_plane i)

-- m times as large
dot_times : (m a b c : ℕ) (v : Coordinates) → times m (dot3 a b c v) ≡ dot3 (m * a) (m * b) (m * c) v
dot_times m a b c v =
    solve φ_ring (w m ∷ w a ∷ w b ∷ w c ∷ v.x ∷ v.y ∷ v.z ∷ [])
    (var 0 ⊗ (var 1 ⊗ var 4 ⊕ var 2 ⊗ var 5 ⊕ var 3 ⊗ var 6))
    ((var 0 ⊗ var 1) ⊗ var 4 ⊕ (var 0 ⊗ var 2) ⊗ var 5 ⊕ (var 0 ⊗ var 3) ⊗ var 6) refl
    ∙ λ i. sym (of_mulφ (pos m) (pos a)) i *φ v.x +φ sym (of_mulφ (pos m) (pos b)) i *φ v.y +φ sym
    (of_mulφ (pos m)
    (pos c)) i *φ v.z

pub role_times : (m a b c k i : ℕ) → times m (role_of k i a b c) ≡ role_of k i (m * a) (m * b) (m * c)
role_times m a b c k i =
    ap (times m) (role_dot a b c k i) ∙ dot_times m a b c (plane_of k i) ∙ sym (role_dot (m * a) (m * b) (m * c) k i)

-- ---- the other octants

abbrev flip_by : ℕ → Golden → Golden
flip_by zero x = x
flip_by (suc s) x = negφ x

abbrev signed_by : (q r s : ℕ) → Coordinates → Coordinates
signed_by q r s v = coordinates (flip_by q v.x) (flip_by r v.y) (flip_by s v.z)

-- either sign does for 0
axis : (c : ℤ) (z : ℕ) (x : Golden) → whole c *φ flip_by (sign_at c z) x ≡ w (nat_abs c) *φ x
unfolding negφ
axis (pos zero) zero x = refl
axis (pos zero) (suc z) x = solve φ_ring (x ∷ []) (lit 0 ⊗ ⊖ (var 0)) (lit 0 ⊗ var 0) refl
axis (pos (suc c)) z x = refl
axis (negsuc c) z x = solve φ_ring (w (suc c) ∷ x ∷ []) (⊖ (var 0) ⊗ ⊖ (var 1)) (var 0 ⊗ var 1) refl

pub sign_small : (c : ℤ) (z : ℕ) → z < 2 → sign_at c z < 2
sign_small (pos zero) z l = l
sign_small (pos (suc n)) z l = omega arith
sign_small (negsuc n) z l = omega arith

-- ---- the table

abbrev pub role_at : (j i : ℕ) → ℕ
role_at j i = nth i (first_at j) (second_at j) (third_at j)

planes_are : (q : ℕ) → q < 2 → (r : ℕ) → r < 2 → (s : ℕ) → s < 2 → (k : ℕ) → k < 4 → (i : ℕ)
    → OneToThree i
    → plane (side_at (seat q r s k)) i ≡ signed_by q r s (plane_of k (role_at (seat q r s k) i))
unfolding side_at first_at second_at corner_vertex ◌+φ◌ negφ ◌*φ◌
planes_are q hq r hr s hs k hk i hi =
    ᵛ_same (plane (side_at (seat q r s k)) i) (signed_by q r s (plane_of k (role_at (seat q r s k) i)))
    (sound
    (below 2 λ q. below 2 λ r. below 2 λ s. below 4 λ k. threes λ i.
    sameᵛ (plane (side_at (seat q r s k)) i)
    (signed_by q r s (plane_of k (role_at (seat q r s k) i)))) refl q hq r hr s hs k hk i hi)

abbrev IsSeat : (j : ℕ) → Type 0
IsSeat j =
    (4 ≤ side_at j) × ((side_at j < 24) × ((1 ≤ first_at j) × ((first_at j ≤ 3)
    × ((1 ≤ second_at j) × ((second_at j ≤ 3) × ((first_at j ≡ second_at j → ⊥)))))))

seats_are : (q : ℕ) → q < 2 → (r : ℕ) → r < 2 → (s : ℕ) → s < 2 → (k : ℕ) → k < 4
    → IsSeat (seat q r s k)
unfolding side_at first_at second_at
seats_are = sound (below 2 λ q. below 2 λ r. below 2 λ s. below 4 λ k. most 4 (side_at (seat q r s k)) and (less
    (side_at (seat q r s k)) 24 and (most 1 (first_at (seat q r s k)) and (most (first_at (seat q r s k)) 3 and (most 1
    (second_at (seat q r s k)) and (most (second_at (seat q r s k)) 3 and no (same (first_at (seat q r s k)) (second_at
    (seat q r s k))))))))) refl

-- ---- a direction in a seat that its signs allow

module _ (d : Direction) (x y z : ℕ) (hx : x < 2) (hy : y < 2) (hz : z < 2) (k : ℕ) (hk : k < 4) where
  abbrev here : ℕ
  here = seat_of d x y z k

  sx : sign_at d.x x < 2
  sx = sign_small d.x x hx

  sy : sign_at d.y y < 2
  sy = sign_small d.y y hy

  sz : sign_at d.z z < 2
  sz = sign_small d.z z hz

  facts : IsSeat here
  facts = seats_are _ sx _ sy _ sz k hk

  pub seat_side : IsSide (side_at here)
  seat_side = (facts.0, facts.1.0)

  pub seat_first : OneToThree (first_at here)
  seat_first = (facts.1.1.0, facts.1.1.1.0)

  pub seat_second : OneToThree (second_at here)
  seat_second = (facts.1.1.1.1.0, facts.1.1.1.1.1.0)

  pub seat_apart : first_at here ≡ second_at here → ⊥
  seat_apart = facts.1.1.1.1.1.1

  pub value_role : (i : ℕ) → OneToThree i → value d (side_at here) i ≡ role_of k (role_at here i) (nat_abs d.x)
      (nat_abs d.y) (nat_abs d.z)
  value_role i hi =
      let p = plane_of k (role_at here i) in
      ap (λ (v : Coordinates). dot (along d) v) (planes_are _ sx _ sy _ sz k hk i hi)
      ∙ (λ j. axis d.x x p.x j +φ axis d.y y p.y j +φ axis d.z z p.z j)
      ∙ sym (role_dot (nat_abs d.x) (nat_abs d.y) (nat_abs d.z) k (role_at here i))

  -- the side's determinants are the roles in the order of the seat
  pub seat_dets :
      side_dets d (side_at here)
      ≡ three (role_of k (first_at here) (nat_abs d.x) (nat_abs d.y) (nat_abs d.z))
      (role_of k (second_at here) (nat_abs d.x) (nat_abs d.y) (nat_abs d.z))
      (role_of k (third_at here) (nat_abs d.x) (nat_abs d.y) (nat_abs d.z))
  seat_dets =
      side_dets_lem d (side_at here) seat_side
      ∙ λ j. three (value_role 1 (omega arith, omega arith) j) (value_role 2 (omega arith, omega arith) j)
      (value_role 3 (omega arith, omega arith) j)
