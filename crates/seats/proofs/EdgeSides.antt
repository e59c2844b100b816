-- A direction lies on the edge between two sides where one coordinate is 0, and then the side of the chosen signs
-- comes first. Assumes nothing.
use mathlib.Core.Path.{◌≡◌, refl, sym, ◌∙◌, ap, subst}
use mathlib.Core.Logic.{◌⊎◌, inr, ⊎_elim}
use mathlib.Core.List.{[], ◌∷◌, ◌++◌}
use Prim.Native.Nat.{ℕ, zero, suc, ◌+◌, ◌-◌, ◌*◌, ◌≤◌, ◌<◌}
use native.Mathlib.Omega.{arith}
use lib.Bits.{bit_xor}
use lib.IntN.{ℤ, pos, negsuc, nat_abs}
use Rattle.golden.specs.Numbers.{whole}
use Rattle.golden.proofs.Polynomials.{var, lit, ◌⊕◌, ◌⊗◌}
use Rattle.golden.proofs.RingSolver.{solve}
use Rattle.golden.proofs.GoldenRing.{φ_ring}
use Rattle.net.specs.Sides.{IsSide, OneToThree}
use Rattle.net.proofs.Table.{sound, three as each-of-three, below, less, same}
use Rattle.filing.specs.Means.Lists.{side_words, all_words}
use Rattle.filing.specs.Means.Sides.{side_dets, least_from}
use Rattle.filing.specs.declared.Direction.{Direction}
use Rattle.filing.proofs.SideUnits.{value}
use Rattle.filing.proofs.TwoSides.{SideHolds}
use Rattle.shares.specs.declared.Floors.{Floors}
use Rattle.shares.specs.declared.Gaps.{Gaps}
use Rattle.shares.specs.Means.Shares.{Stands}
use Rattle.shares.proofs.Standing.{stands_holds}
use Rattle.seats.specs.Means.Octants.{phi, double, role_of, roles_of, sign_at, seat, seat_of, first_x, first_y}
use Rattle.seats.specs.Means.Octants.{first_z, other_octant, side_at, first_at, second_at}
use Rattle.seats.specs.Means.Roles.{floors_at, gaps_at}
use Rattle.seats.specs.Means.Finding.{IsSome}
use Rattle.seats.proofs.ExactRoles.{lean_zero, outer_zero, opposite_zero, double_zero}
use Rattle.seats.proofs.SeatPlanes.{role_at, sign_small, seat_side, seat_first, seat_second, value_role}
use Rattle.seats.proofs.SeatShares.{seat_third, seat_stands}
use Rattle.seats.proofs.HeldSides.{equal_or_not, least_here, only_here, only_two}
use Rattle.seats.proofs.SideLists.{one_side, both_sides}

-- ---- which role may be 0

-- the coordinate whose sign the kind's third role has is 0
abbrev pub OnPlane : (kind a b c : ℕ) → Type 0
OnPlane zero a b c = ⊥
OnPlane (suc zero) a b c = b ≡ 0
OnPlane (suc (suc zero)) a b c = c ≡ 0
OnPlane (suc (suc (suc k))) a b c = a ≡ 0

on_plane_or_not : (k a b c : ℕ) → OnPlane k a b c ⊎ (OnPlane k a b c → ⊥)
on_plane_or_not zero a b c = inr (λ p. p)
on_plane_or_not (suc zero) a b c = equal_or_not b 0
on_plane_or_not (suc (suc zero)) a b c = equal_or_not c 0
on_plane_or_not (suc (suc (suc k))) a b c = equal_or_not a 0

double_none : double 0 ≡ whole (pos 0)
double_none = solve φ_ring (phi ∷ []) (lit 0 ⊗ var 0 ⊕ lit 0 ⊗ var 0) (lit 0) refl

module _ (a b c : ℕ) (some : a + b + c ≡ 0 → ⊥) where
  none : {A : Type 0} → (a ≡ 0) × (b ≡ 0) × (c ≡ 0) → A
  none z = absurd (some (omega (arith, z.0, z.1, z.2)))

  pub zero_role : (k j : ℕ) → OneToThree j → role_of k j a b c ≡ whole (pos 0) → OnPlane k a b c
  zero_role zero = each-of-three (λ j. role_of 0 j a b c ≡ whole (pos 0) → ⊥)
      (λ e. none (lean_zero a b c e)) (λ e. let z = lean_zero b c a e in
      none (z.2, z.0, z.1)) (λ e. let z = lean_zero c a b e in none (z.1, z.2, z.0))
  zero_role (suc zero) = each-of-three (λ j. role_of 1 j a b c ≡ whole (pos 0) → b ≡ 0)
      (λ e. none (outer_zero a b c e)) (λ e. none (opposite_zero a b c e)) (double_zero b)
  zero_role (suc (suc zero)) = each-of-three (λ j. role_of 2 j a b c ≡ whole (pos 0) → c ≡ 0)
      (λ e. let z = outer_zero b c a e in none (z.2, z.0, z.1)) (λ e. let z = opposite_zero b c a e in
      none (z.2, z.0, z.1)) (double_zero c)
  zero_role (suc (suc (suc k))) = each-of-three (λ j. role_of 3 j a b c ≡ whole (pos 0) → a ≡ 0)
      (λ e. let z = outer_zero c a b e in none (z.1, z.2, z.0)) (λ e. let z = opposite_zero c a b e in
      none (z.1, z.2, z.0)) (double_zero a)

-- there it is 0
pub plane_role : (k a b c : ℕ) → OnPlane k a b c → role_of k 3 a b c ≡ whole (pos 0)
plane_role zero a b c o = absurd o
plane_role (suc zero) a b c o = rw o double_none
plane_role (suc (suc zero)) a b c o = rw o double_none
plane_role (suc (suc (suc k))) a b c o = rw o double_none

-- ---- the other side

zero_sign : (c : ℤ) (z : ℕ) → nat_abs c ≡ 0 → sign_at c z ≡ z
zero_sign (pos zero) z e = refl
zero_sign (pos (suc n)) z e = absurd (omega arith)
zero_sign (negsuc n) z e = absurd (omega arith)

-- the octant's number with one sign turned over
turn_x : (q : ℕ) → q < 2 → (r : ℕ) → r < 2 → (s : ℕ) → s < 2
    → bit_xor (q + 2 * r + 4 * s) 1 ≡ 1 - q + 2 * r + 4 * s
turn_x = sound (below 2 λ q. below 2 λ r. below 2 λ s. same (bit_xor (q + 2 * r + 4 * s) 1) (1 - q + 2 * r + 4 * s))
    refl

turn_y : (q : ℕ) → q < 2 → (r : ℕ) → r < 2 → (s : ℕ) → s < 2
    → bit_xor (q + 2 * r + 4 * s) 2 ≡ q + 2 * (1 - r) + 4 * s
turn_y = sound (below 2 λ q. below 2 λ r. below 2 λ s. same (bit_xor (q + 2 * r + 4 * s) 2) (q + 2 * (1 - r) + 4 * s))
    refl

turn_z : (q : ℕ) → q < 2 → (r : ℕ) → r < 2 → (s : ℕ) → s < 2
    → bit_xor (q + 2 * r + 4 * s) 4 ≡ q + 2 * r + 4 * (1 - s)
turn_z = sound (below 2 λ q. below 2 λ r. below 2 λ s. same (bit_xor (q + 2 * r + 4 * s) 4) (q + 2 * r + 4 * (1 - s)))
    refl

pub other_last : (o k : ℕ) → (k ≡ 1 → ⊥) → (k ≡ 2 → ⊥) → bit_xor o 1 ≡ other_octant o k
other_last o zero f g = refl
other_last o (suc zero) f g = absurd (f refl)
other_last o (suc (suc zero)) f g = absurd (g refl)
other_last o (suc (suc (suc k))) f g = refl

-- of the two sides, the chosen one comes first
first_x_lem : (r : ℕ) → r < 2 → (s : ℕ) → s < 2 → side_at (seat 0 r s 3) < side_at (seat 1 r s 3)
unfolding side_at
first_x_lem = sound (below 2 λ r. below 2 λ s. less (side_at (seat 0 r s 3)) (side_at (seat 1 r s 3))) refl

first_y_lem : (q : ℕ) → q < 2 → (s : ℕ) → s < 2 → side_at (seat q (1 - q) s 1) < side_at (seat q q s 1)
unfolding side_at
first_y_lem = sound (below 2 λ q. below 2 λ s. less (side_at (seat q (1 - q) s 1)) (side_at (seat q q s 1))) refl

first_z_lem : (q : ℕ) → q < 2 → (r : ℕ) → r < 2 → side_at (seat q r r 2) < side_at (seat q r (1 - r) 2)
unfolding side_at
first_z_lem = sound (below 2 λ q. below 2 λ r. less (side_at (seat q r r 2)) (side_at (seat q r (1 - r) 2))) refl

-- ---- a direction and its first seat

module _ (d : Direction) where
  hx : first_x d < 2
  hx = sign_small d.x 0 (omega arith)

  cy : 1 - first_x d < 2
  cy = omega arith

  hy : first_y d < 2
  hy = sign_small d.y (1 - first_x d) cy

  hz : first_z d < 2
  hz = sign_small d.z (first_y d) hy

  abbrev pub octant : ℕ
  octant = first_x d + 2 * first_y d + 4 * first_z d

  pub octant_small : octant < 8
  octant_small = omega (arith, hx, hy, hz)

  -- the other seat is that of other chosen signs, and its side comes after
  record Second (k : ℕ) : Type 0 where
    pub x : ℕ
    pub y : ℕ
    pub z : ℕ
    pub x_small : x < 2
    pub y_small : y < 2
    pub z_small : z < 2
    pub seat_is : 4 * other_octant octant k + k ≡ seat_of d x y z k
    pub after : side_at (4 * octant + k) < side_at (4 * other_octant octant k + k)

  -- where c is 0, either sign of it may be chosen: i in the first seat, j in the other
  second_by :
      (k x y z : ℕ) (c : ℤ) (at : ℕ → ℕ) (i j : ℕ)
      → x < 2
      → y < 2
      → z < 2
      → nat_abs c ≡ 0
      → 4 * octant + k ≡ at (sign_at c i)
      → seat_of d x y z k ≡ at (sign_at c j)
      → 4 * other_octant octant k + k ≡ at j
      → side_at (at i) < side_at (at j)
      → Second k
  second_by k x y z c at i j lx ly lz p h t u l = record {
    x = x;
    y = y;
    z = z;
    x_small = lx;
    y_small = ly;
    z_small = lz;
    seat_is = u ∙ ap at (sym (zero_sign c j p)) ∙ sym t;
    after = rw u (subst (λ (n : ℕ). side_at n < side_at (at j)) (sym (h ∙ ap at (zero_sign c i p))) l);
  }

  second : (k : ℕ) → k < 4 → OnPlane k (nat_abs d.x) (nat_abs d.y) (nat_abs d.z) → Second k
  second zero l p = absurd p
  second (suc zero) l p =
      let e : first_y d ≡ 1 - first_x d = zero_sign d.y (1 - first_x d) p in
      let u : 4 * bit_xor octant 2 + 1 ≡ seat (first_x d) (first_x d) (first_z d) 1 =
      omega (arith, turn_y _ hx _ hy _ hz, e, hx) in
      second_by 1 0 (first_x d) (first_y d) d.y (λ r. seat (first_x d) r (first_z d) 1) (1 - first_x d) (first_x d)
      (omega arith) hx hy p refl refl u (first_y_lem (first_x d) hx (first_z d) hz)
  second (suc (suc zero)) l p =
      let e : first_z d ≡ first_y d = zero_sign d.z (first_y d) p in
      let u : 4 * bit_xor octant 4 + 2 ≡ seat (first_x d) (first_y d) (1 - first_y d) 2 =
      omega (arith, turn_z _ hx _ hy _ hz, e) in
      second_by 2 0 (1 - first_x d) (1 - first_y d) d.z (λ s. seat (first_x d) (first_y d) s 2) (first_y d)
      (1 - first_y d) (omega arith) cy (omega arith) p refl refl u (first_z_lem (first_x d) hx (first_y d) hy)
  second (suc (suc (suc zero))) l p =
      let e : first_x d ≡ 0 = zero_sign d.x 0 p in
      let u : 4 * bit_xor octant 1 + 3 ≡ seat 1 (first_y d) (first_z d) 3 =
      omega (arith, turn_x _ hx _ hy _ hz, e) in
      second_by 3 1 (1 - first_x d) (first_y d) d.x (λ q. seat q (first_y d) (first_z d) 3) 0 1
      (omega arith) cy hy p refl refl u (first_x_lem (first_y d) hy (first_z d) hz)
  second (suc (suc (suc (suc k)))) l p = absurd (omega arith)

  -- ---- the sides that hold it

  module _ (some : IsSome d) (k : ℕ) (hk : k < 4) where
    abbrev a : ℕ
    a = nat_abs d.x

    abbrev b : ℕ
    b = nat_abs d.y

    abbrev c : ℕ
    c = nat_abs d.z

    abbrev here : ℕ
    here = 4 * octant + k

    abbrev there : ℕ
    there = 4 * other_octant octant k + k

    pub here_side : IsSide (side_at here)
    here_side = seat_side d 0 (1 - first_x d) (first_y d) (omega arith) cy hy k hk

    pub there_side : OnPlane k a b c → IsSide (side_at there)
    there_side p = let t = second k hk p in rw t.seat_is (seat_side d t.x t.y t.z t.x_small t.y_small t.z_small k hk)

    -- two roles of the three have numbers of at most 6 together
    ordered : (x y z : ℕ) → x < 2 → y < 2 → z < 2 → first_at (seat_of d x y z k)
        + second_at (seat_of d x y z k) ≤ 6
    ordered x y z lx ly lz =
        omega (arith, (seat_first d x y z lx ly lz k hk).1, (seat_second d x y z lx ly lz k hk).1)

    pub here_order : first_at here + second_at here ≤ 6
    here_order = ordered 0 (1 - first_x d) (first_y d) (omega arith) cy hy

    pub there_order : OnPlane k a b c → first_at there + second_at there ≤ 6
    there_order o = let t = second k hk o in rw t.seat_is (ordered t.x t.y t.z t.x_small t.y_small
        t.z_small)

    pub there_small : OnPlane k a b c → other_octant octant k < 8
    there_small o =
        let t = second k hk o in
        let e = t.seat_is in
        omega (
          arith,
          e,
          sign_small d.x t.x t.x_small,
          sign_small d.y t.y t.y_small,
          sign_small d.z t.z t.z_small,
        )

    off_edge : (OnPlane k a b c → ⊥) → (i : ℕ) → OneToThree i → value d (side_at here) i ≡ whole (pos 0)
        → ⊥
    off_edge f i hi e = f (zero_role a b c some k (role_at here i) role_small (sym (value_role d 0 (1 - first_x d)
        (first_y d) (omega arith) cy hy k hk i hi) ∙ e))
      where
        role_small : OneToThree (role_at here i)
        role_small = each-of-three (λ i. OneToThree (role_at here i))
            (seat_first d 0 (1 - first_x d) (first_y d) (omega arith) cy hy k hk)
            (seat_second d 0 (1 - first_x d) (first_y d) (omega arith) cy hy k hk)
            (seat_third d 0 (1 - first_x d) (first_y d) (omega arith) cy hy k hk)
            i hi

    module _ (p : ℕ) (z : 0 < p) (F : Floors) (G : Gaps) (i : Stands p F G (roles_of k a b c)) where
      pub here_stands : Stands p (floors_at here F) (gaps_at here G) (side_dets d (side_at here))
      here_stands = seat_stands d 0 (1 - first_x d) (first_y d) (omega arith) cy hy k hk p F G i

      here_holds : SideHolds d (side_at here)
      here_holds = stands_holds p _ _ _ here_stands z

      pub there_stands : OnPlane k a b c → Stands p (floors_at there F) (gaps_at there G) (side_dets d (side_at there))
      there_stands o =
          let t = second k hk o in
          rw t.seat_is (seat_stands d t.x t.y t.z t.x_small t.y_small t.z_small k hk p F G i)

      there_holds : OnPlane k a b c → SideHolds d (side_at there)
      there_holds o = stands_holds p _ _ _ (there_stands o) z

      alone : (OnPlane k a b c → ⊥) → (t : ℕ) → IsSide t → SideHolds d t → side_at here ≡ t
      alone f = only_here d some (side_at here) here_side here_holds (off_edge f)

      two : (o : OnPlane k a b c) → (t : ℕ) → IsSide t → SideHolds d t
          → (side_at here ≡ t) ⊎ (side_at there ≡ t)
      two o = only_two d some (side_at here) here_side here_holds (side_at there) (there_side o) (there_holds o) (λ
          e. omega (arith, (second k hk o).after))

      pub here_least : side_at here ≡ least_from d 4
      here_least = least_here d some (side_at here) here_side here_holds
          (λ t ht h. ⊎_elim
          (λ o. ⊎_elim (λ e. omega arith) (λ e. omega (arith, (second k hk o).after)) (two o t ht h))
          (λ f. let e = alone f t ht h in omega arith)
          (on_plane_or_not k a b c))

      pub words_here : (n : ℕ) → (OnPlane k a b c → ⊥) → all_words d n 4 ≡ side_words d n (side_at here)
      words_here n f = one_side d n (side_at here) here_side (alone f)

      pub words_both : (n : ℕ) → OnPlane k a b c → all_words d n 4 ≡ side_words d n (side_at here) ++ side_words d n
          (side_at there)
      words_both n o = both_sides d n (side_at here) here_side (side_at there) (there_side o) (second k hk o).after
          (two o)
