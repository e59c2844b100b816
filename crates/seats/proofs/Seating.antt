-- A direction in the seat of its signs: numbers near to the roles are near to the determinants of the side. Assumes
-- nothing.
use mathlib.Core.Path.{◌≡◌, sym, ◌∙◌, subst}
use Prim.Native.Nat.{ℕ, suc, ◌+◌, ◌-◌, ◌≤◌}
use native.Mathlib.Omega.{arith}
use lib.IntN.{nat_abs}
use Rattle.golden.specs.declared.Golden.{Golden}
use Rattle.net.specs.Sides.{nth, OneToThree}
use Rattle.net.proofs.Table.{three as each-of-three}
use Rattle.filing.specs.Means.Sides.{side_dets}
use Rattle.filing.specs.declared.Direction.{Direction}
use Rattle.shares.specs.Means.Shares.{times, scaled_by}
use Rattle.seats.specs.declared.placing.Roles.{Roles}
use Rattle.seats.specs.declared.placing.Sizes.{Sizes}
use Rattle.seats.specs.Means.Near.{Near, AllNear}
use Rattle.seats.specs.Means.Octants.{role_of, seat_of, side_at, first_at, second_at, third_at}
use Rattle.seats.specs.Means.Roles.{AreScaled, AreRoles, IsSeated, seated_at}
use Rattle.seats.specs.Means.Finding.{IsSome}
use Rattle.seats.proofs.SeatPlanes.{role_times, seat_side, seat_first, seat_second, seat_apart, seat_dets}
use Rattle.seats.proofs.SeatShares.{orders, seat_third}

-- three numbers in another order have the same sum
same_sum : (x y z i : ℕ) → OneToThree i → (j : ℕ) → OneToThree j → (i ≡ j → ⊥)
    → nth i x y z + nth j x y z + nth (6 - i - j) x y z ≡ x + y + z
same_sum x y z = orders (λ i j k. nth i x y z + nth j x y z + nth k x y z ≡ x + y + z)
    (omega arith) (omega arith) (omega arith) (omega arith) (omega arith) (omega arith)

-- the roles of sizes some times as large
pub role_scaled :
    (a b c : ℕ) (n : Sizes) (s : AreScaled a b c n) (k j : ℕ)
    → times (suc s.scale) (role_of k j a b c) ≡ role_of k j n.a n.b n.c
role_scaled a b c n s k j =
    role_times (suc s.scale) a b c k j ∙ λ i. role_of k j (sym s.a_is i) (sym s.b_is i) (sym s.c_is i)

module _ (d : Direction) (some : IsSome d) (n : Sizes) (s : AreScaled (nat_abs d.x) (nat_abs d.y) (nat_abs d.z)
    n) (r : Roles) (h : AreRoles n.a n.b n.c r) where
  abbrev k : ℕ
  k = r.kind

  abbrev here : ℕ
  here = seat_of d 0 0 0 k

  abbrev at : ℕ → ℕ
  at j = nth j r.r1 r.r2 r.r3

  i1 : OneToThree (first_at here)
  i1 = seat_first d 0 0 0 (omega arith) (omega arith) (omega arith) k h.kind_small

  i2 : OneToThree (second_at here)
  i2 = seat_second d 0 0 0 (omega arith) (omega arith) (omega arith) k h.kind_small

  sum_is : at (first_at here) + at (second_at here) + at (third_at here) ≡ r.r1 + r.r2 + r.r3
  sum_is = same_sum r.r1 r.r2 r.r3 (first_at here) i1 (second_at here) i2 (seat_apart d 0 0 0 (omega arith)
      (omega arith) (omega arith) k h.kind_small)

  near_at : (j : ℕ) → OneToThree j → Near 4 (times (suc s.scale) (role_of k j (nat_abs d.x) (nat_abs d.y)
      (nat_abs d.z))) (at j)
  near_at j hj =
      subst (λ (x : Golden). Near 4 x (at j)) (sym (role_scaled _ _ _ n s k j))
      (each-of-three (λ j. Near 4 (role_of k j n.a n.b n.c) (at j)) h.near1 h.near2 h.near3 j hj)

  all_near : AllNear (scaled_by (suc s.scale) (side_dets d (side_at here))) (at (first_at here)) (at (second_at here))
      (at (third_at here))
  all_near = rw (seat_dets d 0 0 0 (omega arith) (omega arith) (omega arith) k h.kind_small) record {
    near1 = near_at (first_at here) i1;
    near2 = near_at (second_at here) i2;
    near3 = near_at (third_at here) (seat_third d 0 0 0 (omega arith) (omega arith) (omega arith) k h.kind_small);
  }

  pub roles_large : 17179869184 ≤ r.r1 + r.r2 + r.r3
  roles_large = omega (arith, h.large, s.large some)

  pub seated : IsSeated d (seated_at here r.r1 r.r2 r.r3)
  seated =
      let e : at (third_at here) ≡ r.r1 + r.r2 + r.r3 - at (first_at here) - at (second_at here) = omega (
        arith,
        sum_is,
      ) in
      record {
        scale = s.scale;
        side_is = seat_side d 0 0 0 (omega arith) (omega arith) (omega arith) k h.kind_small;
        fits = omega (arith, sum_is);
        near = subst (λ (x : ℕ). AllNear (scaled_by (suc s.scale) (side_dets d (side_at here))) (at (first_at here))
            (at (second_at here)) x) e all_near;
        small = h.small;
        some = omega (arith, roles_large);
      }
