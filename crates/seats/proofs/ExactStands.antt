-- Where a direction stands exactly: its shares in the roles of the kind that holds it. Assumes nothing.
use mathlib.Core.Path.{◌≡◌, refl, sym, subst}
use mathlib.Core.List.{[], ◌∷◌}
use Prim.Native.Nat.{ℕ, suc, ◌+◌, ◌-◌, ◌≤◌, ◌<◌}
use native.Mathlib.Omega.{arith}
use lib.IntN.{nat_abs}
use Rattle.golden.specs.Numbers.{negφ}
use Rattle.golden.specs.Order.{NonNeg}
use Rattle.golden.specs.declared.Golden.{Golden}
use Rattle.golden.proofs.Polynomials.{var, ◌⊕◌, ◌⊝◌, ◌⊗◌, ⊖}
use Rattle.golden.proofs.RingSolver.{solve}
use Rattle.golden.proofs.GoldenRing.{φ_ring}
use Rattle.golden.proofs.GoldenOrder.{nonneg_by, add_nonneg}
use Rattle.filing.specs.Holding.{three}
use Rattle.filing.specs.Means.Descent.{total}
use Rattle.filing.specs.declared.Determinants.{Determinants}
use Rattle.filing.specs.declared.Direction.{Direction}
use Rattle.shares.specs.Means.Shares.{Share, Stands, floors, gaps, scaled_by}
use Rattle.shares.proofs.ShareLaws.{times_nonneg}
use Rattle.shares.proofs.Standing.{stands_unscaled}
use Rattle.seats.specs.declared.dividing.Divided.{Divided}
use Rattle.seats.specs.declared.dividing.Quotient.{Quotient}
use Rattle.seats.specs.declared.placing.Roles.{Roles}
use Rattle.seats.specs.declared.placing.Sizes.{Sizes}
use Rattle.seats.specs.Means.Near.{Near, Division, Divides}
use Rattle.seats.specs.Means.Octants.{roles_of}
use Rattle.seats.specs.Means.Roles.{AreScaled, AreHeld, Measured}
use Rattle.seats.specs.Means.Finding.{IsSome}
use Rattle.seats.proofs.WholeNumbers.{w, w_order}
use Rattle.seats.proofs.Margins.{near_total}
use Rattle.seats.proofs.Seating.{role_scaled, roles_large}

module _ (d : Direction) (some : IsSome d) (n : Sizes) (s : AreScaled (nat_abs d.x) (nat_abs d.y) (nat_abs d.z)
    n) (r : Roles) (h : AreHeld n.a n.b n.c r) (q : Divided)
    (e : q.sum ≡ r.r1 + r.r2 + r.r3) (v : Divides r.r1 r.r2 q) where
  abbrev D : Determinants
  D = roles_of r.kind n.a n.b n.c

  near_sum : Near 12 (total D) q.sum
  near_sum = rw e (near_total D r.r1 r.r2 r.r3 (record {
    near1 = h.roles.near1;
    near2 = h.roles.near2;
    near3 = h.roles.near3;
  }))

  small : q.sum < 4503599627370496
  small = rw e h.roles.small

  large : 17179869184 ≤ q.sum
  large = rw e (roles_large d some n s r h.roles)

  third_is : r.r3 ≡ q.sum - r.r1 - r.r2
  third_is = omega (arith, e)

  measured :
      (x : Golden) (number : ℕ) (p : Quotient)
      → NonNeg x
      → Near 4 x number
      → Division q.sum number p
      → number ≤ q.sum
      → Measured x (total D) p q.sum
  measured x number p some near divided fits = record {
    some = some;
    number = number;
    near = near;
    near_sum = near_sum;
    divided = divided;
    fits = fits;
    small = small;
    large = omega (arith, large);
  }

  pub all_measured :
      Measured D.d1 (total D) q.q1 q.sum
      × Measured D.d2 (total D) q.q2 q.sum
      × Measured D.d3 (total D) q.q3 q.sum
  all_measured = (
    measured D.d1 r.r1 q.q1 h.n1 h.roles.near1 v.e1 (omega (arith, e)),
    measured D.d2 r.r2 q.q2 h.n2 h.roles.near2 v.e2 (omega (arith, e)),
    measured D.d3 _ q.q3 h.n3 (subst (Near 4 D.d3) third_is h.roles.near3) v.e3 (omega arith),
  )

  -- the sum is above 0: the number near to it is
  more : NonNeg (negφ (total D)) → ⊥
  more t =
      let l : q.sum ≤ 12 = w_order 12 q.sum (nonneg_by
      (solve φ_ring (w 524288 ∷ total D ∷ w 12 ∷ w q.sum ∷ [])
      ((var 0 ⊗ var 1 ⊕ var 2 ⊝ var 3) ⊕ var 0 ⊗ ⊖ (var
      1)) (var 2 ⊝ var 3) refl)
      (add_nonneg _ _ near_sum.low (times_nonneg 524288 _ t))) in
      omega (arith, large)

  roles_scaled : D ≡ scaled_by (suc s.scale) (roles_of r.kind (nat_abs d.x) (nat_abs d.y) (nat_abs d.z))
  roles_scaled =
      let role = role_scaled _ _ _ n s r.kind in
      sym λ i. three (role 1 i) (role 2 i) (role 3 i)

  pub stands_exactly :
      (f1 f2 f3 g1 g2 g3 : ℕ)
      → Share 16777216 f1 g1 (total D) D.d1
      → Share 16777216 f2 g2 (total D) D.d2
      → Share 16777216 f3 g3 (total D) D.d3
      → Stands 16777216 (floors f1 f2 f3) (gaps g1 g2 g3) (roles_of r.kind (nat_abs d.x) (nat_abs d.y) (nat_abs
      d.z))
  stands_exactly f1 f2 f3 g1 g2 g3 s1 s2 s3 =
      stands_unscaled s.scale 16777216 (floors f1 f2 f3) (gaps g1 g2 g3) (roles_of r.kind (nat_abs d.x)
      (nat_abs d.y) (nat_abs d.z))
      (subst (Stands 16777216 (floors f1 f2 f3) (gaps g1 g2 g3)) roles_scaled
      (record {
        some = add_nonneg _ _ (add_nonneg _ _ h.n1 h.n2) h.n3;
        more = more;
        s1 = s1;
        s2 = s2;
        s3 =
            s3;
      }))
