-- The roles by signs, their near numbers divided, and each share made exact (ExactStands). Assumes nothing.
use mathlib.Core.Path.{◌≡◌, ◌∙◌, ap}
use native.Mathlib.Omega.{arith}
use Rattle.golden.specs.Numbers.{◌+φ◌}
use Rattle.golden.specs.declared.Golden.{Golden}
use Rattle.filing.specs.Means.Descent.{total}
use Rattle.seats.specs.Means.Roles.{Measured}
use Rattle.seats.proofs.ExactRoles.{Small, roles_small, small_wide, two_wide, small_bound}
use Rattle.seats.proofs.ExactStands.{all_measured, stands_exactly}
use Rattle.seats.proofs.Seating.{roles_large}
use Rattle.holders.proofs.exact.stand_of.Goals as goal
use Rattle.holders.proofs.exact.stand_of.Lts as lts
use Rattle.holders.proofs.exact.stand_of.Reads as reads
use Rattle.holders.proofs.exact.stand_of.Tie as tie

abbrev After-determinants_of-t : Type 0
After-determinants_of-t = lts.After-determinants_of tie.the-claims reads.Pre reads.Post

abbrev After-add-s : Type 0
After-add-s = lts.After-add2 tie.the-claims reads.Pre reads.Post

pub sizes_of-n-requires : goal.sizes_of-n-requires
sizes_of-n-requires c = c.requires.0

pub times_phi-requires : goal.times_phi-requires
times_phi-requires c = c.sizes_of-n.ensures.a_small

pub times_phi-requires-2 : goal.times_phi-requires-2
times_phi-requires-2 c = c.sizes_of-n.ensures.b_small

pub times_phi-requires-3 : goal.times_phi-requires-3
times_phi-requires-3 c = c.sizes_of-n.ensures.c_small

pub by_signs-r-requires : goal.by_signs-r-requires
by_signs-r-requires c =
    let s = c.sizes_of-n.ensures in (
      s.a_small,
      s.b_small,
      s.c_small,
      c.times_phi.ensures,
      c.times_phi-2.ensures,
      c.times_phi-3.ensures,
    )

pub overflow_add-r : goal.overflow_add-r
overflow_add-r c = let r = c.by_signs-r.ensures.roles in record { fits = omega (arith, r.small) }

pub overflow_add-r-2 : goal.overflow_add-r-2
overflow_add-r-2 c = let r = c.by_signs-r.ensures.roles in record { fits = omega (arith, r.small) }

pub divide_three-q-requires : goal.divide_three-q-requires
divide_three-q-requires c =
    let l = roles_large c.args.d c.requires.1 c.sizes_of-n.result c.sizes_of-n.ensures c.by_signs-r.result c.by_signs-r.ensures.roles in
    (omega arith, omega (arith, l), c.by_signs-r.ensures.roles.small)

pub determinants_of-t-requires : goal.determinants_of-t-requires
determinants_of-t-requires c =
    let s = c.sizes_of-n.ensures in
    (s.a_small, s.b_small, s.c_small)

-- ---- the determinants

small : (c : After-determinants_of-t) → Small c.determinants_of-t.result
small c =
    rw c.determinants_of-t.ensures
    (roles_small c.by_signs-r.result.kind c.sizes_of-n.result.a c.sizes_of-n.result.b c.sizes_of-n.result.c c.sizes_of-n.ensures.a_small c.sizes_of-n.ensures.b_small c.sizes_of-n.ensures.c_small)

pub add-requires : goal.add-requires
add-requires c = let w = small_wide _ (small c.before.before) in (w.0, w.1)

pub add-s-requires : goal.add-s-requires
add-s-requires c = (two_wide _ (small c.before.before.before.before) _ c.add.ensures, (small_wide _ (small c.before.before.before.before)).2)

sum_is : (c : After-add-s) → c.add-s.result ≡ total c.determinants_of-t.result
sum_is c = c.add-s.ensures ∙ ap (λ (x : Golden). x +φ c.determinants_of-t.result.d3) c.add.ensures

-- ---- the shares

measured :
    (c : After-add-s)
    → Measured c.determinants_of-t.result.d1 c.add-s.result c.divide_three-q.result.q1 c.divide_three-q.result.sum
    × Measured c.determinants_of-t.result.d2 c.add-s.result c.divide_three-q.result.q2 c.divide_three-q.result.sum
    × Measured c.determinants_of-t.result.d3 c.add-s.result c.divide_three-q.result.q3 c.divide_three-q.result.sum
measured c =
    let d = c.args.d in
    let some = c.requires.1 in
    let q = c.divide_three-q.result in
    rw (sum_is c, c.determinants_of-t.ensures)
    (all_measured d some c.sizes_of-n.result c.sizes_of-n.ensures c.by_signs-r.result c.by_signs-r.ensures
    q c.divide_three-q.ensures.0 c.divide_three-q.ensures.1)

pub part_of-p1-requires : goal.part_of-p1-requires
part_of-p1-requires c = ((small_bound _ (small c.before.before.before.before.before.before.before) _ (sum_is c.before.before)).b1, (measured c.before.before).0)

pub part_of-p2-requires : goal.part_of-p2-requires
part_of-p2-requires c = (
  (small_bound _ (small c.before.before.before.before.before.before.before.before.before.before) _ (sum_is c.before.before.before.before.before)).b2,
  (measured c.before.before.before.before.before).1,
)

pub part_of-p3-requires : goal.part_of-p3-requires
part_of-p3-requires c = (
  (small_bound _ (small c.before.before.before.before.before.before.before.before.before.before.before.before.before) _ (sum_is c.before.before.before.before.before.before.before.before)
      ).b3,
  (measured c.before.before.before.before.before.before.before.before).2,
)

pub returns : goal.returns
returns c =
    let e = sum_is c.before.before.before.before.before.before.before.before.before.before in
    let f = c.determinants_of-t.ensures in
    record {
      octant_is = c.first_octant.ensures;
      kind_small = c.by_signs-r.ensures.roles.kind_small;
      stands = stands_exactly c.args.d c.requires.1 c.sizes_of-n.result c.sizes_of-n.ensures
          c.by_signs-r.result c.by_signs-r.ensures
          c.divide_three-q.result c.divide_three-q.ensures.0 c.divide_three-q.ensures.1 _ _ _ _ _ _
          (rw (e, f) at c.part_of-p1.ensures) (rw (e, f) at c.part_of-p2.ensures) (rw (e, f) at c.part_of-p3.ensures);
    }
