-- `shares::descent::descend` meets its contract; the measure is the degree that remains. Assumes nothing.
use native.Mathlib.Omega.{arith}
use Prim.Native.Nat.{ℕ, ◌/◌, ◌<◌}
use Rattle.filing.proofs.Descents.{path_down, path_fits}
use Rattle.shares.specs.Means.Shares.{floors, gaps}
use Rattle.shares.proofs.LeastSteps.{AtMost, child_small, digit_small, path_0, path_more}
use Rattle.shares.proofs.descent.+descend.Goals as goal
use Rattle.shares.proofs.descent.+descend.Lts-descend as lts
use Rattle.shares.proofs.descent.descend.Reads as descend
use Rattle.shares.proofs.descent.least_child.Reads as least_child_reads

abbrev calls : ℕ → lts.Claims
calls t = (
  least_child_reads.Asked,
  least_child_reads.Learnt,
  goal.descend-below t,
  descend.Post,
)

pub returns-then-n-eq0 : goal.returns-then-n-eq0
returns-then-n-eq0 t c = path_0 _ _ _ _ _ c.if-n-eq0.true

pub least_child-c-requires : goal.least_child-c-requires
least_child-c-requires t c =
    let p = c.requires in
    (p.2, p.3, p.4, p.5, p.6, p.7)

pub overflow_mul-v : goal.overflow_mul-v
overflow_mul-v t c =
    record { fits = omega (arith, path_fits c.args.n c.args.v c.if-n-eq0.false c.requires.8) }

abbrev Least : ℕ → Type 0
Least t = lts.After-least_child (calls t) (goal.descend-at t) descend.Post (goal.the-clauses-descend t)

small_digit : (t : ℕ) (c : Least t) → c.least_child-c.result.digit < 4
small_digit t c =
    let a = c.args in
    rw c.least_child-c.ensures.0
    (digit_small (a.p / 2) (floors a.f1 a.f2 a.f3) (gaps a.g1 a.g2 a.g3))

pub overflow_add-v : goal.overflow_add-v
overflow_add-v t c =
    let l = path_fits c.args.n c.args.v c.if-n-eq0.false c.requires.8 in
    record { fits = omega (arith, l, small_digit t c.before) }

pub descend-requires : goal.descend-requires
descend-requires t c =
    let a = c.args in
    let p = c.requires in
    let l = c.if-n-eq0.false in
    let r = c.least_child-c.result in
    let e = c.least_child-c.ensures in
    let F = floors a.f1 a.f2 a.f3 in
    let G = gaps a.g1 a.g2 a.g3 in
    let k : AtMost 16777216 r.floors =
    rw e.1 (child_small (a.p / 2) F G 16777216 r.digit (omega (arith, p.1)) (p.2, p.3, p.4)) in (
      omega arith,
      (
        omega arith,
        omega (arith, p.1),
        k.0,
        k.1,
        k.2,
        p.5,
        p.6,
        p.7,
        path_down a.n a.v r.digit l p.0 (small_digit t c.before) p.8,
      ),
    )

pub returns : goal.returns
returns t c =
    let a = c.args in
    let k = c.least_child-c in
    let F = floors a.f1 a.f2 a.f3 in
    let G = gaps a.g1 a.g2 a.g3 in
    path_more a.n a.p F k.result.floors G a.v k.result.digit _
    c.if-n-eq0.false
    k.ensures
    c.descend.ensures
