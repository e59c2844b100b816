-- `golden::Golden::nearest` meets its contract: u and the number nearest to |v|φ, with the sign of v. Assumes nothing.
use mathlib.Core.Path.{◌≡◌, sym}
use Prim.Native.Nat.{ℕ, ◌≤◌, ◌<◌, ◌^◌}
use native.Mathlib.Omega.{arith}
use lib.IntN.{pos, neg_ℤ, nat_abs, ◌+ℤ◌}
use Rattle.golden.specs.declared.Golden.{Golden}
use Rattle.golden.specs.Numbers.{golden}
use Rattle.golden.specs.Drawing.{IsNearest}
use Rattle.golden.proofs.Magnitudes.{abs_add, abs_neg}
use Rattle.golden.proofs.Machine.{again, again_is, again_of, below, fits, not_below, size_is}
use Rattle.golden.proofs.Nearest.{nearest_down, nearest_small, nearest_up}
use Rattle.golden.proofs.Golden.nearest.Goals as goal
use Rattle.golden.proofs.Golden.nearest.Goals.{After-signed-n}

pub magnitude-requires : goal.magnitude-requires
magnitude-requires c = rw (again_is c.args.self.v (omega arith)) (omega arith)

pub nearest_multiple-requires : goal.nearest_multiple-requires
nearest_multiple-requires c = rw (size_is c.args.self.v (omega arith) c.magnitude.ensures) (omega arith)

pub signed-n-requires : goal.signed-n-requires
signed-n-requires c =
    omega (arith, nearest_small c.nearest_multiple.ensures, size_is c.args.self.v (omega arith) c.magnitude.ensures)

-- what the code holds in n, and x
module _ (c : After-signed-n) where
  abbrev x : Golden
  x = c.args.self

  abbrev n : ℕ
  n = c.nearest_multiple.result

  m-is : c.magnitude.result ≡ nat_abs x.v
  m-is = size_is x.v (omega arith) c.magnitude.ensures

  -- the number nearest to |v|φ is not large
  n_small : n ≤ 2 ^ 43
  n_small = omega (arith, nearest_small c.nearest_multiple.ensures, m-is)

  n_is : again c.signed-n.result ≡ pos n
  n_is = again_of c.signed-n.ensures (omega (arith, n_small))

  near : IsNearest (golden (pos 0) (pos (nat_abs x.v))) (pos n)
  near = rw (sym m-is) c.nearest_multiple.ensures

  down_small : nat_abs (x.u +ℤ neg_ℤ (pos n)) < 2 ^ 63
  down_small = omega (arith, n_small, abs_add x.u (neg_ℤ (pos n)), abs_neg (pos n))

  up_small : nat_abs (x.u +ℤ pos n) < 2 ^ 63
  up_small = omega (arith, n_small, abs_add x.u (pos n))

pub overflow_sub-result : goal.overflow_sub-result
overflow_sub-result c =
    let b = (goal.at.overflow_sub-result c).After-signed-n in
    rw (again_is (x b).u (omega arith), n_is b) (fits _ (down_small b))

pub returns-then-self-lt0 : goal.returns-then-self-lt0
returns-then-self-lt0 c =
    let b = (goal.at.returns-then-self-lt0 c).After-signed-n in
    rw (again_is (x b).u (omega arith), n_is b, again_is _ (down_small b))
    (nearest_down (x b) (near b) (below (x b).v (omega arith) c.if-self-lt0.true))

pub overflow_add-result : goal.overflow_add-result
overflow_add-result c =
    let b = (goal.at.overflow_add-result c).After-signed-n in
    rw (again_is (x b).u (omega arith), n_is b) (fits _ (up_small b))

pub returns-else-self-lt0 : goal.returns-else-self-lt0
returns-else-self-lt0 c =
    let b = (goal.at.returns-else-self-lt0 c).After-signed-n in
    rw (again_is (x b).u (omega arith), n_is b, again_is _ (up_small b))
    (nearest_up (x b) (near b) (not_below (x b).v (omega arith) c.if-self-lt0.false))
