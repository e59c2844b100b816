-- `golden::nearest_multiple` meets its contract: by the fraction where m is clear, and else by the sign of what is
-- over. Assumes nothing.
use mathlib.Core.Path.{◌≡◌, sym, ◌∙◌, ap, subst}
use Prim.Native.Nat.{ℕ, ◌+◌, ◌*◌, ◌<◌, ◌≤◌, ◌^◌}
use native.Mathlib.Omega.{arith}
use lib.IntN.{ℤ, pos, neg_ℤ, ◌+ℤ◌, ◌-ℤ◌, +ℤ_idl}
use Rattle.golden.specs.Decisions.{Decides}
use Rattle.golden.specs.declared.Golden.{Golden}
use Rattle.golden.specs.Numbers.{Below, golden}
use Rattle.golden.specs.Order.{NonNeg}
use Rattle.golden.proofs.Magnitudes.{abs_neg}
use Rattle.golden.proofs.Machine.{again, again_of}
use Rattle.golden.proofs.GoldenRing.{φ_path}
use Rattle.golden.proofs.Multiples.{beyond, beyond_next, clear_nearest, not_beyond}
use Rattle.golden.proofs.nearest_multiple.Goals as goal
use Rattle.golden.proofs.nearest_multiple.Goals.{After-signed-2, After-times_fraction-q}

-- what the code holds in q
module _ (c : After-times_fraction-q) where
  abbrev m : ℕ
  m = c.args.m

  abbrev q : ℕ
  q = c.times_fraction-q.result

  m_small : m ≤ 2 ^ 42
  m_small = c.requires

  q_small : q < 2 ^ 43
  q_small = omega (arith, m_small, c.times_fraction-q.ensures)

pub returns-then-is_clear : goal.returns-then-is_clear
returns-then-is_clear c =
    let a = (goal.at.returns-then-is_clear c).After-times_fraction-q in
    clear_nearest (m a) (q a) (m_small a) c.times_fraction-q.ensures (c.is_clear.ensures.holds c.if-is_clear.true)

pub overflow_mul-q : goal.overflow_mul-q
overflow_mul-q c = omega (arith, q_small (goal.at.overflow_mul-q c).After-times_fraction-q)

pub overflow_add-q : goal.overflow_add-q
overflow_add-q c = omega (arith, q_small (goal.at.overflow_add-q c).After-times_fraction-q)

pub signed-requires : goal.signed-requires
signed-requires c = omega (arith, q_small (goal.at.signed-requires c).After-times_fraction-q)

pub overflow_mul-m : goal.overflow_mul-m
overflow_mul-m c = omega (arith, c.requires)

pub signed-requires-2 : goal.signed-requires-2
signed-requires-2 c = omega (arith, c.requires)

-- the parts of what is over, as the machine reads them back
over_is : (c : After-signed-2) →
    golden (again (pos 0 -ℤ again c.signed.result)) (again c.signed-2.result) ≡ beyond c.args.m c.times_fraction-q.result
over_is c =
    let q = c.times_fraction-q.result in
    let q_small : q < 2 ^ 43 = omega (arith, c.requires, c.times_fraction-q.ensures) in
    let n = neg_ℤ (pos (2 * q + 1)) in
    let e : pos 0 -ℤ again c.signed.result ≡ pos 0 +ℤ n =
    ap (λ (z : ℤ). pos 0 -ℤ z) (again_of c.signed.ensures (omega (arith, q_small))) in
    φ_path (again_of (e ∙ +ℤ_idl n) (omega (arith, q_small, abs_neg (pos (2 * q + 1)))))
    (again_of c.signed-2.ensures (omega (arith, c.requires)))

pub at_least_zero-requires : goal.at_least_zero-requires
at_least_zero-requires c =
    let x = goal.at.at_least_zero-requires c in
    let a = x.After-times_fraction-q in
    subst (λ (x : Golden). Below (2 ^ 57) x) (sym (over_is x.After-signed-2)) (record {
      u_below = omega (arith, q_small a, abs_neg (pos (2 * q a + 1)));
      v_below = omega (arith, m_small a);
    })

pub overflow_add-result : goal.overflow_add-result
overflow_add-result c = omega (arith, q_small (goal.at.overflow_add-result c).After-times_fraction-q)

pub returns-then-at_least_zero : goal.returns-then-at_least_zero
returns-then-at_least_zero c =
    let x = goal.at.returns-then-at_least_zero c in
    let test = subst (λ (y : Golden). Decides c.at_least_zero.result (NonNeg y)) (over_is x.After-signed-2) c.at_least_zero.ensures in
    beyond_next c.args.m c.times_fraction-q.result c.requires c.times_fraction-q.ensures (test.holds c.if-at_least_zero.true)

pub returns : goal.returns
returns c =
    let x = goal.at.returns c in
    let test = subst (λ (y : Golden). Decides c.at_least_zero.result (NonNeg y)) (over_is x.After-signed-2) c.at_least_zero.ensures in
    not_beyond c.args.m c.times_fraction-q.result c.requires c.times_fraction-q.ensures (test.fails c.if-at_least_zero.false)
