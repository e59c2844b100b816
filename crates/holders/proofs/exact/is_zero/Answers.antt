-- `holders::exact::is_zero` meets its contract. Assumes nothing.
use mathlib.Core.Path.{◌≡◌, ◌∙◌, ap}
use Prim.Native.Nat.{ℕ, ◌+◌, ◌<◌, ◌^◌}
use native.Mathlib.Omega.{arith}
use lib.IntN.{ℤ, nat_abs}
use borrow.Author.Tests.{eqb-true, eqb-false}
use Rattle.golden.specs.declared.Golden.{Golden}
use Rattle.golden.proofs.Machine.{again, again_is}
use Rattle.seats.proofs.ExactParts.{both_zero}
use Rattle.holders.proofs.exact.is_zero.Goals as goal
use Rattle.holders.proofs.exact.is_zero.Lts as lts
use Rattle.holders.proofs.exact.is_zero.Reads as reads
use Rattle.holders.proofs.exact.is_zero.Tie as tie

abbrev After-magnitude-2 : Type 0
After-magnitude-2 = lts.After-magnitude2 tie.the-claims reads.Pre reads.Post

asked : (x : ℤ) → nat_abs x < 2 ^ 57 → nat_abs (again x) < 2 ^ 60
asked x h = rw (again_is x (omega arith)) (omega arith)

size : (x : ℤ) {n : ℕ} → nat_abs x < 2 ^ 57 → n ≡ nat_abs (again x) → n ≡ nat_abs x
size x h e = e ∙ ap nat_abs (again_is x (omega arith))

pub magnitude-requires : goal.magnitude-requires
magnitude-requires c = asked c.args.x.u c.requires.u_below

pub magnitude-requires-2 : goal.magnitude-requires-2
magnitude-requires-2 c = asked c.args.x.v c.requires.v_below

first :
    (c : After-magnitude-2)
    → c.magnitude.result ≡ nat_abs c.args.x.u
first c =
    size c.args.x.u c.requires.u_below c.magnitude.ensures

second : (c : After-magnitude-2) → c.magnitude-2.result ≡ nat_abs c.args.x.v
second c =
    size c.args.x.v c.requires.v_below c.magnitude-2.ensures

pub overflow_add-result : goal.overflow_add-result
overflow_add-result c =
    let p = c.requires in
    record { fits = omega (arith, first c, second c, p.u_below, p.v_below) }

pub returns : goal.returns
returns c =
    let m = c.magnitude.result in
    let n = c.magnitude-2.result in
    record {
      holds = λ e.
          let z : m + n ≡ 0 = eqb-true _ _ e in
          both_zero c.args.x (omega (arith, first c, second c));
      fails = λ e z.
          let u : nat_abs c.args.x.u ≡ 0 = ap (λ (y : Golden). nat_abs y.u) z in
          let v : nat_abs c.args.x.v ≡ 0 = ap (λ (y : Golden). nat_abs y.v) z in
          eqb-false (m + n) 0 e (omega (arith, first c, second c));
    }
