-- The bounds of specs/Examples.antt. Assumes nothing.
use mathlib.Core.Path.{◌≡◌, sym, subst}
use Prim.Native.Nat.{ℕ, ◌≤◌}
use native.Mathlib.Omega.{arith}
use Rattle.tables.specs.Tables.{places}
use Rattle.tablecalls.specs.Examples.{Bounds}

pub bounds : Bounds
bounds = record {
  held = λ h a b c d. (omega (arith, a), omega (arith, b), omega (arith, c), omega (arith, d));
  held_readings = λ h e r. omega (arith, e, r.0);
  held_owners = λ h e r. omega (arith, e, r.1);
  held_counts = λ h e r. omega (arith, e, r.2);
  held_sums = λ h e r. omega (arith, e, r.3);
  rest = λ r e c.
      let full : 81920 ≤ places 6 = omega arith in
      (omega (arith, e), subst (λ (n : ℕ). r.count ≤ places n) (sym e) (omega (arith, c, full)));
  rest_degree = λ r e t. omega (arith, e, t.0);
  rest_count = λ r e c t.
      let few : r.count ≤ 20 = subst (λ (n : ℕ). r.count ≤ places n) e t.1 in
      omega (arith, c, few);
  table = λ n l e r. omega (arith, e, r);
  owners = λ l e r. omega (arith, e, r);
  counts = λ l e r. omega (arith, e, r);
  sums = λ l e r. omega (arith, e, r);
}
