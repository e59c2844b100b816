-- A power of four (CodeCount). Assumes nothing.
use mathlib.Core.Path.{sym, ◌∙◌, ap}
use Prim.Native.Nat.{ℕ, ◌*◌, ◌^◌, ◌≤◌}
use native.Mathlib.Omega.{arith}
use lib.Pow.{pow_mono}
use Rattle.words.proofs.CodeCount.{four_pow}
use Rattle.ordering.proofs.codes_of.Goals as goal

pub overflow_mul-result : goal.overflow_mul-result
overflow_mul-result c =
    let n = c.args.n in
    let h : 2 ^ (2 * n) ≤ 2 ^ 48 = pow_mono {i = 2 * n} {j = 48} (omega arith) in
    omega (arith, h)

pub returns : goal.returns
returns c = ap (λ (k : ℕ). 20 * k) (c.power.ensures ∙ sym (four_pow c.args.n))
