-- How many parts an answer of many places still has at most, by what is still to be shown of it. Assumes nothing.
use Rattle.std.proofs.Common.{ℕ, ◌+◌, ◌<◌, Option, Some, None, IfSome}
use native.Mathlib.Omega.{arith}
use Rattle.tablecalls.specs.declared.held.Rest.{Rest}

abbrev pub parts : Option Rest → ℕ
parts None = 0
parts (Some r) = r.count + 1

pub fewer : (r : Option Rest) (n : ℕ) → IfSome r (λ left. left.count < n) → parts r < n + 1
fewer None n h = omega arith
fewer (Some r) n h = omega (arith, h)
