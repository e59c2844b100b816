-- `golden::is_clear` meets its contract: what is left of m times the fraction, by what is left of m. Assumes nothing.
use mathlib.Core.Path.{◌≡◌, sym, ◌∙◌, ap}
use Prim.Native.Nat.{ℕ, ◌+◌, ◌*◌, ◌/◌, ◌%◌}
use native.Mathlib.Nat.{mul-add-mod_self_right}
use native.Mathlib.Omega.{arith}
use borrow.Author.Tests.{leb-true, leb-false}
use Rattle.golden.proofs.Multiples.{top, bottom, half}
use Rattle.golden.proofs.is_clear.Goals as goal

rest_is : (m : ℕ) → (m % bottom * top + half) % bottom ≡ (m * top + half) % bottom
rest_is m =
    let rest = m % bottom * top + half in
    let parts : m * top + half ≡ m / bottom * top * bottom + rest = omega arith in
    sym (ap (λ (x : ℕ). x % bottom) parts ∙ mul-add-mod_self_right (m / bottom * top) bottom rest)

pub returns : goal.returns
returns c =
    let rest = (c.args.m % bottom * top + half) % bottom in
    let same = rest_is c.args.m in
    record {
      holds = λ e. omega (arith, same, leb-true (rest + 2048) bottom e);
      fails = λ e h. omega (arith, same, leb-false (rest + 2048) bottom e);
    }
