-- The side, the degree and the tail, moved up (SmallWords). Assumes nothing.
-- the sum is the large word, which has 64 bits
use mathlib.Core.Path.{◌≡◌, ◌∙◌, ap}
use Prim.Native.Nat.{ℕ, ◌+◌, ◌*◌, ◌/◌, ◌%◌, ◌^◌, ◌<◌}
use native.Mathlib.Omega.{arith}
use Rattle.words.proofs.Codes.{code_below}
use Rattle.harbour.specs.Small.{small_code, large_of}
use Rattle.harbour.proofs.SmallWords.{large_code, large_number}
use Rattle.harbour.proofs.large_word.Goals as goal
use Rattle.harbour.proofs.large_word.Lts as lts
use Rattle.harbour.proofs.large_word.Reads as reads
use Rattle.harbour.proofs.large_word.Tie as tie

abbrev After-degree_in : Type 0
After-degree_in = lts.After-degree_in tie.the-claims reads.Pre reads.Post

abbrev Start : Type 0
Start = lts.Start tie.the-claims reads.Pre reads.Post

fits : (c : Start) → (large_of (small_code c.args.w)).0 < 2 ^ 64
fits c = code_below (large_code (small_code c.args.w) c.requires)

total : (c : After-degree_in) → let w = c.args.w in
    w / 134217728 * 576460752303423488 + c.degree_in.result * 18014398509481984 + w % 8388608 * 2147483648
    ≡ (large_of (small_code w)).0
total c =
    let w = c.args.w in
    ap (λ (n : ℕ). w / 134217728 * 576460752303423488 + n * 18014398509481984 + w % 8388608 * 2147483648)
    c.degree_in.ensures
    ∙ large_number (small_code w) c.requires

pub overflow_mul-result : goal.overflow_mul-result
overflow_mul-result c = omega (arith, fits c, large_number (small_code c.args.w) c.requires)

pub overflow_add-result : goal.overflow_add-result
overflow_add-result c = omega (arith, total c, fits c.before)

pub overflow_add-result-2 : goal.overflow_add-result-2
overflow_add-result-2 c = omega (arith, total c, fits c.before)

pub returns : goal.returns
returns c = total c
