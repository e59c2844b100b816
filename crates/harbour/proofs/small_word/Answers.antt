-- The side, the degree and the tail, moved down (SmallWords). Assumes nothing.
use mathlib.Core.Path.{◌≡◌, ◌∙◌}
use Prim.Native.Nat.{◌+◌, ◌*◌, ◌/◌, ◌%◌}
use native.Mathlib.Omega.{arith}
use Rattle.words.specs.Family.{code_of}
use Rattle.harbour.specs.Small.{small_of}
use Rattle.harbour.proofs.SmallWords.{small_fits, small_number}
use Rattle.harbour.proofs.small_word.Goals as goal
use Rattle.harbour.proofs.small_word.Lts as lts
use Rattle.harbour.proofs.small_word.Reads as reads
use Rattle.harbour.proofs.small_word.Tie as tie

abbrev After-degree_of-n : Type 0
After-degree_of-n = lts.After-degree_of tie.the-claims reads.Pre reads.Post

total : (c : After-degree_of-n) → let w = c.args.w in
    c.side_of-side.result * 134217728 + c.degree_of-n.result * 8388608 + w % 18014398509481984 / 2147483648
    ≡ (small_of (code_of w)).0
total c =
    let w = c.args.w in
    (λ i. c.side_of-side.ensures i * 134217728 + c.degree_of-n.ensures i * 8388608
    + w % 18014398509481984 / 2147483648)
    ∙ small_number (code_of w) c.requires

pub overflow_cast-result : goal.overflow_cast-result
overflow_cast-result c =
    omega (arith, total c, small_fits (code_of c.args.w) c.requires)

pub returns : goal.returns
returns c = total c
