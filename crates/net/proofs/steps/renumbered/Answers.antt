-- `net::steps::renumbered` meets its contract: the word renumbered, on the other side (WordSteps). Assumes nothing.
use mathlib.Core.Path.{◌∙◌}
use native.Mathlib.Omega.{arith}
use Prim.Native.Nat.{◌+◌, ◌*◌, ◌%◌, ◌^◌, ◌<◌}
use lib.Bits.{bit_xor}
use Rattle.net.proofs.WordSteps.{others_small, renumbered_word, times_fit}
use Rattle.net.proofs.steps.renumbered.Goals as goal

pub others_of-requires : goal.others_of-requires
others_of-requires c = c.requires.1

pub overflow_mul-w : goal.overflow_mul-w
overflow_mul-w c =
    let m : c.others_of.result < 2 ^ 54 =
    rw c.others_of.ensures (others_small c.args.c c.requires.1 c.args.r) in
    omega (arith, times_fit {x = c.others_of.result} c.requires.1 (omega (arith, m)))

pub overflow_mul-result : goal.overflow_mul-result
overflow_mul-result c = omega (arith, c.requires.2)

pub overflow_add-result : goal.overflow_add-result
overflow_add-result c = omega (arith, c.requires.2)

pub returns : goal.returns
returns c =
    (λ i. bit_xor c.args.r (c.args.c * c.others_of.ensures i) % 2 ^ 59 + 2 ^ 59 * c.args.s)
    ∙ renumbered_word c.args.r c.requires.0 c.args.c c.args.s c.requires.1
