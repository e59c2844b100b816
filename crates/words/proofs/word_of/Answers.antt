-- The digits stay below the degree (WordLayout), so the word fits. Assumes nothing.
use mathlib.Core.Path.{ap}
use Prim.Native.Nat.{ℕ, ◌*◌, ◌^◌, ◌<◌}
use native.Mathlib.Omega.{arith}
use Rattle.words.specs.Words.{large, word_in}
use Rattle.words.proofs.WordLayout.{below_degree_lem}
use Rattle.words.proofs.word_of.Goals as goal
use Rattle.words.proofs.word_of.Lts as lts
use Rattle.words.proofs.word_of.Reads as reads
use Rattle.words.proofs.word_of.Tie as tie

abbrev After-power : Type 0
After-power = lts.After-power tie.the-claims reads.Pre reads.Post

below-54 : (c : After-power) → c.before.args.v * c.power.result < 2 ^ 54
below-54 c = let p = c.before.requires in rw c.power.ensures (below_degree_lem large c.before.args.n _ p.1 p.2)

pub overflow_mul-result-3 : goal.overflow_mul-result-3
overflow_mul-result-3 c = omega (arith, below-54 c)

pub overflow_add-result-2 : goal.overflow_add-result-2
overflow_add-result-2 c = omega (arith, below-54 c)

pub returns : goal.returns
unfolding word_in
returns c = omega (arith, ap (λ (k : ℕ). c.before.args.v * k) c.power.ensures)
