-- `bench::bench_back` meets its contract: the answer of `name_back`, told as the documents do. Assumes nothing.
use Rattle.std.proofs.Common.{rules}
use Rattle.std.specs.Int.Bits.{xor_zero_l, xor_zero_r}
use Rattle.corners.specs.Answers.{name_told}
use Rattle.bench.proofs.bench_back.Goals as goal

pub returns : goal.returns
returns c = (name_told c.name_back.result, c.name_back.ensures, search (rules, xor_zero_l, xor_zero_r))
