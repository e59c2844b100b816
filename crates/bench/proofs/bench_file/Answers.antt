-- `bench::bench_file` meets its contract: the answer of `file` (Reading). Assumes nothing.
use mathlib.Core.Path.{subst}
use Rattle.std.proofs.Common.{rules}
use Rattle.std.specs.Int.Bits.{xor_zero_l, xor_zero_r}
use Rattle.filing.specs.declared.Direction.{Direction}
use Rattle.words.specs.Family.{code_told}
use Rattle.directions.specs.Answers.{FileAnswer}
use Rattle.bench.proofs.Reading.{read_back}
use Rattle.bench.proofs.bench_file.Goals as goal

pub returns : goal.returns
returns c =
    let a = code_told c.file.result in
    let f = c.ranges in
    let same = read_back f.x f.y f.z in (
      a,
      subst (λ (d : Direction). FileAnswer c.args.degree d a) same c.file.ensures,
      search (rules, xor_zero_l, xor_zero_r),
    )
