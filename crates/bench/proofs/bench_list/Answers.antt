-- `bench::bench_list` meets its contract: the answer of `list` (Reading). Assumes nothing.
use mathlib.Core.Path.{subst}
use Rattle.std.proofs.Common.{rules}
use Rattle.std.specs.Int.Bits.{xor_zero_l, xor_zero_r}
use Rattle.filing.specs.declared.Direction.{Direction}
use Rattle.corners.specs.Answers.{count_told}
use Rattle.directions.specs.Answers.{ListAnswer}
use Rattle.bench.proofs.Reading.{read_back}
use Rattle.bench.proofs.bench_list.Goals as goal

pub returns : goal.returns
returns c =
    let a = count_told c.list.result in
    let f = c.ranges in
    let same = read_back f.x f.y f.z in
    let new = c.list.new.out in (
      a,
      subst (λ (d : Direction). ListAnswer c.args.degree d c.args.out.now a new) same c.list.ensures,
      search (rules, xor_zero_l, xor_zero_r),
    )
