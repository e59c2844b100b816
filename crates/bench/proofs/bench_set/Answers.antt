-- `bench::bench_set` meets its contract: the answer of `set`, whose reading the machine reads back. Assumes nothing.
use mathlib.Core.Path.{subst}
use lib.IntN.{ℤ}
use mir.Syntax.{w32}
use mir.ValLaws.{to_z-of_z}
use Rattle.words.specs.Family.{code_of}
use Rattle.tables.specs.Owners.{shared}
use Rattle.tables.specs.Answers.{table_told}
use Rattle.coarse.specs.Sums.{coarse, chart}
use Rattle.coarse.specs.Answers.{SetAnswer}
use Rattle.bench.proofs.bench_set.Goals as goal

pub returns : goal.returns
returns c =
    let a = c.args in
    let l = c.set.new in
    let r = table_told c.set.result in (
      r,
      subst
          (λ (x : ℤ). SetAnswer a.desk a.degree (code_of a.code) x
          (chart (shared a.list.now a.owners.now) (coarse a.counts.now a.sums.now)) r
          (chart (shared l.list l.owners) (coarse l.counts l.sums)))
          (to_z-of_z w32 a.reading c.ranges.reading) c.set.ensures,
      c.mixed.ensures,
    )
