-- `bench::bench_cells_line` meets its contract: nothing is held before, and so the file after. Assumes nothing.
use native.Mathlib.Omega.{arith}
use Rattle.verdicts.proofs.Holding.{reading}
use Rattle.bench.proofs.bench_cells_line.Goals as goal

pub returns : goal.returns
returns c h o =
    let held = c.take_in-size.ensures _ (reading.begins c.args.head.now) in
    omega (arith, (c.put_line.ensures.wrote _ held).place)
