-- `cells::reach_of` meets its contract (OnePass). Assumes nothing.
use native.Mathlib.Omega.{arith}
use Rattle.cells.proofs.Ranks.{degree_fits}
use Rattle.cells.proofs.OnePass.{unit_width, start_fits, width_fits, reach_is}
use Rattle.cells.proofs.reach_of.Goals as goal

pub unit_of-requires : goal.unit_of-requires
unit_of-requires c = degree_fits c.args.w c.requires

pub overflow_add-result-2 : goal.overflow_add-result-2
overflow_add-result-2 c =
    let w = c.args.w in
    omega (
      arith,
      c.start_of-start.ensures,
      c.unit_of.ensures,
      unit_width w c.requires,
      start_fits w c.requires,
      width_fits w c.requires,
    )

pub returns : goal.returns
returns c =
    reach_is c.args.w c.requires c.start_of-start.ensures c.degree_of.ensures
    c.unit_of.ensures
