-- Part by part, as the machine reads the sums back. Assumes nothing.
use Rattle.golden.specs.Numbers.{◌+φ◌}
use Rattle.golden.proofs.Machine.{sum_is}
use Rattle.golden.proofs.GoldenRing.{φ_path}
use Rattle.golden.proofs.GoldenAdd.add.Goals as goal

pub returns : goal.returns
unfolding ◌+φ◌
returns c =
    let x = c.args.self in
    let y = c.args.y in
    let p = c.requires in
    φ_path (sum_is x.u y.u p.0.u_below p.1.u_below) (sum_is x.v y.v p.0.v_below p.1.v_below)
