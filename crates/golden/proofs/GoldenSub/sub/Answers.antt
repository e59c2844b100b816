-- Part by part, as the machine reads the differences back. Assumes nothing.
use Rattle.golden.specs.Numbers.{◌+φ◌, negφ}
use Rattle.golden.proofs.Machine.{difference_is}
use Rattle.golden.proofs.GoldenRing.{φ_path}
use Rattle.golden.proofs.GoldenSub.sub.Goals as goal

pub returns : goal.returns
unfolding ◌+φ◌ negφ
returns c =
    let x = c.args.self in
    let y = c.args.y in
    let p = c.requires in
    φ_path (difference_is x.u y.u p.0.u_below p.1.u_below) (difference_is x.v y.v p.0.v_below p.1.v_below)
