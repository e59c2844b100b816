-- Three numbers one after the other (ByteSweeps). Assumes nothing.
use Rattle.host_sweeps.proofs.ByteSweeps.{laid_three}
use Rattle.host_sweeps.proofs.put_three.Goals as goal

pub returns : goal.returns
returns c =
    laid_three c.args.a c.args.b c.args.c _ c.put8.new.out c.put8-2.new.out
    c.put8-3.new.out
    c.put8.ensures c.put8-2.ensures c.put8-3.ensures
