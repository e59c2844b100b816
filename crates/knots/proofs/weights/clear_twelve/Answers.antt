-- Twelve times 0 is no weight at each vertex. Assumes nothing.
use Rattle.std.proofs.Common.{refl}
use lib.Seq.{length-take-le}
use Rattle.net.specs.Means.Spreads.{no_weights}
use Rattle.knots.proofs.weights.clear_twelve.Goals as goal

pub returns : goal.returns
unfolding no_weights
returns c = rw (c.fill.ensures.after (λ y e. e)) (rw (length-take-le 12 c.args.out.now c.requires) refl)
