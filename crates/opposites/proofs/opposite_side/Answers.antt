-- Ten on, or ten back. Assumes nothing.
use borrow.Author.Tests.{le-ltb, lt-ltb}
use mathlib.Core.Path.{refl}
use native.Mathlib.Omega.{arith}
use Rattle.filing.specs.Means.Opposites.{opposite_side}
use Rattle.opposites.proofs.opposite_side.Goals as goal

pub returns-then-s-lt14 : goal.returns-then-s-lt14
unfolding opposite_side
returns-then-s-lt14 c = rw (lt-ltb c.args.s 14 c.if-s-lt14.true) refl

pub returns : goal.returns
unfolding opposite_side
returns c = rw (le-ltb c.args.s 14 (omega (arith, c.if-s-lt14.false))) refl
