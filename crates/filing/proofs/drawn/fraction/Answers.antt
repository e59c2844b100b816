-- Both casts lose nothing, and the quotient is the fraction (ExactFractions). Assumes nothing.
use native.Mathlib.Nat.{le_of_lt}
use native.Mathlib.Omega.{arith}
use Rattle.golden.proofs.Machine.{again_is}
use Rattle.filing.proofs.ExactFractions.{in_float_lem, divisor_small, divided}
use Rattle.filing.proofs.drawn.fraction.Goals as goal

pub overflow_mul-den : goal.overflow_mul-den
overflow_mul-den c = record { fits = omega (arith, c.power-den.ensures, divisor_small c.args.n c.requires.1) }

pub int_to_float-result : goal.int_to_float-result
int_to_float-result c =
    rw (again_is c.args.t (omega (arith, c.requires.0))) (in_float_lem c.args.t (le_of_lt c.requires.0))

pub int_to_float-result-2 : goal.int_to_float-result-2
int_to_float-result-2 c =
    rw c.power-den.ensures (in_float_lem _ (divisor_small c.args.n c.requires.1))

pub returns : goal.returns
returns c =
    rw (again_is c.args.t (omega (arith, c.requires.0)), c.power-den.ensures) (divided c.args.t c.args.n c.requires.0 c.requires.1)
