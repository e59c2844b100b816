-- Range by range (Refused). Assumes nothing.
use native.Mathlib.Omega.{arith}
use Rattle.tables.proofs.Refused.{degree_25, degree_7, degree_6}
use Rattle.refusing.proofs.refuse_degree.Goals as goal

pub returns-in-0-to-6 : goal.returns-in-0-to-6
returns-in-0-to-6 c = degree_6 _ (omega (arith, c.in-0-to-6))

pub returns-in-7-to-24 : goal.returns-in-7-to-24
returns-in-7-to-24 c = degree_7 _ (omega (arith, c.in-7-to-24)) (omega (arith, c.in-7-to-24))

pub returns-in_default : goal.returns-in_default
returns-in_default c = degree_25 _ (omega (arith, c.in_default))
