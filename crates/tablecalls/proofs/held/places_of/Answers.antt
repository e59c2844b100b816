-- Degree 6 has the most. Assumes nothing.
use native.Mathlib.Omega.{arith}
use Rattle.tables.proofs.Places.{places_most}
use Rattle.tablecalls.proofs.held.places_of.Goals as goal

pub returns : goal.returns
returns c = record {
  most = rw c.codes_of.ensures (places_most _ (omega (arith, c.if-degree-gt6.false)));
  table = λ _. c.codes_of.ensures;
  no_table = λ h. absurd (omega (arith, h, c.if-degree-gt6.false));
}
