-- `holders::exact::of_parts` meets its contract, part by part. Assumes nothing.
use native.Mathlib.Omega.{arith}
use lib.IntN.{pos}
use Rattle.golden.proofs.GoldenRing.{φ_path}
use Rattle.golden.proofs.Machine.{again_is}
use Rattle.holders.proofs.exact.of_parts.Goals as goal

pub returns : goal.returns
returns c = φ_path
    (again_is (pos c.args.u) (omega (arith, c.requires.0)))
    (again_is (pos c.args.v) (omega (arith, c.requires.1)))
