-- The six differences are the exact coordinates (Weighted). Assumes nothing.
use mathlib.Core.Path.{◌≡◌, sym, ◌∙◌}
use native.Mathlib.Omega.{arith}
use lib.IntN.{ℤ}
use Prim.Native.Nat.{ℕ}
use Rattle.golden.proofs.Machine.{again, again_of}
use Rattle.golden.proofs.GoldenRing.{φ_path}
use Rattle.net.specs.Division.{Weights}
use Rattle.filing.specs.Means.Places.{Twelve, balance_of}
use Rattle.filing.proofs.Parts.{coordinates_path}
use Rattle.filing.proofs.Weighted.{exact_is, balance_small}
use Rattle.filing.proofs.weighing.exact_of.Goals as goal

-- a difference, as the machine reads it back
part : {p : Weights} → Twelve p → (a b c d : ℕ) {r : ℤ} → r ≡ balance_of p a b c d → again r ≡ balance_of p a b c d
part t a b c d e = again_of e (omega (arith, balance_small t a b c d))

pub returns : goal.returns
returns c =
    let t = c.requires in
    coordinates_path
    (φ_path (part t 4 7 5 11 c.balance.ensures) (part t 3 8 6 10 c.balance-2.ensures))
    (φ_path (part t 0 9 1 2 c.balance-3.ensures) (part t 4 5 7 11 c.balance-4.ensures))
    (φ_path (part t 3 6 8 10 c.balance-5.ensures) (part t 0 2 1 9 c.balance-6.ensures))
    ∙ sym (exact_is c.args.ws.now t.places)
