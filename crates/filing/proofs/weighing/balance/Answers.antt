-- Four reads inside the list; the sums and their difference fit, since each weight is at most the sum (Weighted). Assumes nothing.
-- two weights added, as the cast reads them
use mathlib.Core.Path.{◌≡◌}
use Prim.Native.Nat.{ℕ, ◌+◌, ◌<◌, ◌^◌}
use native.Mathlib.Omega.{arith}
use lib.ListN.{get_or}
use lib.IntN.{pos, nat_abs}
use Rattle.golden.proofs.Machine.{again, fits, again_is}
use Rattle.net.specs.Division.{Weights}
use Rattle.filing.specs.Means.Places.{Twelve, balance_of}
use Rattle.filing.proofs.Weighted.{two_small, balance_small}
use Rattle.filing.proofs.weighing.balance.Goals as goal

two_again : {p : Weights} → Twelve p → (a b : ℕ) → again (pos (get_or p a 0 + get_or p b 0)) ≡ pos (get_or p a 0 + get_or p b 0)
two_again {p} t a b = again_is (pos (get_or p a 0 + get_or p b 0)) (omega (arith, two_small t a b))

pub overflow_add-more : goal.overflow_add-more
overflow_add-more c = record { fits = omega (arith, two_small c.requires.0 c.args.a c.args.b) }

pub overflow_add-less : goal.overflow_add-less
overflow_add-less c = record { fits = omega (arith, two_small c.requires.0 c.args.c c.args.d) }

pub overflow_cast-result : goal.overflow_cast-result
overflow_cast-result c = fits _ (omega (arith, two_small c.requires.0 c.args.a c.args.b))

pub overflow_cast-result-2 : goal.overflow_cast-result-2
overflow_cast-result-2 c = fits _ (omega (arith, two_small c.requires.0 c.args.c c.args.d))

pub overflow_sub-result : goal.overflow_sub-result
unfolding balance_of
overflow_sub-result c =
    let a = c.args in
    let small : nat_abs (balance_of a.ws.now a.a a.b a.c a.d) < 2 ^ 63 = omega (arith, balance_small c.requires.0 a.a a.b a.c a.d) in
    rw (two_again c.requires.0 a.a a.b, two_again c.requires.0 a.c a.d) (fits _ small)

pub returns : goal.returns
unfolding balance_of
returns c =
    let a = c.args in
    let small : nat_abs (balance_of a.ws.now a.a a.b a.c a.d) < 2 ^ 63 = omega (arith, balance_small c.requires.0 a.a a.b a.c a.d) in
    rw (two_again c.requires.0 a.a a.b, two_again c.requires.0 a.c a.d, again_is _ small)
