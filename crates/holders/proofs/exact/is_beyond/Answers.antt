-- `holders::exact::is_beyond` meets its contract. Assumes nothing.
use borrow.Author.Tests.{not-true, not-false}
use mathlib.Core.Path.{sym, subst}
use native.Mathlib.Omega.{arith}
use Prim.Native.Nat.{◌^◌}
use Rattle.golden.specs.Order.{NonNeg}
use Rattle.seats.proofs.ExactRoles.{lean_small, wider}
use Rattle.holders.proofs.exact.is_beyond.Goals as goal

pub at_least_zero-requires : goal.at_least_zero-requires
at_least_zero-requires c =
    rw c.lean.ensures (wider 2000000001 (2 ^ 57) _ (omega arith)
    (lean_small c.args.a c.args.b c.args.c c.requires.0 c.requires.1 c.requires.2))

pub returns : goal.returns
returns c =
    let e = c.lean.ensures in
    let d = c.at_least_zero.ensures in (
      λ t h. d.fails (not-true _ t) (subst NonNeg (sym e) h),
      λ t. subst NonNeg e (d.holds (not-false _ t)),
    )
