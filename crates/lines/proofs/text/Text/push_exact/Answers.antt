-- The sign, the whole part and the fraction. Assumes nothing.
use mathlib.Core.Path.{refl}
use native.Mathlib.Nat.{mod-lt}
use native.Mathlib.Omega.{arith}
use borrow.Author.Rules.{rules}
use Rattle.lines.proofs.Appending.{appended_after}
use Rattle.lines.proofs.Spelling.{exact_is, power_bounds}
use Rattle.lines.proofs.text.Text.push_exact.Goals as goal

pub push_fraction-requires : goal.push_fraction-requires
push_fraction-requires g c =
    let b = power_bounds c.args.k _ (omega arith) c.power-m.ensures in
    (search rules, (mod-lt _ b.0, b.1, search rules))

pub returns-clause-text : goal.returns-clause-text
returns-clause-text g c =
    let first = appended_after _ _ _ refl c.push_sign.ensures.text c.push_decimal.ensures.text in
    appended_after _ _ _ (exact_is c.args.t _ _ _ c.ranges.t c.power-m.ensures c.unsigned_abs-size.ensures.value) first c.push_fraction.ensures.text
