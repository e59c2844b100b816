-- The first two rows of both kinds of word; then all that stands below the digits at once, and only where that is not 0
-- the digits beyond the degree (Refusing, Codes). Assumes nothing.
use mathlib.Core.Path.{◌≡◌, ap, sym}
use mathlib.Core.Bool.{not}
use Prim.Native.Nat.{◌-◌, ◌*◌, ◌%◌, ◌^◌}
use lib.ListN.{take}
use lib.Pow.{pow_pos}
use borrow.Author.Tests.{eq-eqb, ne_eqb}
use Rattle.words.specs.Words.{large, degree_of, beyond}
use Rattle.words.specs.Refusals.{word_rows, check_code}
use Rattle.frame.proofs.Refusing.{here, next, nothing, refuse_before, refuse_after, so_unless}
use Rattle.frame.proofs.Told.{number_some, told_handed}
use Rattle.frame.specs.Refusals.{order}
use Rattle.words.proofs.WordLayout.{below_zero}
use Rattle.words.proofs.Codes.{side_degree, low_zero}
use Rattle.words.proofs.TriangleCode.check.Goals as goal

pub returns-in_err-check_above : goal.returns-in_err-check_above
unfolding check_code
returns-in_err-check_above c =
    told_handed _ _ c.from_residual.ensures
    (refuse_before order order (take 2 (word_rows c.args.self.0)) _ tt tt c.in_err-check_above.ensures (number_some _))

pub unit_of-requires : goal.unit_of-requires
unit_of-requires c = side_degree c.args.self.0 (sym c.in_ok-check_above.ensures)

pub nonzero_rem-w : goal.nonzero_rem-w
nonzero_rem-w c = rw c.unit_of.ensures (pow_pos _)

pub returns-then-w-unit_of-eq0 : goal.returns-then-w-unit_of-eq0
unfolding check_code
returns-then-w-unit_of-eq0 c =
    let w = c.args.self.0 in
    let n = degree_of w in
    let above = sym c.in_ok-check_above.ensures in
    let e : w % 2 ^ (54 - 2 * n) ≡ 0 = rw c.unit_of.ensures at c.if-w-unit_of-eq0.true in
    let z = (below_zero large w n (side_degree w above)).0 e in
    refuse_after order order (take 2 (word_rows w)) _ tt tt above
    (next (ap not (eq-eqb (beyond w n) 0 z.0)) (next ((low_zero w).1 z.1) nothing))

pub beyond_of-requires : goal.beyond_of-requires
beyond_of-requires c = side_degree c.args.self.0 (sym c.in_ok-check_above.ensures)

pub returns-then-beyond_of-ne0 : goal.returns-then-beyond_of-ne0
unfolding check_code
returns-then-beyond_of-ne0 c =
    let w = c.args.self.0 in
    refuse_after order order (take 2 (word_rows w)) _ tt tt (sym c.in_ok-check_above.ensures)
    (here (ap not (ne_eqb (beyond w (degree_of w)) 0 (λ e. c.if-beyond_of-ne0.true (cc)))))

pub returns : goal.returns
unfolding check_code
returns c =
    let w = c.args.self.0 in
    let n = degree_of w in
    let above = sym c.in_ok-check_above.ensures in
    let z : beyond w n ≡ 0 = cc in
    let some : w % 2 ^ (54 - 2 * n) ≡ 0 → ⊥ = rw c.unit_of.ensures at c.if-w-unit_of-eq0.false in
    refuse_after order order (take 2 (word_rows w)) _ tt tt above
    (next (ap not (eq-eqb (beyond w n) 0 z))
    (here (so_unless _ (λ e. some ((below_zero large w n (side_degree w above)).1 (z, (low_zero w).0 e))))))
