-- Digit by digit. Assumes nothing.
use mathlib.Core.Path.{sym, ap, ◌∙◌}
use Prim.Native.Nat.{ℕ, ◌+◌}
use native.Mathlib.Omega.{arith}
use lib.ListN.{drop}
use Rattle.std.specs.Prelude.{Option, Some}
use Rattle.lines.specs.Reading.{reads}
use Rattle.lines.proofs.Readings.{reads_wrong, reads_end, reads_step}
use Rattle.lines.proofs.read_digits.Goals as goal

pub returns-in_err-n : goal.returns-in_err-n
returns-in_err-n c =
    let a = c.args in
    let l = c.loop-c in
    let rest = drop (l.c-index + 1) a.s.now in
    c.from_residual.ensures ∙ sym (reads_wrong a.base rest) ∙ ap (λ (r : Option ℕ). reads a.base r rest) (sym c.in_err-n.was)
    ∙ reads_step a.base l.n c.digit.result c.grown.result a.s.now l.c-index (omega arith) c.digit.ensures c.grown.ensures ∙ l.invariant

pub loop-c-preserved : goal.loop-c-preserved
loop-c-preserved c =
    let a = c.args in
    let l = c.loop-c in
    ap (λ (r : Option ℕ). reads a.base r (drop (l.c-index + 1) a.s.now)) (sym c.in_ok-n.was)
    ∙ reads_step a.base l.n c.digit.result c.grown.result a.s.now l.c-index (omega arith) c.digit.ensures c.grown.ensures ∙ l.invariant

pub returns : goal.returns
returns c =
    let l = c.loop-c in
    sym (reads_end c.args.base (Some l.n) c.args.s.now l.c-index (omega arith)) ∙ l.invariant
