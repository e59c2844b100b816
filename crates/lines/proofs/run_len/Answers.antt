-- Byte by byte. Assumes nothing.
use mathlib.Core.Path.{◌≡◌}
use mathlib.Core.Bool.{true, false, beq}
use native.Mathlib.Omega.{arith}
use lib.ListN.{get_or}
use borrow.Author.Tests.{not-true, not-false}
use Rattle.lines.specs.Splitting.{separator}
use Rattle.lines.proofs.Runs.{run_end, run_other, run_byte}
use Rattle.lines.proofs.run_len.Goals as goal

pub returns-then-is_separator-separators-clause-count : goal.returns-then-is_separator-separators-clause-count
returns-then-is_separator-separators-clause-count c =
    let a = c.args in
    let l = c.loop-i in
    let e : beq (separator (get_or a.bytes.now l.i 0)) a.separators ≡ false = rw c.is_separator.ensures at (not-true (beq c.is_separator.result a.separators) c.if-is_separator-separators.true) in
    omega (arith, l.invariant, run_other a.separators a.bytes.now l.i (omega arith) e)

pub loop-i-preserved : goal.loop-i-preserved
loop-i-preserved c =
    let a = c.args in
    let l = c.loop-i in
    let e : beq (separator (get_or a.bytes.now l.i 0)) a.separators ≡ true = rw c.is_separator.ensures at (not-false (beq c.is_separator.result a.separators) c.if-is_separator-separators.false) in
    omega (arith, l.invariant, run_byte a.separators a.bytes.now l.i (omega arith) e)

pub returns-clause-count : goal.returns-clause-count
returns-clause-count c =
    let a = c.args in
    let l = c.loop-i in
    omega (arith, l.invariant, run_end a.separators a.bytes.now l.i (omega arith))
