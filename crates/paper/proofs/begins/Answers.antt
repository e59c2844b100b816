-- Each test in turn (FromPaper). Assumes nothing.
use native.Mathlib.Omega.{arith}
use Rattle.paper.proofs.FromPaper.{begun_by, begun_none}
use Rattle.paper.proofs.begins.Goals as goal

pub returns-then-a-eq0 : goal.returns-then-a-eq0
returns-then-a-eq0 c = let s = c.args in begun_none s.a s.p s.q (λ l. omega (arith, c.if-a-eq0.true))

pub returns-then-a-gt5 : goal.returns-then-a-gt5
returns-then-a-gt5 c = let s = c.args in begun_none s.a s.p s.q (λ l. omega (arith, c.if-a-gt5.true))

pub returns-then-p-gt1 : goal.returns-then-p-gt1
returns-then-p-gt1 c =
    let s = c.args in
    begun_none s.a s.p s.q (λ l. omega (arith, c.if-p-gt1.true))

pub returns : goal.returns
returns c =
    let s = c.args in
    begun_by s.a s.p s.q c.if-a-eq0.false c.if-a-gt5.false c.if-p-gt1.false
