-- The loop looks at every place (Looking). Assumes nothing.
use mathlib.Core.Path.{sym}
use native.Mathlib.Omega.{arith}
use native.Mathlib.Numerals.{add-one}
use Rattle.tables.specs.Owners.{is_other}
use Rattle.frame.proofs.Scanning.{ends}
use Rattle.searching.proofs.Looking.{looks}
use Rattle.searching.proofs.any_other.Goals as goal

pub loop-owner-preserved : goal.loop-owner-preserved
loop-owner-preserved c =
    let l = c.loop-owner in (
      omega arith,
      simp add-one (looks is_other c.args.owners.now l.owner-index 0 (omega arith) l.found l.invariant.1 _ c.is_other-found.ensures),
    )

pub returns : goal.returns
returns c =
    let l = c.loop-owner in
    sym (ends is_other c.args.owners.now l.owner-index l.found (omega arith) l.invariant.1)
