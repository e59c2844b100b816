-- The loop looks at every place (Looking). Assumes nothing.
use Rattle.std.proofs.Common.{rules}
use mathlib.Core.Path.{◌≡◌, sym}
use native.Mathlib.Omega.{arith}
use native.Mathlib.Numerals.{add-one}
use lib.IntN.{pos}
use lib.ListN.{get_or}
use mir.Val.{SFits}
use mir.Syntax.{w32}
use mir.ValLaws.{to_z-of_z}
use Rattle.tables.specs.Tables.{is_bad}
use Rattle.frame.proofs.Scanning.{ends}
use Rattle.searching.proofs.Looking.{looks}
use Rattle.searching.proofs.any_bad.Goals as goal

pub loop-number-preserved : goal.loop-number-preserved
loop-number-preserved c =
    let list = c.args.list.now in
    let l = c.loop-number in
    let x = get_or list l.number-index (pos 0) in
    let q : c.is_bad-found.result ≡ is_bad x =
    let fits : SFits w32 x = search rules in
    simp to_z-of_z at c.is_bad-found.ensures in
    (omega arith, simp add-one (looks is_bad list l.number-index (pos 0) (omega arith) l.found l.invariant.1 c.is_bad-found.result q))

pub returns : goal.returns
returns c =
    let l = c.loop-number in
    sym (ends is_bad c.args.list.now l.number-index l.found (omega arith) l.invariant.1)
