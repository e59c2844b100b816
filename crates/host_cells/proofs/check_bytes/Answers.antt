-- As `cells::check` does: the words passed offend in nothing, and the reach is that of the last of them (OnePass of the
-- crate cells). Assumes nothing.
use Rattle.std.proofs.Common.{◌<◌, refl, length, arith}
use Rattle.octets.specs.Bytes.{words_in}
use Rattle.cells.proofs.OnePass.{reason_some, none_passed, stopped, passed_more, all_passed}
use Rattle.host_cells.proofs.CellBytes.{words_long, word_here}
use Rattle.host_cells.proofs.check_bytes.Goals as goal

pub loop-i-init : goal.loop-i-init
loop-i-init c = none_passed (words_in c.args.list.now)

pub returns-in-Err : goal.returns-in-Err
returns-in-Err c =
    let list = c.args.list.now in
    let i = c.loop-i.i in
    let there : i < length (words_in list) = omega (arith, words_long list) in
    stopped (words_in list) c.loop-i.invariant there (word_here list i (omega arith) c.get8.ensures)
    c.in-Err.ensures.reason (reason_some _)

pub loop-i-preserved : goal.loop-i-preserved
loop-i-preserved c =
    let list = c.args.list.now in
    let i = c.loop-i.i in
    let there : i < length (words_in list) = omega (arith, words_long list) in
    let f = c.in-Ok.ensures in
    passed_more (words_in list) c.loop-i.invariant there (word_here list i (omega arith) c.get8.ensures) f.reason f.own
    refl

pub returns : goal.returns
returns c =
    let list = c.args.list.now in
    all_passed (words_in list) c.loop-i.invariant (omega (arith, words_long list))
