-- The bytes of the words so far stand over the front (WordLists). Assumes nothing.
use native.Mathlib.Omega.{arith}
use Rattle.octets.proofs.WordLists.{none_written, one_written}
use Rattle.octets.proofs.write_words.Goals as goal

pub loop-i-init : goal.loop-i-init
loop-i-init c = none_written c.args.words.now c.args.out.now

pub loop-i-preserved : goal.loop-i-preserved
loop-i-preserved c =
    let l = c.loop-i in
    one_written c.args.words.now c.args.out.now l.i (omega arith) l.invariant (omega arith) c.put8.ensures
