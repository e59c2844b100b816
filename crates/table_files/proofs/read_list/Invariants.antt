-- The loop's invariant: the numbers so far stand over the front (InLists). Assumes nothing.
use mathlib.Core.Path.{◌≡◌}
use Rattle.frame.specs.Answers.{over}
use Rattle.octets.specs.Bytes.{read_each}
use Rattle.table_files.proofs.read_list.Given as goal

abbrev pub invariant-loop-place : goal.invariant-loop-place
invariant-loop-place g l =
    l.list ≡ over (read_each g.T.Filed.from_word 8 l.place l.bytes) l.initial.list
