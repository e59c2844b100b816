-- The loop's invariant: the bytes of the numbers so far stand over the front (octets' WordLists). Assumes nothing.
use mathlib.Core.Path.{◌≡◌}
use mathlib.Core.List.{map}
use lib.ListN.{take}
use Rattle.frame.specs.Answers.{over}
use Rattle.octets.specs.Bytes.{bytes}
use Rattle.table_files.proofs.put_list.Given as goal

abbrev pub invariant-loop-place : goal.invariant-loop-place
invariant-loop-place g l =
    l.out ≡ over (bytes 8 (take l.place (map g.T.Filed.to_word l.list))) l.initial.out
