-- The degree, the readings after it, and the owners after those (InLists). Assumes nothing.
use mathlib.Core.List.{map}
use Rattle.std.proofs.lemmas.List.{map-id}
use Prim.Native.Nat.{◌+◌, ◌*◌}
use native.Mathlib.Omega.{arith}
use lib.ListN.{length, length-map}
use Rattle.table_files.specs.Files.{word_of}
use Rattle.table_files.proofs.InLists.{all_written}
use Rattle.table_files.proofs.put_table.Goals as goal

pub returns : goal.returns
returns c =
    let list = c.args.list.now in
    let owners = c.args.owners.now in
    all_written c.args.degree (map word_of list) owners c.args.out.now c.put8.ensures
    c.put_list.ensures (8 * (1 + length list)) (omega (arith, length-map list word_of))
    (rw (map-id owners) at c.put_list-2.ensures)
