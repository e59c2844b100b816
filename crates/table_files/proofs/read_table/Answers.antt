-- The readings from byte 8 on, and the owners after them. Assumes nothing.
use mathlib.Core.Path.{◌∙◌, ap}
use mathlib.Core.List.{List}
use Prim.Native.Nat.{ℕ, ◌+◌, ◌*◌}
use native.Mathlib.Omega.{arith}
use lib.ListN.{length}
use Rattle.octets.specs.Bytes.{read_each}
use Rattle.octets.proofs.WordLists.{rest}
use Rattle.table_files.specs.Files.{reading_of, owner_of}
use Rattle.table_files.proofs.read_table.Goals as goal

pub returns : goal.returns
returns c =
    let bytes = c.args.bytes.now in
    let k = length c.args.list.now in
    let m = length c.args.owners.now in (
      c.read_list.ensures
          ∙ ap (λ (bs : List ℕ). read_each reading_of 8 k bs) (rest bytes 8 (omega (arith, c.requires))),
      c.read_list-2.ensures
          ∙ ap (λ (bs : List ℕ). read_each owner_of 8 m bs) (rest bytes (8 * (1 + k)) (omega (arith, c.requires))),
    )
