-- `octets::get_signed4` meets its contract (Laying). Assumes nothing.
use Rattle.std.proofs.Common.{◌∙◌, ap, w32, arith, rules}
use mir.Facts.{to_z-of_z}
use Rattle.octets.specs.Bytes.{signed}
use Rattle.octets.proofs.Laying.{as_signed}
use Rattle.octets.proofs.get_signed4.Goals as goal

pub returns : goal.returns
returns c =
    let fits = c.type_inv.bytes in
    to_z-of_z {w = w32} (search rules) ∙ c.from_be_bytes.ensures
    ∙ as_signed _ (omega (arith, fits 0, fits 1, fits 2, fits 3)) ∙ ap (signed 4) (search rules)
