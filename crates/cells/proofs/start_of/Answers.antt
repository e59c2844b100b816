-- `cells::start_of` meets its contract (OnePass). Assumes nothing.
use mathlib.Core.Path.{◌∙◌, ap}
use Prim.Native.Nat.{ℕ, ◌+◌, ◌*◌, ◌%◌, ◌^◌}
use Rattle.cells.proofs.OnePass.{start_word}
use Rattle.cells.proofs.start_of.Goals as goal

pub returns : goal.returns
returns c =
    let w = c.args.w in
    ap (λ (k : ℕ). k * 2 ^ 54 + w % 2 ^ 54) c.side_of.ensures ∙ start_word w c.requires
