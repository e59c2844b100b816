-- `verdicts::check_words` meets its contract. Assumes nothing.
use mathlib.Core.Path.{◌∙◌, sym, ap}
use Prim.Native.Nat.{◌≤◌}
use native.Mathlib.Omega.{arith}
use lib.ListN.{length}
use lib.Seq.{length-take-le}
use Rattle.cells.specs.Checking.{checked}
use Rattle.verdicts.proofs.check_words.Goals as goal

pub slice_bounds-check-end : goal.slice_bounds-check-end
slice_bounds-check-end c =
    let h : c.args.count ≤ length c.read_words.new.words =
    omega (arith, c.requires.1, c.read_words.auto.words) in
    sym (length-take-le c.args.count c.read_words.new.words h)

pub returns : goal.returns
returns c = c.check.ensures ∙ ap checked c.read_words.ensures
