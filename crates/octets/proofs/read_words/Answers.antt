-- The words read so far stand over the front (WordLists). Assumes nothing.
use mathlib.Core.Path.{◌∙◌, ap}
use mathlib.Core.List.{List}
use Prim.Native.Nat.{ℕ, ◌*◌}
use native.Mathlib.Omega.{arith}
use lib.ListN.{take}
use Rattle.octets.specs.Bytes.{number_of}
use Rattle.octets.proofs.WordLists.{rest, none_read, one_more, all_read}
use Rattle.octets.proofs.read_words.Goals as goal

pub loop-i-init : goal.loop-i-init
loop-i-init c = none_read c.args.bytes.now c.args.words.now

pub loop-i-preserved : goal.loop-i-preserved
loop-i-preserved c =
    let bytes = c.args.bytes.now in
    let i = c.loop-i.i in
    one_more bytes c.args.words.now i (omega arith) c.loop-i.invariant
    (c.get8.ensures ∙ ap (λ (x : List ℕ). number_of (take 8 x)) (rest bytes (8 * i) (omega arith)))

pub returns : goal.returns
returns c =
    all_read c.args.bytes.now c.args.words.now c.args.count c.loop-i.i (omega arith) c.loop-i.invariant
