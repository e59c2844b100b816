-- One number more over the front (InLists). Assumes nothing.
use mathlib.Core.Path.{◌≡◌, ◌∙◌, ap}
use mathlib.Core.List.{List}
use Prim.Native.Nat.{ℕ, ◌+◌, ◌*◌, ◌≤◌}
use native.Mathlib.Omega.{arith}
use lib.ListN.{length, take, drop}
use Rattle.octets.specs.Bytes.{number_of}
use Rattle.octets.proofs.WordLists.{rest}
use Rattle.table_files.proofs.InLists.{none_read, one_more, all_read}
use Rattle.table_files.proofs.read_list.Goals as goal

pub loop-place-init : goal.loop-place-init
loop-place-init g c = none_read g.T.Filed.from_word c.args.bytes.now c.args.list.now

pub loop-place-preserved : goal.loop-place-preserved
loop-place-preserved g c =
    let l = c.loop-place in
    let number = g.T.Filed.from_word in
    let bytes = c.args.bytes.now in
    let list = c.args.list.now in
    let there : 8 * l.place + 8 ≤ length bytes = omega arith in
    let q : c.from_word.result ≡ number (number_of (take 8 (drop (8 * l.place) bytes))) =
    c.from_word.ensures
    ∙ ap number (c.get8.ensures ∙ ap (λ (x : List ℕ). number_of (take 8 x)) (rest bytes (8 * l.place) (omega arith))) in
    one_more number bytes list l.place (omega arith) l.invariant q

pub returns : goal.returns
returns g c =
    let l = c.loop-place in
    all_read g.T.Filed.from_word c.args.bytes.now c.args.list.now l.place (omega arith) l.invariant
