-- One number more over the front (octets' WordLists). Assumes nothing.
use mathlib.Core.Path.{◌≡◌, ◌∙◌, sym, ap}
use mathlib.Core.List.{map}
use Prim.Native.Nat.{ℕ, ◌-◌, ◌*◌, ◌<◌}
use native.Mathlib.Omega.{arith}
use lib.ListN.{length, get_or, take, drop, length-map, get_or-map}
use Rattle.frame.specs.Answers.{over}
use Rattle.frame.proofs.Scanning.{in_range}
use Rattle.octets.specs.Bytes.{bytes_of}
use Rattle.octets.proofs.WordLists.{none_written, one_written}
use Rattle.table_files.proofs.put_list.Goals as goal

pub loop-place-init : goal.loop-place-init
loop-place-init g c = none_written (map g.T.Filed.to_word c.args.list.now) c.args.out.now

pub loop-place-preserved : goal.loop-place-preserved
loop-place-preserved g c =
    let l = c.loop-place in
    let word = g.T.Filed.to_word in
    let list = c.args.list.now in
    let ws = map word list in
    let x = c.index-list-place in
    let inside : l.place < length ws = omega (arith, length-map list word, c.loop-place-test.true) in
    let q : c.to_word.result ≡ get_or ws l.place 0 =
    c.to_word.ensures ∙ ap word x.is ∙ sym (get_or-map word list l.place x.result)
    ∙ in_range ws l.place (word x.result) 0 inside in
    one_written ws c.args.out.now l.place (omega arith) l.invariant inside
    (c.put8.ensures
    ∙ ap (λ (v : ℕ). over (bytes_of 8 v) (take (length l.out - 8 * l.place) (drop (8 * l.place) l.out))) q)
