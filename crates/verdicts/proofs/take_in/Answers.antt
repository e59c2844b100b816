-- `verdicts::take_in` meets its contract (Holding). Assumes nothing.
use mathlib.Core.Path.{ap, sym, ◌∙◌}
use mathlib.Core.List.{List, ◌++◌}
use Prim.Native.Nat.{ℕ, ◌+◌}
use lib.ListN.{length, take}
use Rattle.std.proofs.lemmas.Slice.{take-put_mid}
use native.Mathlib.Omega.{arith}
use Rattle.verdicts.proofs.Holding.{kept_small, kept_large, past, kept}
use Rattle.verdicts.proofs.take_in.Goals as goal

-- the buffer is too small already
pub returns-then-size-gt32768 : goal.returns-then-size-gt32768
returns-then-size-gt32768 c =
    past c.args.next.now c.args.head.now c.args.size c.past_room.result c.past_room.ensures
    (λ n e. omega (arith, kept_large n e c.if-size-gt32768.true))

-- or now
pub returns-then-size-next : goal.returns-then-size-next
returns-then-size-next c =
    past c.args.next.now c.args.head.now c.args.size c.past_room-then-size-next.result c.past_room-then-size-next.ensures
    (λ n f. omega (arith, kept_small n f c.if-size-gt32768.false, c.if-size-gt32768.false, c.if-size-next.true))

pub returns : goal.returns
returns c =
    let next = c.args.next.now in
    let head = c.args.head.now in
    let size = c.args.size in
    let h = c.if-size-gt32768.false in
    let l = c.if-size-next.false in
    kept next head _ size (omega (arith, h, l))
    (take-put_mid size _ head _ (size + length next) (ap (λ (xs : List ℕ). size + length xs) (sym c.copy.ensures))
    (omega (arith, h, c.requires))
    ∙ ap (λ (xs : List ℕ). take size head ++ xs) c.copy.ensures)
