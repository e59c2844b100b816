-- The invariant: what was read is a path, and with the digits from i on it is that of the whole list. Assumes nothing.
use mathlib.Core.Path.{◌∙◌, refl}
use Prim.Native.Nat.{◌+◌, ◌*◌, ◌^◌, ◌<◌}
use native.Mathlib.Omega.{arith}
use lib.ListN.{get_or}
use Rattle.notation.proofs.Reading.{read_end, read_next, read_no, room_next}
use Rattle.notation.proofs.read_digits.Goals as goal
use Rattle.notation.proofs.read_digits.Goals.{Else-d-gt3}

pub loop-d-init : goal.loop-d-init
loop-d-init c = (omega arith, refl)

pub returns-then-d-gt3 : goal.returns-then-d-gt3
returns-then-d-gt3 c =
    read_no c.loop-d.v c.args.list.now c.loop-d.d-index (omega arith) c.if-d-gt3.true ∙ c.loop-d.invariant.1

-- the path with one digit more
room : (c : Else-d-gt3) →
    let d = get_or c.args.list.now c.loop-d.d-index 0 in
    (4 * c.loop-d.v + d < 2 ^ (2 * (c.loop-d.d-index + 1))) × (4 * c.loop-d.v + d < 2 ^ 48)
room c =
    room_next c.loop-d.v c.loop-d.d-index (get_or c.args.list.now c.loop-d.d-index 0) c.loop-d.invariant.0
    c.if-d-gt3.false (omega arith)

pub overflow_mul-v : goal.overflow_mul-v
overflow_mul-v c = omega (arith, (room (goal.at.overflow_mul-v c).Else-d-gt3).1)

pub overflow_add-v : goal.overflow_add-v
overflow_add-v c = omega (arith, (room (goal.at.overflow_add-v c).Else-d-gt3).1)

pub loop-d-preserved : goal.loop-d-preserved
loop-d-preserved c = (
  (room (goal.at.loop-d-preserved c).Else-d-gt3).0,
  read_next c.loop-d.v c.args.list.now c.loop-d.d-index (omega arith) c.if-d-gt3.false ∙ c.loop-d.invariant.1,
)

pub returns : goal.returns
returns c =
    read_end c.loop-d.v c.args.list.now c.loop-d.d-index (omega arith) ∙ c.loop-d.invariant.1
