-- `notation::directions_of` by recursion on n: the last digit after the others. Assumes nothing.
use native.Mathlib.Omega.{arith}
use Prim.Native.Nat.{ℕ, ◌-◌, ◌/◌, ◌%◌, ◌^◌, ◌<◌}
use Rattle.notation.proofs.Computing.{directions_more, directions_none, directions_room, other_digit, turned_bit}
use Rattle.notation.proofs.+directions_of.Goals as goal
use Rattle.notation.proofs.+directions_of.Lts-directions_of as lts
use Rattle.notation.proofs.directions_of.Reads as directions_of
use Rattle.notation.proofs.other_of.Reads as other_of_reads
use Rattle.notation.proofs.turned_by.Reads as turned_by_reads

abbrev calls : ℕ → lts.Claims
calls t = (
  turned_by_reads.Asked,
  turned_by_reads.Learnt,
  goal.directions_of-below t,
  directions_of.Post,
  other_of_reads.Asked,
  other_of_reads.Learnt,
)

pub returns-then-n-eq0 : goal.returns-then-n-eq0
returns-then-n-eq0 t c = let a = c.args in directions_none a.o a.n a.v c.if-n-eq0.true

pub directions_of-requires : goal.directions_of-requires
directions_of-requires t c =
    let a = c.args in
    (omega arith, (turned_bit (a.v % 4) a.o (omega arith) c.turned_by.ensures, omega arith))

room : (t : ℕ) (c : lts.After-directions_of (calls t) (goal.directions_of-at t) directions_of.Post (goal.the-clauses-directions_of t))
    → c.directions_of.result < 2 ^ 48
room t c =
    let a = c.args in
    directions_room c.turned_by.result (a.n - 1) (a.v / 4) (omega arith) c.directions_of.ensures

pub overflow_mul-result : goal.overflow_mul-result
overflow_mul-result t c = omega (arith, room t c)

pub other_of-requires : goal.other_of-requires
other_of-requires t c = (omega arith, omega arith)

pub overflow_add-result : goal.overflow_add-result
overflow_add-result t c =
    let a = c.args in
    omega (arith, room t c.before, other_digit a.o (a.v % 4) c.other_of.ensures)

pub returns : goal.returns
returns t c =
    let a = c.args in
    directions_more a.o a.n a.v c.if-n-eq0.false c.turned_by.ensures
    c.directions_of.ensures c.other_of.ensures
