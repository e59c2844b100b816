-- `notation::parts_of` by recursion on n: the last digit after the others. Assumes nothing.
use native.Mathlib.Omega.{arith}
use Prim.Native.Nat.{ℕ, ◌-◌, ◌/◌, ◌%◌, ◌^◌, ◌<◌}
use Rattle.notation.proofs.Computing.{other_digit, parts_more, parts_none, parts_room, turned_bit}
use Rattle.notation.proofs.+parts_of.Goals as goal
use Rattle.notation.proofs.+parts_of.Lts-parts_of as lts
use Rattle.notation.proofs.parts_of.Reads as parts_of
use Rattle.notation.proofs.other_of.Reads as other_of_reads
use Rattle.notation.proofs.turned_by.Reads as turned_by_reads

abbrev calls : ℕ → lts.Claims
calls t = (
  other_of_reads.Asked,
  other_of_reads.Learnt,
  turned_by_reads.Asked,
  turned_by_reads.Learnt,
  goal.parts_of-below t,
  parts_of.Post,
)

pub returns-then-n-eq0 : goal.returns-then-n-eq0
returns-then-n-eq0 t c = let a = c.args in parts_none a.o a.n a.v c.if-n-eq0.true

pub other_of-r-requires : goal.other_of-r-requires
other_of-r-requires t c = (omega arith, omega arith)

pub parts_of-above-requires : goal.parts_of-above-requires
parts_of-above-requires t c =
    let a = c.args in
    (omega arith, (turned_bit c.other_of-r.result a.o (omega arith) c.turned_by.ensures, omega arith))

room : (t : ℕ) (c : lts.After-parts_of (calls t) (goal.parts_of-at t) parts_of.Post (goal.the-clauses-parts_of t))
    → c.parts_of-above.result.path < 2 ^ 48
room t c =
    let a = c.args in
    parts_room c.turned_by.result (a.n - 1) (a.v / 4) (omega arith) c.parts_of-above.ensures

pub overflow_mul-result : goal.overflow_mul-result
overflow_mul-result t c = omega (arith, room t c.before)

pub overflow_add-result : goal.overflow_add-result
overflow_add-result t c =
    let a = c.args in
    omega (arith, room t c.before, other_digit a.o (a.v % 4) c.other_of-r.ensures)

pub returns : goal.returns
returns t c =
    let a = c.args in
    parts_more a.o a.n a.v c.if-n-eq0.false c.other_of-r.ensures c.turned_by.ensures
    c.parts_of-above.ensures
