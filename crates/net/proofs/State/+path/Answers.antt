-- `net::State::path` meets its contract, by recursion on the degree: half a floor is as low, and a path of n digits is
-- below 4^n. Assumes nothing.
use native.Mathlib.Omega.{arith}
use Rattle.net.proofs.StateCode.{last_small, low_half, path_46, path_more, path_none}
use Prim.Native.Nat.{ℕ, ◌-◌, ◌^◌, ◌<◌}
use Rattle.net.proofs.State.+path.Goals as goal
use Rattle.net.proofs.State.+path.Lts-path as lts
use Rattle.net.proofs.State.path.Reads as path
use Rattle.net.proofs.State.last_digit.Reads as last_digit_reads
use Rattle.net.proofs.State.parent.Reads as parent_reads

abbrev calls : ℕ → lts.Claims
calls t =
    (last_digit_reads.Asked, last_digit_reads.Learnt, parent_reads.Asked, parent_reads.Learnt, goal.path-below t, path.Post)

pub returns-then-n-eq0 : goal.returns-then-n-eq0
returns-then-n-eq0 t c = path_none _ _ c.if-n-eq0.true

pub last_digit-d-requires : goal.last_digit-d-requires
last_digit-d-requires t c = c.requires.1

pub parent-requires : goal.parent-requires
parent-requires t c = tt

pub path-requires : goal.path-requires
path-requires t c =
    let half = low_half (2 ^ 24) c.last_digit-d.result c.args.self c.requires.1 in
    (omega arith, (omega arith, rw c.parent.ensures half))

-- the path of the half, of at most 23 digits
short : (t : ℕ) (c : lts.After-path (calls t) (goal.path-at t) path.Post (goal.the-clauses-path t)) → c.path.result < 2 ^ 46
short t c =
    let a = c.args in
    rw c.path.ensures (path_46 (a.n - 1) _ (omega arith))

pub overflow_mul-result : goal.overflow_mul-result
overflow_mul-result t c = omega (arith, short t c)

pub overflow_add-result : goal.overflow_add-result
overflow_add-result t c = omega (arith, short t c, last_small c.args.self)

pub returns : goal.returns
returns t c = let a = c.args in
    cc (path_more a.n a.self c.if-n-eq0.false)
