-- `seats::placing::scaled` meets its contract. Assumes nothing.
use native.Mathlib.Omega.{arith}
use Prim.Native.Nat.{◌*◌, ◌≤◌}
use Rattle.seats.proofs.Scales.{a_bits, b_bits, c_bits, scaled_is}
use Rattle.seats.proofs.placing.scaled.Goals as goal
use Rattle.seats.proofs.placing.scaled.Lts as lts
use Rattle.seats.proofs.placing.scaled.Reads as reads
use Rattle.seats.proofs.placing.scaled.Tie as tie

abbrev After-scale_of-m : Type 0
After-scale_of-m = lts.After-scale_of tie.the-claims reads.Pre reads.Post

-- none is too large
a_small : (c : After-scale_of-m) → c.scale_of-m.result * c.args.a ≤ 1000000000
a_small c =
    let a = c.args in
    c.scale_of-m.ensures.2 a.a (a_bits a.a a.b a.c) c.requires.0

b_small : (c : After-scale_of-m) → c.scale_of-m.result * c.args.b ≤ 1000000000
b_small c =
    let a = c.args in
    c.scale_of-m.ensures.2 a.b (b_bits a.a a.b a.c) c.requires.1

c_small : (c : After-scale_of-m) → c.scale_of-m.result * c.args.c ≤ 1000000000
c_small c =
    let a = c.args in
    c.scale_of-m.ensures.2 a.c (c_bits a.a a.b a.c) c.requires.2

pub overflow_mul-result : goal.overflow_mul-result
overflow_mul-result c = record { fits = omega (arith, a_small c) }

pub overflow_mul-result-2 : goal.overflow_mul-result-2
overflow_mul-result-2 c = record { fits = omega (arith, b_small c) }

pub overflow_mul-result-3 : goal.overflow_mul-result-3
overflow_mul-result-3 c = record { fits = omega (arith, c_small c) }

pub returns : goal.returns
returns c =
    let a = c.args in
    let h = c.scale_of-m.ensures in
    scaled_is a.a a.b a.c _ h.0 h.3 (a_small c) (b_small c) (c_small c)
