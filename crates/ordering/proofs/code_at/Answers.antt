-- Side, degree and digits (CodeCount). Assumes nothing.
-- 4 to the degree
use mathlib.Core.Path.{◌≡◌, sym, ◌∙◌, ap}
use Prim.Native.Nat.{ℕ, ◌+◌, ◌*◌, ◌/◌, ◌%◌, ◌^◌, ◌<◌}
use native.Mathlib.Nat.{mod-lt, div-lt_iff_lt-mul}
use native.Mathlib.Omega.{arith}
use Rattle.words.specs.Counting.{code_at}
use Rattle.words.specs.Family.{code_of}
use Rattle.words.specs.Words.{word_of}
use Rattle.words.proofs.CodeCount.{four_pow, four_pos}
use Rattle.ordering.proofs.code_at.Goals as goal
use Rattle.ordering.proofs.code_at.Lts as lts
use Rattle.ordering.proofs.code_at.Reads as reads
use Rattle.ordering.proofs.code_at.Tie as tie

abbrev After-power-each : Type 0
After-power-each = lts.After-power tie.the-claims reads.Pre reads.Post

each : (c : After-power-each) → c.power-each.result ≡ 4 ^ c.args.n
each c = c.power-each.ensures ∙ sym (four_pow c.args.n)

positive : (c : After-power-each) → 0 < c.power-each.result
positive c = rw (each c) (four_pos c.args.n)

side : (c : After-power-each) → c.args.place / c.power-each.result < 20
side c = rw (each c) ((div-lt_iff_lt-mul (four_pos c.args.n)).1 c.requires.1)

digits : (c : After-power-each) → c.args.place % c.power-each.result < 2 ^ (2 * c.args.n)
digits c = rw (sym c.power-each.ensures) (mod-lt c.args.place (positive c))

pub nonzero_div-place : goal.nonzero_div-place
nonzero_div-place c = positive c

pub overflow_add-place : goal.overflow_add-place
overflow_add-place c = omega (arith, side c)

pub nonzero_rem-place : goal.nonzero_rem-place
nonzero_rem-place c = positive c

pub word_of-requires : goal.word_of-requires
word_of-requires c = (omega (arith, side c), omega arith, digits c)

pub returns : goal.returns
unfolding code_at
returns c =
    let a = c.args in
    let q : c.word_of.result ≡ word_of (4 + a.place / 4 ^ a.n) a.n (a.place % 4 ^ a.n) =
    c.word_of.ensures
    ∙ ap (λ (k : ℕ). word_of (4 + a.place / k) a.n (a.place % k)) (each c.before) in
    ap code_of q
