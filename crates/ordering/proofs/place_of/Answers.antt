-- Side and path (CodeCount). Assumes nothing.
use mathlib.Core.Path.{◌≡◌}
use Prim.Native.Nat.{◌+◌, ◌-◌, ◌*◌, ◌^◌}
use native.Mathlib.Omega.{arith}
use Rattle.words.specs.Words.{degree_of, side_of}
use Rattle.words.proofs.Codes.{is_code, code_side, code_degree}
use Rattle.words.proofs.CodeCount.{place_word, place_fits}
use Rattle.words.specs.Counting.{place_of}
use Rattle.ordering.proofs.place_of.Goals as goal

pub overflow_sub-result : goal.overflow_sub-result
overflow_sub-result c =
    omega (arith, code_side (is_code c.args.t c.requires), c.side_of.ensures)

pub overflow_mul-result : goal.overflow_mul-result
overflow_mul-result c =
    let k = is_code c.args.t c.requires in
    let w = c.args.t.0 in
    let e : (c.side_of.result - 4) * c.power.result ≡ (side_of w - 4) * 2 ^ (2 * degree_of w) = cc in
    omega (arith, e, place_word k, place_fits k)

pub path_of-requires : goal.path_of-requires
path_of-requires c =
    omega (arith, code_degree (is_code c.args.t c.requires), c.degree_of-n.ensures)

pub overflow_add-result : goal.overflow_add-result
overflow_add-result c =
    let k = is_code c.args.t c.requires in
    let side = c.side_of.result in
    let e : (side - 4) * c.power.result + c.path_of.result ≡ place_of c.args.t = cc (place_word k) in
    omega (arith, e, place_fits k)

pub returns : goal.returns
returns c =
    cc (place_word (is_code c.args.t c.requires))
