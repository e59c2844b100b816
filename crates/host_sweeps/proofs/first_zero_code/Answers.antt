-- The codes passed have a first byte that is not 0 (Scanning, FirstCodes). Assumes nothing.
use Rattle.std.proofs.Common.{◌∙◌, ◌<◌, length, get_or, add-one, arith}
use Rattle.frame.proofs.Scanning.{stops, passes, none_left}
use Rattle.sweeps.specs.Means.Counted.{is_zero}
use Rattle.sweeps.proofs.CountedParts.{is_zero_lem, not_zero}
use Rattle.host_sweeps.specs.Means.CountedBytes.{first_bytes}
use Rattle.host_sweeps.proofs.FirstCodes.{firsts_long, firsts_at}
use Rattle.host_sweeps.proofs.first_zero_code.Goals as goal

pub returns-then-codes-place-eq0 : goal.returns-then-codes-place-eq0
returns-then-codes-place-eq0 c =
    let codes = c.args.codes.now in
    let n = c.args.n in
    let p = c.loop-place.place in
    let l : p < length (first_bytes n codes) = omega (arith, firsts_long n codes) in
    let h = stops is_zero (first_bytes n codes) p 0 l (is_zero_lem _ (firsts_at n codes p (omega arith) ∙ c.if-codes-place-eq0.true)) in
    omega (arith, h, c.loop-place.invariant)

pub loop-place-preserved : goal.loop-place-preserved
loop-place-preserved c =
    let codes = c.args.codes.now in
    let n = c.args.n in
    let p = c.loop-place.place in
    let l : p < length (first_bytes n codes) = omega (arith, firsts_long n codes) in
    let e = firsts_at n codes p (omega arith) in
    let h = passes is_zero (first_bytes n codes) p 0 l (not_zero (get_or (first_bytes n codes) p 0) (omega (arith, e))) in
    simp add-one (omega (arith, h, c.loop-place.invariant))

pub returns : goal.returns
returns c =
    let codes = c.args.codes.now in
    let n = c.args.n in
    let h = none_left is_zero (first_bytes n codes) c.loop-place.place (omega (arith, firsts_long n codes)) in
    omega (arith, h, c.loop-place.invariant)
