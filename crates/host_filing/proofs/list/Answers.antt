-- The grid's refusal, then 9, then the bytes of the count and of the codes (Calls). Assumes nothing.
use mathlib.Core.Path.{◌≡◌, refl}
use mathlib.Core.List.{[]}
use native.Mathlib.Omega.{arith}
use Prim.Native.Nat.{ℕ, ◌-◌}
use lib.ListN.{length, take, drop, replicate, length-take, length-drop}
use Rattle.frame.proofs.Told.{number_some}
use Rattle.octets.proofs.Laying.{laid_next}
use Rattle.exports.specs.Answers.{ListBytes}
use Rattle.exports.proofs.Exporting.{handed_number}
use Rattle.exports.proofs.Calls.{list_returns, count_most}
use Rattle.host_filing.proofs.list.Goals as goal

pub returns-in_err-count : goal.returns-in_err-count
returns-in_err-count c =
    let a = c.args in
    handed_number (λ (k : ℕ). ListBytes a.degree a.d a.out.now k a.out.now) _ _ c.from_residual.ensures
    ((list_returns _ _ _ (replicate 6 0) _ (omega arith) c.in_err-count.ensures).refused (number_some _))

pub returns-then-out-lt56 : goal.returns-then-out-lt56
returns-then-out-lt56 c =
    (list_returns _ _ _ (replicate 6 0) _ (omega arith) c.in_ok-count.ensures).short refl (omega arith)

pub write_words-requires : goal.write_words-requires
write_words-requires c =
    let L = c.put8.new.out in
    let k = count_most _ _ [] (replicate 6 0) _ (omega arith) c.in_ok-count.ensures refl in
    let o : length L ≡ length c.args.out.now = c.put8.auto.out in
    let l2 : length (take (length L - 8) (drop 8 L)) ≡ length L - 8 = simp (length-take, length-drop) (omega arith) in
    (k, omega (arith, k, c.list.auto.out))

pub returns : goal.returns
returns c =
    (list_returns _ _ _ (replicate 6 0) _ (omega arith) c.in_ok-count.ensures).sent refl (omega arith)
    (laid_next 8 _ _ _ c.put8.new.out c.write_words.new.out c.put8.ensures c.write_words.ensures)
