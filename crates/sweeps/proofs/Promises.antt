-- The promises of specs/Promises.antt, from the laws. Assumes nothing.
use mathlib.Core.Path.{◌≡◌, ◌∙◌, refl, sym, ap}
use mathlib.Core.Logic.{⊎_elim}
use mathlib.Core.List.{List, []}
use Prim.Native.Nat.{ℕ, ◌*◌, ◌≤◌}
use native.Mathlib.Omega.{arith}
use lib.IntN.{ℤ}
use lib.ListN.{length, take, drop, length-drop}
use lib.Seq.{length-take-le}
use Rattle.frame.proofs.Answering.{answers_or_not, answering}
use Rattle.sweeps.specs.Refusals.{refuse_sweep}
use Rattle.sweeps.specs.Answers.{SweepResult}
use Rattle.sweeps.specs.Promises.{OneAnswer, Places, Parts}
use Rattle.sweeps.specs.Sweeps.{SweepAnswer}
use Rattle.sweeps.proofs.Refused.{fine, refuse_none}
use Rattle.sweeps.proofs.OneSweep.{sweep_keeps}
use Rattle.sweeps.proofs.SweptParts.{into_none, into_long}
use Rattle.sweeps.proofs.SweptPlaces.{found, into_parts, alone}

pub one_answer : OneAnswer
one_answer = record { sweep = sweep_keeps }

-- a sweep that answers 0 is not refused as a whole
not_refused : {n : ℕ} {dirs : List ℤ} {out new : List ℕ} {r : SweepAnswer} → SweepResult n dirs out r new
    → r.refusal ≡ 0 → refuse_sweep n dirs out ≡ 0
not_refused {n} {dirs} {out} {new} {r} p z = sym ((sweep_keeps n dirs out).exactly (r, new) p) ∙ z

module _ (n : ℕ) (dirs : List ℤ) (out : List ℕ) (z : refuse_sweep n dirs out ≡ 0) where
  -- room for all of them
  pub room : length dirs ≤ 3 * length out
  room = let f = fine n dirs out z in omega (arith, f.threes, f.room)

pub places : Places
places = record {
  found = λ n dirs out r new p z. found (p.answered (not_refused p z));
  long = λ n dirs out r new p. ⊎_elim (λ z. into_long (p.answered z) (room n dirs out z))
      (λ some. ap (λ (x : SweepAnswer × List ℕ). length x.1) (p.refused some))
      (answers_or_not (refuse_sweep n dirs out));
  empty = λ n out l. answering (sym (refuse_none n [] out l refl (omega arith))) (into_none out);
}

pub parts : Parts
parts = record {
  parts = λ n h dirs out mid late a b l z x y.
      let f = fine n dirs out z in
      let t = length-take-le (3 * h) dirs (omega (arith, l)) in
      let d = length-drop (3 * h) dirs in
      let p = x.answered
      (sym (refuse_none n (take (3 * h) dirs) out f.low (omega (arith, t)) (omega (arith, t, l, f.room)))) in
      let m = into_long p (omega (arith, t, l, f.room)) in
      let q = y.answered (sym (refuse_none n (drop (3 * h) dirs) (drop h mid) f.low (omega (arith, d, l, f.threes))
      (omega (arith, d, l, f.threes, f.room, m, length-drop h mid)))) in
      answering z (into_parts h dirs (omega (arith, l)) p q);
  alone = λ n x y z out r new s p e f. alone (p.answered (not_refused p e)).swept f;
}
