-- The promises of specs/Promises.antt. Assumes nothing.
use mathlib.Core.Path.{◌∙◌, sym}
use Rattle.host_sweeps.specs.Promises.{OneAnswer, AsTheSweep}
use Rattle.host_sweeps.proofs.ByteSweeps.{refuse_odd}
use Rattle.host_sweeps.proofs.OneByteSweep.{sweep_keeps, hosted_sweep}

-- ---- exactly one answer

pub one_answer : OneAnswer
one_answer = record { sweep = sweep_keeps }

-- ---- as the call on numbers

pub as_the_sweep : AsTheSweep
as_the_sweep = record {
  sweep = hosted_sweep;
  odd = λ n dirs codes out r new l k p.
      (one_answer.sweep n dirs codes out).exactly (r, new) p ∙ sym (refuse_odd n dirs codes out l k);
}
