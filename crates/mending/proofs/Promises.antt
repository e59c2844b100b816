-- Exactly one answer for every input; and what is promised of the mended list. Assumes nothing.
use mathlib.Core.Path.{refl}
use Rattle.frame.proofs.Answering.{keeps_known}
use Rattle.mending.specs.Answers.{Lists, refuse_mend, no_mend, mend_out}
use Rattle.mending.specs.Promises.{OneAnswer, Mends}
use Rattle.mending.specs.Answers.{MendAnswer}
use Rattle.mending.proofs.Mended.{passes, covers, no_four_lem}
use Rattle.mending.proofs.Shortest.{mended_shortest, mended_only}
use Rattle.mending.proofs.Again.{again, fits}

pub one_answer : OneAnswer
one_answer = record {
  mend = λ ws l. keeps_known {A = MendAnswer × Lists} (refuse_mend ws l) (mend_out ws l) (λ f. (no_mend f, l))
      (λ x. x.0.refusal) refl refl;
}

pub mends : Mends
mends = record {
  passes = passes;
  covers = covers;
  again = again;
  shortest = mended_shortest;
  no_four = no_four_lem;
  only = mended_only;
  fits = fits;
}
