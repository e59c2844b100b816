-- Assumes nothing.
use mathlib.Core.Path.{◌≡◌, ◌∙◌, refl, ap, subst}
use Prim.Native.Nat.{ℕ, ◌+◌, ◌*◌, ◌<◌}
use native.Mathlib.Omega.{arith}
use lib.ListN.{length}
use Rattle.std.specs.Prelude.{Result, Ok, Err}
use Rattle.std.specs.Result.{result_and}
use Rattle.frame.specs.declared.Refusal.{Refusal}
use Rattle.frame.specs.Refusals.{told_number}
use Rattle.words.specs.Family.{code_told}
use Rattle.words.specs.declared.TriangleCode.{TriangleCode}
use Rattle.filing.specs.declared.Direction.{Direction}
use Rattle.directions.specs.Answers.{FileAnswer}
use Rattle.sweeps.specs.Sweeps.{sweep_answer, no_sweep}
use Rattle.sweeps.specs.Promises.{direction_at}
use Rattle.host_sweeps.specs.Answers.{directions_in}
use Rattle.host_sweeps.proofs.FirstCodes.{direction_in_lem}
use Rattle.host_sweeps.proofs.tell_in.Goals as goal

pub returns-then-refused-eq0 : goal.returns-then-refused-eq0
returns-then-refused-eq0 c =
    record {
      told = no_sweep 0;
      tells = record { none = λ z. refl; some = λ k. absurd (k c.if-refused-eq0.true) };
      put = c.put_three.ensures;
    }

-- the number of a direction's result is the refusal of its answer
its : {U : Type 0} (u : U) (r : Result TriangleCode Refusal) → told_number (result_and r (Ok u)) ≡ (code_told r).refusal
its u (Ok t) = refl
its u (Err f) = refl

pub returns-else-refused-eq0 : goal.returns-else-refused-eq0
returns-else-refused-eq0 c =
    let dirs = c.args.dirs.now in
    let r = c.file_byte_at.result in
    let place = c.first_zero_code-place.result in
    -- it is one of the directions
    let inside : 12 * place + 11 < length dirs =
    omega (arith, c.first_zero_code-place.ensures, c.requires.2 c.if-refused-eq0.false) in
    let is : FileAnswer c.args.degree (direction_at (directions_in dirs) place) (code_told r) =
    subst (λ (d : Direction). FileAnswer c.args.degree d (code_told r))
    (direction_in_lem dirs place inside) c.file_byte_at.ensures in
    let number : c.number_of.result ≡ (code_told r).refusal =
    c.number_of.ensures ∙ ap told_number c.and-first.ensures ∙ its _ r in
    record {
      told = sweep_answer 0 c.args.refused place c.number_of.result;
      tells = record {
        none = λ z. absurd (c.if-refused-eq0.false z);
        some = λ k. (
          code_told r,
          subst (λ (i : ℕ). FileAnswer c.args.degree (direction_at (directions_in dirs) i) (code_told r))
              c.first_zero_code-place.ensures is,
          λ i. sweep_answer 0 c.args.refused (c.first_zero_code-place.ensures i) (number i),
        );
      };
      put = c.put_three-else-refused-eq0.ensures;
    }
