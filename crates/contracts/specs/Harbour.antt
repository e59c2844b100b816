-- Document 02, 2026-11: what the functions on the small form themselves say, as grid/specs/CallContracts.antt has it of
-- document 01's. Assumes nothing.
use Rattle.std.specs.Prelude.{◌≡◌, ℕ, Result}
use contract.Lifetimes.{Lfts}
use Rattle.frame.specs.declared.Refusal.{Refusal}
use Rattle.frame.specs.Refusals.{told_number}
use Rattle.frame.specs.Promises.{Says}
use Rattle.words.specs.declared.TriangleCode.{TriangleCode}
use Rattle.words.specs.Family.{code_told}
use Rattle.filing.specs.declared.Direction.{Direction}
use Rattle.grid.specs.CallContracts.{Checked}
use Rattle.harbour.specs.Refusals.{check_small}
use Rattle.harbour.specs.Answers.{ReadAnswer, WriteAnswer, SmallCrossAnswer, SmallFileAnswer}
use Rattle.harbour.specs.declared.SmallCode.{SmallCode}
use Rattle.harbour.specs.Answers.{small_told, small_step_told}
use Rattle.harbour.specs.declared.SmallStep.{SmallStep}
use Rattle.harbour.proofs.SmallCode.check.Reads as check_call
use Rattle.harbour.proofs.SmallCode.read.Reads as read_call
use Rattle.harbour.proofs.write.Reads as write_call
use Rattle.harbour.proofs.SmallCode.cross.Reads as cross_call
use Rattle.harbour.proofs.file.Reads as file_call

-- The calls in the order of `OneAnswer`, for any arguments and any result.
pub record Contracts : Type 0 where
  pub check : (κs : Lfts 0) (s : SmallCode) (r : Checked)
      → Says (check_call.Asked κs (s, tt)) (check_call.Learnt κs (s, tt) r (s, tt)) (told_number r ≡ check_small s)
  pub read : (κs : Lfts 0) (s : SmallCode) (r : Result TriangleCode Refusal)
      → Says (read_call.Asked κs (s, tt)) (read_call.Learnt κs (s, tt) r (s, tt)) (ReadAnswer s (code_told r))
  pub write : (κs : Lfts 0) (t : TriangleCode) (r : Result SmallCode Refusal)
      → Says (write_call.Asked κs (t, tt)) (write_call.Learnt κs (t, tt) r (t, tt)) (WriteAnswer t (small_told r))
  pub cross : (κs : Lfts 0) (s : SmallCode) (k : ℕ) (r : Result SmallStep Refusal)
      → Says (cross_call.Asked κs (s, (k, tt))) (cross_call.Learnt κs (s, (k, tt)) r (s, (k, tt))) (SmallCrossAnswer s k (small_step_told r))
  pub file : (κs : Lfts 0) (n : ℕ) (d : Direction) (r : Result SmallCode Refusal)
      → Says (file_call.Asked κs (n, (d, tt))) (file_call.Learnt κs (n, (d, tt)) r (n, (d, tt))) (SmallFileAnswer n d (small_told r))
